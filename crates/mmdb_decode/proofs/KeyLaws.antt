-- The bytes of a key, from its header on.
use Rattle.std.proofs.Common.{◌≡◌, ℕ, ◌+◌, ◌-◌, List, length, Option, Some, None, Bool, true, false, nat_eq, refl, ap, cond, arith}
use Rattle.mmdb_format.specs.declared.header.Direct.{Direct}
use Rattle.mmdb_format.specs.Header.{◌>>=◌, bytes_at}
use Rattle.mmdb_format.specs.Pointer.{direct_at}
use Rattle.mmdb_format.specs.Contents.{end_of, key_bytes_at}
use Rattle.mmdb_decode.specs.Reading.{Reading}
use Rattle.mmdb_decode.specs.Maps.{raw_key_at, key_past}

abbrev pub key_reading : List ℕ → ℕ → Reading (List ℕ)
key_reading x q = record { value = x; next = q; values = 0; bytes = length x }

abbrev past : List ℕ × ℕ → Reading (List ℕ)
past key = record { value = key.0; next = key.1; values = 0; bytes = length key.0 - 0 }

no_free : (n : ℕ) → n - 0 ≡ n
no_free n = omega arith

key_content : (q : ℕ) (o : Option (List ℕ)) → ((o >>= λ x. Some (x, q)) >>= λ key. Some (past key)) ≡ (o >>= λ x. Some (key_reading x q))
key_content q None = refl
key_content q (Some x) = ap (λ n. Some (record { value = x; next = q; values = 0; bytes = n })) (no_free (length x))

key_kind : (s : List ℕ) (x : Direct) (b : Bool) → ((cond b (bytes_at s x.header.body x.header.size >>= λ y. Some (y, end_of x (x.header.body + x.header.size))) None) >>= λ key. Some (past key)) ≡ cond b (bytes_at s x.header.body x.header.size >>= λ y. Some (key_reading y (end_of x (x.header.body + x.header.size)))) None
key_kind s x true = key_content (end_of x (x.header.body + x.header.size)) (bytes_at s x.header.body x.header.size)
key_kind s x false = refl

key_direct : (s : List ℕ) (o : Option Direct) → ((o >>= λ x. cond (nat_eq x.header.kind 2) (bytes_at s x.header.body x.header.size >>= λ y. Some (y, end_of x (x.header.body + x.header.size))) None) >>= λ key. Some (past key)) ≡ (o >>= λ x. cond (nat_eq x.header.kind 2) (bytes_at s x.header.body x.header.size >>= λ y. Some (key_reading y (end_of x (x.header.body + x.header.size)))) None)
key_direct s None = refl
key_direct s (Some x) = key_kind s x (nat_eq x.header.kind 2)

pub raw_key-at : (s : List ℕ) (p d : ℕ) → raw_key_at s p d ≡ (direct_at s p 0 >>= λ x. cond (nat_eq x.header.kind 2) (bytes_at s x.header.body x.header.size >>= λ y. Some (key_reading y (end_of x (x.header.body + x.header.size)))) None)
unfolding key_past key_bytes_at
raw_key-at s p d = key_direct s (direct_at s p 0)
