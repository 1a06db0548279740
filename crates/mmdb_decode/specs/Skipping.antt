-- Skipping one inline value: containers nest at most this many deep, their parts are charged, and
-- pointers are not followed.
use Rattle.std.specs.Prelude.{◌≡◌, ◌↔◌, ℕ, zero, suc, ◌+◌, ◌*◌, ◌≤◌, max, List, Option, Some, None, nat_eq, if◌then◌else◌}
use Rattle.mmdb_format.specs.declared.header.Header.{Header}
use Rattle.mmdb_format.specs.Header.{◌>>=◌, header_at}
use Rattle.mmdb_format.specs.declared.header.Pointer.{Pointer}
use Rattle.mmdb_format.specs.Pointer.{pointer_at}
use Rattle.mmdb_format.specs.Contents.{Scalar, content_at, content_end, passed_end}
use Rattle.mmdb_decode.specs.Reading.{Reading, Meaning, given, followed}

-- the most containers that nest in a value that is skipped
abbrev pub most_nested : ℕ
most_nested = 128

-- how many parts a container has: a map has two a pair
unfoldable pub parts_of : Header → Option ℕ
parts_of header =
    if nat_eq header.kind 7 then Some (2 * header.size)
    else (if nat_eq header.kind 11 then Some header.size
    else None)

-- this many values passed, one after the other
abbrev pub passes : Meaning (Unit {0}) → ℕ → Meaning (Unit {0})
passes read zero = given tt
passes read (suc n) = followed read (λ _. passes read n)

-- a scalar is passed, and a pointer by its own bytes
abbrev pub skip_scalar : List ℕ → Header → Option (Reading (Unit {0}))
skip_scalar s header = passed_end s header >>= λ next. Some (record { value = tt; next = next; values = 0; bytes = 0 })

abbrev pub counted : ℕ → Reading (Unit {0}) → Reading (Unit {0})
counted parts r = record { value = tt; next = r.next; values = parts + r.values; bytes = r.bytes }

abbrev pub skip_flat : List ℕ → Header → Option ℕ → Option (Reading (Unit {0}))
skip_flat s header (Some parts) = None
skip_flat s header None = skip_scalar s header

abbrev pub skip_nested : Meaning (Unit {0}) → List ℕ → ℕ → Header → Option ℕ → Option (Reading (Unit {0}))
skip_nested inner s d header (Some parts) = passes inner parts s header.body d >>= λ r. Some (counted parts r)
skip_nested inner s d header None = skip_scalar s header

-- one inline value, whose containers nest at most this many deep
unfoldable pub skip_within : ℕ → Meaning (Unit {0})
skip_within zero s p d = header_at s p >>= λ header. skip_flat s header (parts_of header)
skip_within (suc n) s p d = header_at s p >>= λ header. skip_nested (skip_within n) s d header (parts_of header)

abbrev pub skip_at : Meaning (Unit {0})
skip_at s p d = skip_within most_nested s p d

-- The same in the words of the format: one inline value at p is passed, its containers nest h deep, it
-- has c parts in all its containers, and it ends before q.
mutual
  pub data Skips : List ℕ → ℕ → ℕ → ℕ → ℕ → Type 0 where
    passed_scalar : {s : List ℕ} {p : ℕ} {x : Scalar} {header : Header} → header_at s p ≡ Some header → content_at s header ≡ Some x → Skips s p 0 0 (content_end header)
    passed_pointer : {s : List ℕ} {p : ℕ} {header : Header} {to : Pointer} → header_at s p ≡ Some header → header.kind ≡ 1 → pointer_at s header.body header.size ≡ Some to → Skips s p 0 0 to.next
    passed_container : {s : List ℕ} {p n h c q : ℕ} {header : Header} → header_at s p ≡ Some header → parts_of header ≡ Some n → AllSkip s header.body n h c q → Skips s p (suc h) (n + c) q

  pub data AllSkip : List ℕ → ℕ → ℕ → ℕ → ℕ → ℕ → Type 0 where
    none_passed : {s : List ℕ} {p : ℕ} → AllSkip s p zero 0 0 p
    one_more_passed : {s : List ℕ} {p n h i b c q r : ℕ} → Skips s p h b q → AllSkip s q n i c r → AllSkip s p (suc n) (max h i) (b + c) r

-- skipping a value is passing it, where its containers nest at most so deep; no byte is charged
abbrev pub SkippingIsPassing : Type 0
SkippingIsPassing =
    (s : List ℕ) (p d q c b : ℕ) →
    (skip_at s p d ≡ Some (record { value = tt; next = q; values = c; bytes = b })) ↔ ((h : ℕ) × Skips s p h c q × (h ≤ most_nested) × (b ≡ 0))
