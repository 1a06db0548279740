-- The networks that show leaves of a list, and the bits of ranges.
use Rattle.std.proofs.Common.{◌≡◌, ℕ, ◌+◌, ◌-◌, ◌/◌, ◌^◌, ◌<◌, ◌≤◌, ◌&&◌, ◌||◌, not, Bool, true, false, nat_lt, List, [], ◌++◌, length, take, refl, ap, arith, sym, ◌∙◌, inl, inr}
use Rattle.std.proofs.lemmas.Bool.{cases_Bool, cases_lt, lt-ltb, le-ltb, and_parts}
use Rattle.std.proofs.Math.Seq.{take-append-add}
use Rattle.mmdb_net.specs.Bits.{bits_of, zero_bits}
use Rattle.mmdb_net.proofs.BitLaws.{bits_of-split, bits_of-zero, length-zero_bits}
use Rattle.mmdb_reader.specs.declared.positions.Position.{Position}
use Rattle.mmdb_reader.specs.File.{Database, width, has_ipv6, before_ipv4}
use Rattle.std.specs.declared.net.ip_addr.IpAddr.{IpAddr}
use Rattle.std.specs.declared.net.ip_addr.IpAddr.TheVariants.{V4, V6}
use Rattle.std.specs.declared.net.ipv4_addr.Ipv4Addr.{Ipv4Addr}
use Rattle.std.specs.declared.net.ipv6_addr.Ipv6Addr.{Ipv6Addr}
use Rattle.std.proofs.lemmas.List.{append-nil}
use Rattle.mmdb_reader.specs.Lookup.{block_at}
use Rattle.mmdb_reader.specs.Shown.{has_ipv4_subtree}
use Rattle.mmdb_net.specs.Bits.{number_of}
use Rattle.mmdb_reader.specs.ShownLeaf.{begins_with_zeros, is_leaf_shown_as_ipv4}
use Rattle.mmdb_reader.specs.Positions.{IsAt, bits_to}
use Rattle.mmdb_reader.proofs.NumberLemmas.{number-below, zeros-number, number-zeros}
use Rattle.mmdb_reader.proofs.PositionLemmas.{length-bits_to}

module _ (db : Database) (p : Position) (at : IsAt db p) (six : width db ≡ 128) where
  address_is : p.address ≡ number_of 128 (bits_to db p)
  address_is = at.filled ∙ ap (λ (w : ℕ). number_of w (bits_to db p)) six

  bits_long : length (bits_to db p) ≡ p.prefix
  bits_long = length-bits_to db p at.within

  behind_zeros : p.address < 4294967296 → 96 ≤ p.prefix → begins_with_zeros 96 (bits_to db p) ≡ true
  behind_zeros small long = number-zeros 96 128 (bits_to db p) (omega arith) (omega (arith, bits_long)) (omega (arith, address_is))

  zeros_behind : begins_with_zeros 96 (bits_to db p) ≡ true → (96 ≤ p.prefix) × (p.address < 4294967296)
  zeros_behind z = let h = zeros-number 96 128 (bits_to db p) (omega arith) z in (omega (arith, h.0, bits_long), omega (arith, h.1, address_is))

  pub zeros-short : p.prefix < 96 → false ≡ begins_with_zeros 96 (bits_to db p)
  zeros-short short = elim (cases_Bool (begins_with_zeros 96 (bits_to db p))) [
    | inl zeros ↦ absurd (let h = zeros_behind zeros in omega (arith, h.0))
    | inr other ↦ sym other
  ]

  pub zeros-long : 96 ≤ p.prefix → nat_lt p.address 4294967296 ≡ begins_with_zeros 96 (bits_to db p)
  zeros-long long = elim (cases_lt p.address 4294967296) [
    | inl small ↦ lt-ltb _ _ small ∙ sym (behind_zeros small long)
    | inr large ↦ le-ltb _ _ large ∙ elim (cases_Bool (begins_with_zeros 96 (bits_to db p))) [
      | inl zeros ↦ absurd (let h = zeros_behind zeros in omega (arith, h.1))
      | inr other ↦ sym other
    ]
  ]

subtree_zeros : (a b c : Bool) → a ≡ true → (not a || b && c) ≡ true → c ≡ true
subtree_zeros true b c e h = (and_parts b c h).1
subtree_zeros false b c e h = cc

-- a leaf that is shown as IPv4 has an IPv4 address after the bits before IPv4
pub shown-parts : (db : Database) (p : Position) → IsAt db p → is_leaf_shown_as_ipv4 db (bits_to db p) ≡ true → (p.address < 4294967296) × (width db - 32 ≤ p.prefix)
shown-parts db p at shown = elim (cases_Bool (has_ipv6 db)) [
  | inl six ↦
      let w : width db ≡ 128 = rw six refl in
      let h = zeros_behind db p at w (subtree_zeros (has_ipv6 db) (has_ipv4_subtree db) _ six shown) in
      (h.1, omega (arith, w, h.0))
  | inr four ↦
      let w : width db ≡ 32 = rw four refl in
      let below = number-below 32 (bits_to db p) in
      let is = at.filled ∙ ap (λ (n : ℕ). number_of n (bits_to db p)) w in
      (omega (arith, below, is), omega (arith, w))
]

zero_bits-zero : zero_bits 0 ≡ []
unfolding zero_bits
zero_bits-zero = refl

-- the first bits of an IPv4 address in a database
pub take-ipv4 : (db : Database) (a k : ℕ) → a < 4294967296 → take (width db - 32 + k) (bits_of (width db) a) ≡ before_ipv4 db ++ take k (bits_of 32 a)
take-ipv4 db a k small = elim (cases_Bool (has_ipv6 db)) [
  | inl six ↦
      let w : width db ≡ 128 = rw six refl in
      let before : before_ipv4 db ≡ zero_bits 96 = rw six refl in
      let none : a / 2 ^ 32 ≡ 0 = omega arith in
      let split : bits_of 128 a ≡ zero_bits 96 ++ bits_of 32 a = bits_of-split 96 32 128 a refl ∙ ap (λ (n : ℕ). bits_of 96 n ++ bits_of 32 a) none ∙ ap (λ (xs : List Bool). xs ++ bits_of 32 a) (bits_of-zero 96) in
      let count : width db - 32 + k ≡ length (zero_bits 96) + k = omega (arith, w, length-zero_bits 96) in
      ap (λ (n : ℕ). take (width db - 32 + k) (bits_of n a)) w ∙ ap (λ (n : ℕ). take n (bits_of 128 a)) count ∙ ap (take (length (zero_bits 96) + k)) split ∙ take-append-add (zero_bits 96) (bits_of 32 a) k ∙ ap (λ (xs : List Bool). xs ++ take k (bits_of 32 a)) (sym before)
  | inr four ↦
      let w : width db ≡ 32 = rw four refl in
      let before : before_ipv4 db ≡ [] = rw four zero_bits-zero in
      let count : width db - 32 + k ≡ k = omega (arith, w) in
      ap (λ (n : ℕ). take (width db - 32 + k) (bits_of n a)) w ∙ ap (λ (n : ℕ). take n (bits_of 32 a)) count ∙ ap (λ (xs : List Bool). xs ++ take k (bits_of 32 a)) (sym before)
]

-- so the IPv4 network that shows a leaf has the leaf's bits
pub leaf-ipv4 : (db : Database) (p : Position) (a zeros : ℕ) → a ≡ p.address → zeros ≡ width db - 32 → p.address < 4294967296 → width db - 32 ≤ p.prefix → before_ipv4 db ++ take (p.prefix - zeros) (bits_of 32 a) ≡ bits_to db p
leaf-ipv4 db p a zeros same is small long =
    let back : width db - 32 + (p.prefix - zeros) ≡ p.prefix = omega arith in
    ap (λ (n : ℕ). before_ipv4 db ++ take (p.prefix - zeros) (bits_of 32 n)) same ∙ sym (take-ipv4 db p.address (p.prefix - zeros) small) ∙ ap (λ (n : ℕ). take n (bits_of (width db) p.address)) back

not_first : (a b : Bool) → (not a || b) ≡ false → a ≡ true
not_first true b h = refl
not_first false b h = sym h

-- a leaf that is not is of an IPv6 database
pub leaf-ipv6 : (db : Database) (p : Position) (a : ℕ) → IsAt db p → is_leaf_shown_as_ipv4 db (bits_to db p) ≡ false → (p.address < 2 ^ 128 → a ≡ p.address) → take p.prefix (bits_of 128 a) ≡ bits_to db p
leaf-ipv6 db p a at other is =
    let six : has_ipv6 db ≡ true = not_first (has_ipv6 db) _ other in
    let w : width db ≡ 128 = rw six refl in
    let fits : p.address < 2 ^ 128 = omega (arith, address_is db p at w, number-below 128 (bits_to db p)) in
    ap (λ (n : ℕ). take p.prefix (bits_of 128 n)) (is fits) ∙ ap (λ (n : ℕ). take p.prefix (bits_of n p.address)) (sym w)

pub width-ge : (db : Database) → 32 ≤ width db
width-ge db = elim (cases_Bool (has_ipv6 db)) [ inl six ↦ rw six (omega arith) | inr four ↦ rw four (omega arith) ]

-- the whole space has no bits
pub whole-ipv4 : (db : Database) (a : IpAddr) (prefix : ℕ) (v4 : Ipv4Addr) → width db ≡ 32 → a ≡ V4 v4 → prefix ≡ 0 → block_at db a prefix ≡ []
whole-ipv4 db a prefix v4 w is none = elim (cases_Bool (has_ipv6 db)) [
  | inl six ↦ let wide : width db ≡ 128 = rw six refl in absurd (omega (arith, w, wide))
  | inr four ↦
      let before : before_ipv4 db ≡ [] = rw four zero_bits-zero in
      ap (λ (b : IpAddr). block_at db b prefix) is ∙ ap (block_at db (V4 v4)) none ∙ append-nil (before_ipv4 db) ∙ before
]

pub whole-ipv6 : (db : Database) (a : IpAddr) (prefix : ℕ) (v6 : Ipv6Addr) → a ≡ V6 v6 → prefix ≡ 0 → block_at db a prefix ≡ []
whole-ipv6 db a prefix v6 is none = ap (λ (b : IpAddr). block_at db b prefix) is ∙ ap (block_at db (V6 v6)) none
