-- Leaves that walks end on, and the leaf on an address.
use Rattle.std.proofs.Common.{◌≡◌, ℕ, ◌+◌, ◌-◌, ◌<◌, ◌≤◌, ◌⊎◌, Bool, true, false, nat_lt, ◌&&◌, ◌||◌, not, List, [], ◌∷◌, ◌++◌, take, drop, length, if◌then◌else◌, arith, sym, ap, ◌∙◌, refl, subst, inl, inr, length-append, append_assoc}
use Rattle.std.proofs.lemmas.Bool.{cases_lt, cases_Bool, eq-eqb, lt-ltb, le-ltb}
use Rattle.std.proofs.lemmas.List.{take_all, take-append-drop, take-append-le, length-take-le, take-take}
use Rattle.std.proofs.Math.Seq.{take-append_seam, take-append-add}
use Rattle.std.specs.declared.net.ip_addr.IpAddr.{IpAddr}
use Rattle.std.specs.declared.net.ip_addr.IpAddr.TheVariants.{V4, V6}
use Rattle.std.specs.declared.net.ipv4_addr.Ipv4Addr.{Ipv4Addr}
use Rattle.std.specs.declared.net.ipv6_addr.Ipv6Addr.{Ipv6Addr}
use Rattle.std.specs.Net.Addr.{ipv4_bits, ipv6_bits}
use Rattle.mmdb_net.specs.Bits.{bits_of, zero_bits, IsPrefix}
use Rattle.mmdb_net.proofs.BitLaws.{length-bits_of, length-zero_bits, take-zero_bits, bits_of-zero}
use Rattle.mmdb_tree.specs.declared.table.Table.{Table}
use Rattle.mmdb_tree.specs.Tree.{walk_from, walk}
use Rattle.mmdb_reader.specs.File.{Database, tree_of, has_ipv6, width, before_ipv4}
use Rattle.mmdb_reader.specs.Leaves.{IsLeaf}
use Rattle.mmdb_reader.specs.Lookup.{block_at}
use Rattle.mmdb_reader.specs.Working.{IsLeafAt}
use Rattle.mmdb_reader.specs.Shown.{ipv4_start, is_shown_as_ipv4}
use Rattle.mmdb_tree.specs.Descents.{Walks, Descends}
use Rattle.mmdb_reader.specs.Kept.{IsReader}
use Rattle.mmdb_tree.proofs.WalkLemmas.{walk-append, walk-nil, walk-inner, walk-past}

-- Bits that lead to `start` on nodes alone, and the bits that a walk from there took to the end of the
-- walk, are a leaf.
pub record EndsOn (db : Database) (front bits : List Bool) (start taken number : ℕ) : Type 0 where
  pub begins : start ≡ walk (tree_of db) front
  pub front_on_nodes : (k : ℕ) → k < length front → walk (tree_of db) (take k front) < db.metadata.node_count
  pub walks : Walks (tree_of db) start bits taken number
  pub short : length front + taken ≤ width db
  pub ended : (db.metadata.node_count ≤ number) ⊎ (length front + taken ≡ width db)

module _ (db : Database) (front bits : List Bool) (start taken number : ℕ) (e : EndsOn db front bits start taken number) where
  -- where a beginning leads that is longer than the front
  behind : (k : ℕ) → k ≤ taken → walk (tree_of db) (take (length front + k) (front ++ take taken bits)) ≡ walk_from (tree_of db) start (take k bits)
  behind k le =
      ap (walk (tree_of db)) (take-append-add front (take taken bits) k ∙ ap (λ (xs : List Bool). front ++ xs) (take-take k taken bits le)) ∙ walk-append (tree_of db) 0 front (take k bits)
      ∙ ap (λ (n : ℕ). walk_from (tree_of db) n (take k bits)) (sym e.begins)

  taken_len : length (take taken bits) ≡ taken
  taken_len = length-take-le taken bits e.walks.within

  -- each beginning leads to a node
  inner_at : (k : ℕ) → k < length front + taken → walk (tree_of db) (take k (front ++ take taken bits)) < db.metadata.node_count
  inner_at k below = elim (cases_lt k (length front)) [
    | inl short ↦ let le : k ≤ length front = omega arith in rw take-append-le (e.front_on_nodes k short)
    | inr long ↦
        let far : length front + (k - length front) ≡ k = omega arith in
        let there = behind (k - length front) (omega arith) in
        let on = e.walks.on_nodes (k - length front) (omega arith) in
        let here = ap (λ (j : ℕ). walk (tree_of db) (take j (front ++ take taken bits))) far in
        omega (arith, there, on, here)
  ]

  pub ends_at : walk (tree_of db) (front ++ take taken bits) ≡ number
  ends_at = walk-append (tree_of db) 0 front (take taken bits) ∙ ap (λ (n : ℕ). walk_from (tree_of db) n (take taken bits)) (sym e.begins) ∙ sym e.walks.reached

  pub IsLeaf-ends : IsLeaf db (front ++ take taken bits)
  IsLeaf-ends =
      let len : length (front ++ take taken bits) ≡ length front + taken = length-append front (take taken bits) ∙ ap (λ (n : ℕ). length front + n) taken_len in
      record {
        inner = λ c x d is.
            let below : length c < length front + taken = omega (arith, len, ap length is, length-append c (x ∷ d)) in
            let first : take (length c) (front ++ take taken bits) ≡ c = ap (take (length c)) is ∙ take-append_seam c (x ∷ d) in
            omega (arith, ap (walk (tree_of db)) first, inner_at (length c) below);
        short = omega (arith, len, e.short);
        ended = elim e.ended [ inl out ↦ inl (omega (arith, ends_at, out)) | inr all ↦ inr (omega (arith, len, all)) ];
      }

  pub IsPrefix-ends : IsPrefix (front ++ take taken bits) (front ++ bits)
  IsPrefix-ends = (drop taken bits, ap (λ (xs : List Bool). front ++ xs) (sym (take-append-drop taken bits)) ∙ sym (append_assoc front (take taken bits) (drop taken bits)))

-- a descent that has come to its end, after a front that leads to its start
pub EndsOn-descends : (db : Database) (front bits : List Bool) (start taken number : ℕ) → start ≡ walk (tree_of db) front → ((k : ℕ) → k < length front → walk (tree_of db) (take k front) < db.metadata.node_count) → length front + length bits ≡ width db
    → Descends (tree_of db) start bits taken number → EndsOn db front bits start taken number
EndsOn-descends db front bits start taken number begins on whole d =
    let inside = d.walks.within in
    record {
      begins = begins;
      front_on_nodes = on;
      walks = d.walks;
      short = omega arith;
      ended = elim (cases_lt taken (length bits)) [ inl short ↦ inl (d.ends short) | inr all ↦ inr (omega arith) ];
    }

-- the zero bits before IPv4 and its own bits are a full address
pub length-before_ipv4 : (db : Database) → length (before_ipv4 db) + 32 ≡ width db
length-before_ipv4 db = elim (cases_Bool (has_ipv6 db)) [
  | inl six ↦ rw six (omega (arith, length-zero_bits 96))
  | inr four ↦ rw four (omega (arith, length-zero_bits 0))
]

pub depth-le : (db : Database) (start depth : ℕ) → Descends (tree_of db) 0 (before_ipv4 db) depth start → depth ≤ 96
depth-le db start depth d = let inside = d.walks.within in elim (cases_Bool (has_ipv6 db)) [
  | inl six ↦ let len : length (before_ipv4 db) ≡ 96 = rw six (length-zero_bits 96) in omega arith
  | inr four ↦ let len : length (before_ipv4 db) ≡ 0 = rw four (length-zero_bits 0) in omega arith
]

-- where IPv4 begins on a node, the walk has taken all zero bits before it
module _ (db : Database) (start depth : ℕ) (d : Descends (tree_of db) 0 (before_ipv4 db) depth start) where
  -- the walk of all zero bits leads where the walk ended
  pub start-is : start ≡ ipv4_start db
  start-is = elim (cases_lt depth (length (before_ipv4 db))) [
    | inl short ↦
        let off = d.ends short in
        let out : db.metadata.node_count ≤ walk (tree_of db) (take depth (before_ipv4 db)) = let r = d.walks.reached in omega (arith, r, off) in
        d.walks.reached ∙ sym (walk-past (tree_of db) 0 (take depth (before_ipv4 db)) (drop depth (before_ipv4 db)) out) ∙ ap (walk (tree_of db)) (take-append-drop depth (before_ipv4 db))
    | inr all ↦ d.walks.reached ∙ ap (walk (tree_of db)) (take_all depth (before_ipv4 db) all)
  ]

  pub before-on_nodes : start < db.metadata.node_count → (k : ℕ) → k < length (before_ipv4 db) → walk (tree_of db) (take k (before_ipv4 db)) < db.metadata.node_count
  before-on_nodes on k below =
      let same = start-is in
      let whole : walk (tree_of db) (take k (before_ipv4 db) ++ drop k (before_ipv4 db)) ≡ ipv4_start db = ap (walk (tree_of db)) (take-append-drop k (before_ipv4 db)) in
      walk-inner (tree_of db) 0 (take k (before_ipv4 db)) (drop k (before_ipv4 db)) (omega (arith, whole, same, on))

  -- IPv4 where it begins on a node
  pub IsLeafAt-v4 : (a : Ipv4Addr) (taken number : ℕ) → start < db.metadata.node_count → Descends (tree_of db) start (bits_of 32 (ipv4_bits a)) taken number → IsLeafAt db (V4 a) (block_at db (V4 a) taken) number
  IsLeafAt-v4 a taken number on more =
      let e = EndsOn-descends db (before_ipv4 db) (bits_of 32 (ipv4_bits a)) start taken number start-is (before-on_nodes on) (omega (arith, length-before_ipv4 db, length-bits_of 32 (ipv4_bits a))) more in
      record { can_ask = tt; is_leaf = IsLeaf-ends db _ _ _ _ _ e; on_address = IsPrefix-ends db _ _ _ _ _ e; reached = ends_at db _ _ _ _ _ e }

  -- IPv4 where it begins on no node
  pub IsLeafAt-none : (a : Ipv4Addr) (b : Ipv6Addr) → db.metadata.node_count ≤ start → ipv6_bits b ≡ 0 → IsLeafAt db (V4 a) (block_at db (V6 b) depth) start
  IsLeafAt-none a b off is_zero =
      let few = depth-le db start depth d in
      let inside = d.walks.within in
      let len = length-before_ipv4 db in
      let e : EndsOn db [] (before_ipv4 db) 0 depth start = record {
        begins = sym (walk-nil (tree_of db) 0);
        front_on_nodes = λ k h. absurd (omega arith);
        walks = d.walks;
        short = omega arith;
        ended = inl off;
      } in
      let shown : block_at db (V6 b) depth ≡ take depth (before_ipv4 db) =
      ap (λ (n : ℕ). take depth (bits_of 128 n)) is_zero ∙ ap (take depth) (bits_of-zero 128) ∙ take-zero_bits depth 128 (omega arith) ∙ sym (take-zero_bits depth _ (omega (arith, length-zero_bits (if has_ipv6 db then 96 else 0))))
      in
      let on = IsPrefix-ends db [] (before_ipv4 db) 0 depth start e in
      rw shown (record {
        can_ask = tt;
        is_leaf = IsLeaf-ends db [] (before_ipv4 db) 0 depth start e;
        on_address = (on.0 ++ bits_of 32 (ipv4_bits a), ap (λ (xs : List Bool). xs ++ bits_of 32 (ipv4_bits a)) on.1 ∙ append_assoc (take depth (before_ipv4 db)) on.0 (bits_of 32 (ipv4_bits a)));
        reached = ends_at db [] (before_ipv4 db) 0 depth start e;
      })

pub IsLeafAt-v6 : (db : Database) (a : Ipv6Addr) (taken number : ℕ) → db.metadata.ip_version ≡ 6 → Descends (tree_of db) 0 (bits_of 128 (ipv6_bits a)) taken number → IsLeafAt db (V6 a) (block_at db (V6 a) taken) number
IsLeafAt-v6 db a taken number six d =
    let same : has_ipv6 db ≡ true = eq-eqb _ _ six in
    let full : 0 + length (bits_of 128 (ipv6_bits a)) ≡ width db = rw same (omega (arith, length-bits_of 128 (ipv6_bits a))) in
    let e : EndsOn db [] (bits_of 128 (ipv6_bits a)) 0 taken number = EndsOn-descends db [] (bits_of 128 (ipv6_bits a)) 0 taken number (sym (walk-nil (tree_of db) 0)) (λ k h. absurd (omega arith)) full d in
    record {
      can_ask = six;
      is_leaf = IsLeaf-ends db [] (bits_of 128 (ipv6_bits a)) 0 taken number e;
      on_address = IsPrefix-ends db [] (bits_of 128 (ipv6_bits a)) 0 taken number e;
      reached = ends_at db [] (bits_of 128 (ipv6_bits a)) 0 taken number e;
    }

-- ---- the kind of network that is shown

zero_bits-zero : zero_bits 0 ≡ []
unfolding zero_bits
zero_bits-zero = refl

unless_both : (a b : Bool) → a ≡ true → b ≡ false → (not a || a && b) ≡ false
unless_both true false p q = refl
unless_both true true p q = q
unless_both false b p q = sym p

where_first : (a b : Bool) → b ≡ true → (not a || a && b) ≡ true
where_first true b q = q
where_first false b q = refl

pub shown-none : (db : Database) (a : IpAddr) (start depth : ℕ) → Descends (tree_of db) 0 (before_ipv4 db) depth start → 0 < db.metadata.node_count → db.metadata.node_count ≤ start → is_shown_as_ipv4 db a ≡ false
shown-none db (V6 a) start depth d some off = refl
shown-none db (V4 a) start depth d some off =
    let same = start-is db start depth d in
    let out : nat_lt (ipv4_start db) db.metadata.node_count ≡ false = le-ltb _ _ (omega (arith, same, off)) in
    elim (cases_Bool (has_ipv6 db)) [
      | inl six ↦ unless_both (has_ipv6 db) _ six out
      | inr four ↦
          let none : before_ipv4 db ≡ [] = rw four zero_bits-zero in
          absurd (omega (arith, ap (walk (tree_of db)) none, walk-nil (tree_of db) 0, same, off, some))
    ]

pub shown-node : (db : Database) (a : Ipv4Addr) (start depth : ℕ) → Descends (tree_of db) 0 (before_ipv4 db) depth start → start < db.metadata.node_count → is_shown_as_ipv4 db (V4 a) ≡ true
shown-node db a start depth d on =
    let same = start-is db start depth d in
    let inside : nat_lt (ipv4_start db) db.metadata.node_count ≡ true = lt-ltb _ _ (omega (arith, same, on)) in
    where_first (has_ipv6 db) _ inside

-- ---- readers

-- what a reader keeps, of its value
pub reader_of : (db seen : Database) (section start depth : ℕ) (ipv4 ipv6 : Table) → seen ≡ db → IsReader seen section start depth ipv4 ipv6 → IsReader db section start depth ipv4 ipv6
reader_of db seen section start depth ipv4 ipv6 same h = let P : Database → Type 0 = λ x. IsReader x section start depth ipv4 ipv6 in subst P same h

pub ipv6_bits-unspecified : ipv6_bits (record { segments = 0 ∷ 0 ∷ 0 ∷ 0 ∷ 0 ∷ 0 ∷ 0 ∷ 0 ∷ [] }) ≡ 0
unfolding ipv6_bits
ipv6_bits-unspecified = refl
