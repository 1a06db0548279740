-- No list of blocks with the same addresses is shorter than the joined one.
use Rattle.std.proofs.Common.{◌≡◌, ℕ, ◌%◌, ◌^◌, ◌<◌, ◌≤◌, ◌⊎◌, List, [], ◌∷◌, length, arith}
use Rattle.std.proofs.lemmas.Nat.{pow_pos}
use Rattle.std.proofs.lemmas.Bool.{cases_lt}
use Rattle.std.proofs.Common.{inl, inr}
use Rattle.std.specs.List.{AllByRecursion}
use Rattle.mmdb_blocks.specs.declared.block.Block.{Block}
use Rattle.mmdb_blocks.specs.Blocks.{end, IsBlock, IsWithin, IsIn, SameAddresses, AscendsFrom, HasNoHalves, IsJoined}
use Rattle.mmdb_blocks.proofs.NumberLaws.{lower, nested, same-start}
use Rattle.mmdb_blocks.proofs.UniqueLaws.{level, first-within, after-start, in-others, as-large}

-- all addresses of the one block are in the other
abbrev pub IsInside : Block → Block → Type 0
IsInside k j = (j.first ≤ k.first) × (end k ≤ end j)

abbrev pub IsInsideOne : List Block → Block → Type 0
IsInsideOne [] k = ⊥
IsInsideOne (j ∷ js) k = IsInside k j ⊎ IsInsideOne js k

-- a block that begins within the first one of the list is inside it
inside-first : (k j : Block) (js : List Block) (s : ℕ) → IsBlock k → AllByRecursion IsBlock (j ∷ js) → AscendsFrom s (j ∷ js) → HasNoHalves (j ∷ js) → ((a : ℕ) → IsWithin a k → IsIn a (j ∷ js)) → IsWithin k.first j → IsInside k j
inside-first k j js s is_block each asc apart covers within = elim (cases_lt (level j) (level k)) [
  | inl lt ↦ (
      let aligned : k.first % 2 ^ level j ≡ 0 = lower k.first (level j) (level k) (omega arith) is_block.aligned in
      let same : k.first ≡ j.first = same-start k.first j.first (level j) aligned each.0.aligned within.0 within.1 in
      let large : level k ≤ level j = as-large k j js is_block each (omega arith, asc.1) apart covers in
      absurd (omega arith))
  | inr le ↦ (within.0, nested k.first j.first (level k) (level j) le is_block.aligned each.0.aligned within.1)
]

-- a block whose addresses are in a joined list is inside one of its blocks
pub inside-one : (k : Block) (js : List Block) (s : ℕ) → IsBlock k → AllByRecursion IsBlock js → AscendsFrom s js → HasNoHalves js → ((a : ℕ) → IsWithin a k → IsIn a js) → IsInsideOne js k
inside-one k [] s is_block each asc apart covers = covers k.first (first-within k)
inside-one k (j ∷ js) s is_block each asc apart covers = elim (covers k.first (first-within k)) [
  | inl within ↦ inl (inside-first k j js s is_block each asc apart covers within)
  | inr later ↦ (
      let from : end j ≤ k.first = after-start k.first (end j) js asc.1 later in
      inr (inside-one k js (end j) is_block each.1 asc.1 apart.1 (λ a h. in-others a j js (omega (arith, from, h.0)) (covers a h))))
]

-- a block inside one of an ascending list does not begin before it
pub inside-after : (k : Block) (js : List Block) (s : ℕ) → AscendsFrom s js → IsInsideOne js k → s ≤ k.first
inside-after k [] s asc h = absurd h
inside-after k (j ∷ js) s asc (inl h) = omega (arith, asc.0, h.0)
inside-after k (j ∷ js) s asc (inr h) = omega (arith, asc.0, inside-after k js (end j) asc.1 h, pow_pos (level j))

-- the address is in a block of the kind that begins before `e`
abbrev pub IsBefore : (Block → Type 0) → ℕ → ℕ → Type 0
IsBefore P e a = (k : Block) × P k × IsWithin a k × (k.first < e)

-- the blocks of a list that begin at `e` or later
pub record Later (P : Block → Type 0) (e : ℕ) (ks : List Block) : Type 0 where
  pub rest : List Block
  pub each : AllByRecursion (λ k. P k × (e ≤ k.first)) rest
  pub covers : (a : ℕ) → IsIn a ks → IsBefore P e a ⊎ IsIn a rest
  pub no_more : length rest ≤ length ks
  pub shorter : (a : ℕ) → IsIn a ks → a < e → length rest < length ks

pub later : (P : Block → Type 0) (e : ℕ) (ks : List Block) → AllByRecursion P ks → Later P e ks
later P e [] each = record { rest = []; each = tt; covers = λ a h. absurd h; no_more = omega arith; shorter = λ a h lt. absurd h }
later P e (k ∷ ks) each =
    let more : Later P e ks = later P e ks each.1 in
    elim (cases_lt k.first e) [
      | inl lt ↦ record {
        rest = more.rest;
        each = more.each;
        covers = λ a h. elim h [ inl w ↦ inl (k, each.0, w, lt) | inr o ↦ more.covers a o ];
        no_more = omega (arith, more.no_more);
        shorter = λ a h below. omega (arith, more.no_more);
      }
      | inr le ↦ record {
        rest = k ∷ more.rest;
        each = ((each.0, le), more.each);
        covers = λ a h. elim h [ inl w ↦ inr (inl w) | inr o ↦ elim (more.covers a o) [ inl b ↦ inl b | inr i ↦ inr (inr i) ] ];
        no_more = omega (arith, more.no_more);
        shorter = λ a h below. elim h [ inl w ↦ absurd (omega (arith, w.0)) | inr o ↦ omega (arith, more.shorter a o below) ];
      }
    ]

-- what begins at the end of the first block or later is inside one of the others
drop-first : (j : Block) (js ks : List Block) → AllByRecursion (λ k. IsInsideOne (j ∷ js) k × (end j ≤ k.first)) ks → AllByRecursion (IsInsideOne js) ks
drop-first j js [] each = tt
drop-first j js (k ∷ ks) each = (inside-rest each.0.0, drop-first j js ks each.1)
  where
    inside-rest : IsInsideOne (j ∷ js) k → IsInsideOne js k
    inside-rest (inl h) = absurd (omega (arith, h.1, each.0.1, pow_pos (level k)))
    inside-rest (inr h) = h

-- an address from the end of the first block on is in no block inside it
not-before : (j : Block) (js : List Block) (a : ℕ) → AscendsFrom (end j) js → end j ≤ a → IsBefore (IsInsideOne (j ∷ js)) (end j) a → ⊥
not-before j js a asc from (k, inl h, w, lt) = omega (arith, h.1, w.1)
not-before j js a asc from (k, inr h, w, lt) = omega (arith, inside-after k js (end j) asc h)

-- so a list whose blocks are each inside one of an ascending list, with an address of each of them, is no shorter
pub counted : (s : ℕ) (js ks : List Block) → AscendsFrom s js → AllByRecursion (IsInsideOne js) ks → ((a : ℕ) → IsIn a js → IsIn a ks) → length js ≤ length ks
counted s [] ks asc each covers = omega arith
counted s (j ∷ js) ks asc each covers =
    let rest : Later (IsInsideOne (j ∷ js)) (end j) ks = later (IsInsideOne (j ∷ js)) (end j) ks each in
    let covered : (a : ℕ) → IsIn a js → IsIn a rest.rest = λ a h.
    elim (rest.covers a (covers a (inr h))) [
      | inl before ↦ absurd (not-before j js a asc.1 (after-start a (end j) js asc.1 h) before)
      | inr i ↦ i
    ] in
    omega (arith, counted (end j) js rest.rest asc.1 (drop-first j js rest.rest rest.each) covered, rest.shorter j.first (covers j.first (inl (first-within j))) (first-within j).1)

inside-each : (js ks : List Block) → AllByRecursion IsBlock js → AscendsFrom 0 js → HasNoHalves js → AllByRecursion IsBlock ks → ((a : ℕ) → IsIn a ks → IsIn a js) → AllByRecursion (IsInsideOne js) ks
inside-each js [] each asc apart blocks covers = tt
inside-each js (k ∷ ks) each asc apart blocks covers =
    (inside-one k js 0 blocks.0 each asc apart (λ a h. covers a (inl h)), inside-each js ks each asc apart blocks.1 (λ a h. covers a (inr h)))

pub fewest : (blocks joined others : List Block) → IsJoined blocks joined → AllByRecursion IsBlock others → SameAddresses blocks others → length joined ≤ length others
fewest blocks joined others h each same =
    counted 0 joined others h.ascends
    (inside-each joined others h.each h.ascends h.apart each (λ a x. (h.covers a).0 ((same a).1 x)))
    (λ a x. (same a).0 ((h.covers a).1 x))
