-- The joined form of blocks is the only one.
use Rattle.std.proofs.Common.{◌≡◌, ℕ, zero, suc, ◌+◌, ◌-◌, ◌*◌, ◌%◌, ◌^◌, ◌<◌, ◌≤◌, List, [], ◌∷◌, refl, ap, arith, sym, ◌∙◌}
use Rattle.std.proofs.lemmas.Nat.{pow_pos}
use Rattle.std.proofs.lemmas.Bool.{cases_lt}
use Rattle.std.proofs.Common.{inl, inr}
use Rattle.std.specs.List.{AllByRecursion}
use Rattle.mmdb_blocks.specs.declared.block.Block.{Block}
use Rattle.mmdb_blocks.specs.Blocks.{end, IsBlock, IsWithin, IsIn, SameAddresses, AscendsFrom, IsApart, HasNoHalves, IsJoined}
use Rattle.mmdb_blocks.proofs.NumberLaws.{lower, next-multiple, right-half-level, twice-le}

-- what the address space leaves for the bits after the prefix
abbrev pub level : Block → ℕ
level b = 128 - b.prefix

-- the first address of a block is in it
pub first-within : (b : Block) → IsWithin b.first b
first-within b = (omega arith, omega (arith, pow_pos (level b)))

-- an address in an ascending list is not before it
pub after-start : (a s : ℕ) (bs : List Block) → AscendsFrom s bs → IsIn a bs → s ≤ a
after-start a s [] asc h = absurd h
after-start a s (b ∷ bs) asc (inl h) = omega (arith, asc.0, h.0)
after-start a s (b ∷ bs) asc (inr h) = omega (arith, asc.0, after-start a (end b) bs asc.1 h, pow_pos (level b))

-- an address in the list that is not before the end of its first block is in the others
pub in-others : (a : ℕ) (b : Block) (bs : List Block) → end b ≤ a → IsIn a (b ∷ bs) → IsIn a bs
in-others a b bs le (inl h) = absurd (omega (arith, h.1))
in-others a b bs le (inr h) = h

-- and one before that end is in the first block
pub in-first : (a s : ℕ) (b : Block) (bs : List Block) → AscendsFrom s (b ∷ bs) → a < end b → IsIn a (b ∷ bs) → IsWithin a b
in-first a s b bs asc lt (inl h) = h
in-first a s b bs asc lt (inr h) = absurd (omega (arith, after-start a (end b) bs asc.1 h))

-- a list that has all the addresses of a place for a block begins there, with a block of that size or larger
abbrev pub BeginsWith : ℕ → ℕ → List Block → Type 0
BeginsWith s n [] = ⊥
BeginsWith s n (b ∷ bs) = (b.first ≡ s) × (n ≤ level b)

-- a block that begins where a left half ends, and is as large, is the right half
halves-meet : (b : Block) (bs : List Block) (n : ℕ) → IsBlock b → AllByRecursion IsBlock bs → level b < n → b.first % 2 ^ n ≡ 0 → BeginsWith (end b) (level b) bs → IsApart b bs → ⊥
halves-meet b [] n is_block each lt aligned begins apart = begins
halves-meet b (c ∷ bs) n is_block each lt aligned begins apart =
    let left : b.first % 2 ^ suc (level b) ≡ 0 = lower b.first (suc (level b)) n (omega arith) aligned in
    let right : (b.first + 2 ^ level b) % 2 ^ level c ≡ 0 = ap (λ (k : ℕ). k % 2 ^ level c) (sym begins.0) ∙ each.0.aligned in
    let small : level c ≤ level b = right-half-level b.first (level b) (level c) left right in
    let half : 0 < b.prefix = begins-later b.prefix b.first c.first begins.0 each.0.first in
    let up : suc (128 - b.prefix) ≡ 128 - (b.prefix - 1) = omega (arith, half, is_block.prefix) in
    apart (record {
      prefix = omega (arith, small, begins.1, is_block.prefix, each.0.prefix);
      is_half = half;
      aligned = ap (λ (k : ℕ). b.first % 2 ^ k) (sym up) ∙ left;
      next = begins.0;
    })
  where
    begins-later : (prefix s t : ℕ) → t ≡ s + 2 ^ (128 - prefix) → t < 2 ^ 128 → 0 < prefix
    begins-later zero s t e lt = absurd (omega (arith, e, lt))
    begins-later (suc prefix) s t e lt = omega arith

pub first-large : (s n : ℕ) (bs : List Block) → AllByRecursion IsBlock bs → AscendsFrom s bs → HasNoHalves bs → s % 2 ^ n ≡ 0 → ((a : ℕ) → s ≤ a → a < s + 2 ^ n → IsIn a bs) → BeginsWith s n bs
first-large s n [] each asc apart aligned covers = covers s (omega arith) (omega (arith, pow_pos n))
first-large s n (b ∷ bs) each asc apart aligned covers =
    let start : b.first ≡ s = first-start (covers s (omega arith) (omega (arith, pow_pos n))) in
    elim (cases_lt (level b) n) [
      | inl lt ↦ (
          let twice : 2 * 2 ^ level b ≤ 2 ^ n = twice-le (level b) n lt in
          let start_aligned : b.first % 2 ^ n ≡ 0 = ap (λ (k : ℕ). k % 2 ^ n) start ∙ aligned in
          let next_aligned : end b % 2 ^ level b ≡ 0 = next-multiple b.first (level b) (lower b.first (level b) n (omega arith) start_aligned) in
          let begins : BeginsWith (end b) (level b) bs = first-large (end b) (level b) bs each.1 asc.1 apart.1 next_aligned (λ a from to. in-others a b bs from (covers a (omega (arith, from, start)) (omega (arith, to, start, twice)))) in
          absurd (halves-meet b bs n each.0 each.1 lt start_aligned begins apart.0))
      | inr le ↦ (start, le)
    ]
  where
    first-start : IsIn s (b ∷ bs) → b.first ≡ s
    first-start (inl h) = omega (arith, asc.0, h.0)
    first-start (inr h) = absurd (omega (arith, asc.0, after-start s (end b) bs asc.1 h, pow_pos (level b)))

-- the list begins with a block as large as one whose addresses it has and where it begins
pub as-large : (k b : Block) (bs : List Block) → IsBlock k → AllByRecursion IsBlock (b ∷ bs) → AscendsFrom k.first (b ∷ bs) → HasNoHalves (b ∷ bs) → ((a : ℕ) → IsWithin a k → IsIn a (b ∷ bs)) → level k ≤ level b
as-large k b bs is_block each asc apart covers =
    (first-large k.first (level k) (b ∷ bs) each asc apart is_block.aligned (λ a from to. covers a (from, to))).1

same-block : (j k : Block) → j.first ≡ k.first → j.prefix ≡ k.prefix → j ≡ k
same-block j k e f =
    let one : j ≡ record { first = k.first; prefix = j.prefix } = ap (λ (x : ℕ). record { first = x; prefix = j.prefix }) e in
    let two : record { first = k.first; prefix = j.prefix } ≡ k = ap (λ (x : ℕ). record { first = k.first; prefix = x }) f in
    one ∙ two

-- both lists begin with the same block
same-first : (j k : Block) (js ks : List Block) (s : ℕ)
    → AllByRecursion IsBlock (j ∷ js) → AscendsFrom s (j ∷ js) → HasNoHalves (j ∷ js)
    → AllByRecursion IsBlock (k ∷ ks) → AscendsFrom s (k ∷ ks) → HasNoHalves (k ∷ ks)
    → SameAddresses (j ∷ js) (k ∷ ks) → j ≡ k
same-first j k js ks s j_each j_asc j_apart k_each k_asc k_apart same =
    let from_k : k.first ≤ j.first = after-start j.first k.first (k ∷ ks) (omega arith, k_asc.1) ((same j.first).0 (inl (first-within j))) in
    let from_j : j.first ≤ k.first = after-start k.first j.first (j ∷ js) (omega arith, j_asc.1) ((same k.first).1 (inl (first-within k))) in
    let k_large : level j ≤ level k = as-large j k ks j_each.0 k_each (from_j, k_asc.1) k_apart (λ a h. (same a).0 (inl h)) in
    let j_large : level k ≤ level j = as-large k j js k_each.0 j_each (from_k, j_asc.1) j_apart (λ a h. (same a).1 (inl h)) in
    same-block j k (omega arith) (omega (arith, k_large, j_large, j_each.0.prefix, k_each.0.prefix))

pub unique-from : (s : ℕ) (js ks : List Block)
    → AllByRecursion IsBlock js → AscendsFrom s js → HasNoHalves js
    → AllByRecursion IsBlock ks → AscendsFrom s ks → HasNoHalves ks
    → SameAddresses js ks → js ≡ ks
unique-from s [] [] j_each j_asc j_apart k_each k_asc k_apart same = refl
unique-from s [] (k ∷ ks) j_each j_asc j_apart k_each k_asc k_apart same = absurd ((same k.first).1 (inl (first-within k)))
unique-from s (j ∷ js) [] j_each j_asc j_apart k_each k_asc k_apart same = absurd ((same j.first).0 (inl (first-within j)))
unique-from s (j ∷ js) (k ∷ ks) j_each j_asc j_apart k_each k_asc k_apart same =
    let one : j ≡ k = same-first j k js ks s j_each j_asc j_apart k_each k_asc k_apart same in
    let ends : end j ≡ end k = ap end one in
    let k_rest : AscendsFrom (end j) ks = rw ends k_asc.1 in
    let rest : SameAddresses js ks = λ a. (
      (λ h. in-others a k ks (omega (arith, ends, after-start a (end j) js j_asc.1 h)) ((same a).0 (inr h))),
      (λ h. in-others a j js (after-start a (end j) ks k_rest h) ((same a).1 (inr h))),
    ) in
    let tails : js ≡ ks = unique-from (end j) js ks j_each.1 j_asc.1 j_apart.1 k_each.1 k_rest k_apart.1 rest in
    ap (λ (x : Block). x ∷ js) one ∙ ap (λ (xs : List Block). k ∷ xs) tails

pub unique : (blocks some other : List Block) → IsJoined blocks some → IsJoined blocks other → some ≡ other
unique blocks some other h g =
    unique-from 0 some other h.each h.ascends h.apart g.each g.ascends g.apart
    (λ a. ((λ x. (g.covers a).0 ((h.covers a).1 x)), (λ x. (h.covers a).0 ((g.covers a).1 x))))
