-- Bits below the highest, and descents one after another.
use Rattle.std.proofs.Common.{◌≡◌, ℕ, zero, suc, ◌+◌, ◌-◌, ◌*◌, ◌^◌, ◌<◌, ◌≤◌, ◌⊎◌, ◌==◌, Bool, true, false, List, ◌∷◌, ◌++◌, length, take, refl, ap, arith, sym, ◌∙◌, subst, inl, inr, length-append}
use Rattle.std.proofs.lemmas.Bool.{cases_lt}
use Rattle.std.proofs.lemmas.List.{take-append-le, take_all}
use Rattle.std.proofs.lemmas.Nat.Bits.{bit_at_cat_low, bit_at_cat_high, bit_at_above}
use Rattle.std.proofs.Math.Seq.{take-append-add}
use Rattle.std.specs.Int.{bit_at}
use Rattle.mmdb_net.specs.Bits.{bit_of, bits_of}
use Rattle.mmdb_tree.specs.Tree.{SearchTree, step, walk_from}
use Rattle.mmdb_tree.specs.Descents.{Descends}
use Rattle.mmdb_tree.proofs.WalkLemmas.{walk-append, walk-nil, Walks-start}

-- ---- bits

-- a number without the highest bit
pub bits_of-lower : (width i : ℕ) → i < 2 ^ width → bits_of (suc width) i ≡ false ∷ bits_of width i
unfolding bits_of
bits_of-lower width i h =
    let place : bit_at i width ≡ 0 = bit_at_above i width width h (omega arith) in
    let bit : bit_of i width ≡ false = ap (λ (x : ℕ). x == 1) place in
    rw bit refl

pub bits_of-low : (count width high i : ℕ) → count ≤ width → bits_of count (high * 2 ^ width + i) ≡ bits_of count i
unfolding bits_of
bits_of-low zero width high i h = refl
bits_of-low (suc count) width high i h =
    let bit : bit_of (high * 2 ^ width + i) count ≡ bit_of i count = ap (λ (x : ℕ). x == 1) (bit_at_cat_low high width i count (omega arith)) in
    rw (bit, bits_of-low count width high i (omega arith)) refl

-- a number with it
pub bits_of-upper : (width i : ℕ) → i < 2 ^ width → bits_of (suc width) (1 * 2 ^ width + i) ≡ true ∷ bits_of width i
unfolding bits_of
bits_of-upper width i h =
    let place : bit_at (1 * 2 ^ width + i) width ≡ 1 = bit_at_cat_high 1 width i width h (omega arith) ∙ ap (bit_at 1) (let none : width - width ≡ 0 = omega arith in none) in
    let bit : bit_of (1 * 2 ^ width + i) width ≡ true = ap (λ (x : ℕ). x == 1) place in
    rw (bit, bits_of-low width width 1 i (omega arith)) refl

-- ---- descents

-- a step from a node, before a descent
pub Descends-first : (tree : SearchTree) (number : ℕ) (x : Bool) (bits : List Bool) (more end : ℕ) → number < tree.node_count → Descends tree (step tree number x) bits more end → Descends tree number (x ∷ bits) (suc more) end
unfolding walk_from
Descends-first tree number x bits more end on d =
    let inside = d.walks.within in
    record {
      walks = record {
        within = omega arith;
        reached = d.walks.reached;
        on_nodes = nodes d;
      };
      ends = λ short. d.ends (omega arith);
    }
  where
    nodes : Descends tree (step tree number x) bits more end → (k : ℕ) → k < suc more → walk_from tree number (take k (x ∷ bits)) < tree.node_count
    nodes d zero h = on
    nodes d (suc k) h = d.walks.on_nodes k (omega arith)

-- a descent that takes no bit
pub Descends-none : (tree : SearchTree) (number : ℕ) (bits : List Bool) → (tree.node_count ≤ number) ⊎ (length bits ≡ 0) → Descends tree number bits 0 number
Descends-none tree number bits ended = record {
  walks = Walks-start tree number bits;
  ends = λ short. elim ended [ inl off ↦ off | inr all ↦ absurd (omega arith) ];
}

-- where tree and bits go by other names
pub Descends-same : (tree seen : SearchTree) (start : ℕ) (bits seen_bits : List Bool) (taken number : ℕ) → seen ≡ tree → seen_bits ≡ bits → Descends seen start seen_bits taken number → Descends tree start bits taken number
Descends-same tree seen start bits seen_bits taken number same same_bits d =
    let P : SearchTree → Type 0 = λ t. Descends t start bits taken number in
    let Q : List Bool → Type 0 = λ b. Descends seen start b taken number in
    subst P same (subst Q same_bits d)

-- a descent after one that ended
pub Descends-short : (tree : SearchTree) (start : ℕ) (xs ys : List Bool) (taken middle more number : ℕ) → taken < length xs → Descends tree start xs taken middle → Descends tree middle ys more number → more ≡ 0
Descends-short tree start xs ys taken middle zero number short d e = refl
Descends-short tree start xs ys taken middle (suc more) number short d e =
    let on = e.walks.on_nodes 0 (omega arith) in
    let off = d.ends short in
    absurd (let same = walk-nil tree middle in omega (arith, same, on, off))

module _ (tree : SearchTree) (start : ℕ) (xs ys : List Bool) (taken middle more number : ℕ) (d : Descends tree start xs taken middle) (e : Descends tree middle ys more number) where
  none_after : taken < length xs → Descends tree start (xs ++ ys) (taken + more) number
  none_after short =
      let none : more ≡ 0 = Descends-short tree start xs ys taken middle more number short d e in
      let same : number ≡ middle = e.walks.reached ∙ ap (λ (n : ℕ). walk_from tree middle (take n ys)) none ∙ walk-nil tree middle in
      let len = length-append xs ys in
      let all : taken + more ≡ taken = omega arith in
      let first : Descends tree start (xs ++ ys) taken middle = record {
        walks = record {
          within = omega arith;
          reached = let le : taken ≤ length xs = omega arith in rw take-append-le d.walks.reached;
          on_nodes = λ k h. let le : k ≤ length xs = omega arith in rw take-append-le (d.walks.on_nodes k h);
        };
        ends = λ _. d.ends short;
      } in
      let P : ℕ → Type 0 = λ n. Descends tree start (xs ++ ys) n middle in
      let Q : ℕ → Type 0 = λ n. Descends tree start (xs ++ ys) (taken + more) n in
      subst Q (sym same) (subst P (sym all) first)

  on_after : length xs ≤ taken → Descends tree start (xs ++ ys) (taken + more) number
  on_after long =
      let within = d.walks.within in
      let inside = e.walks.within in
      let len = length-append xs ys in
      let whole : take taken xs ≡ xs = take_all taken xs long in
      let at : middle ≡ walk_from tree start xs = d.walks.reached ∙ ap (walk_from tree start) whole in
      record {
        walks = record {
          within = omega arith;
          reached = e.walks.reached ∙ behind at (omega arith) more;
          on_nodes = λ k h. elim (cases_lt k (length xs)) [
            | inl lt ↦ let le : k ≤ length xs = omega arith in rw take-append-le (d.walks.on_nodes k (omega arith))
            | inr ge ↦
                let far : taken + (k - length xs) ≡ k = omega arith in
                let there = behind at (omega arith) (k - length xs) in
                let on = e.walks.on_nodes (k - length xs) (omega arith) in
                let here = ap (λ (j : ℕ). walk_from tree start (take j (xs ++ ys))) far in
                omega (arith, there, on, here)
          ];
        };
        ends = λ short. e.ends (omega arith);
      }
    where
      behind : middle ≡ walk_from tree start xs → taken ≡ length xs → (k : ℕ) → walk_from tree middle (take k ys) ≡ walk_from tree start (take (taken + k) (xs ++ ys))
      behind at all k =
          ap (λ (n : ℕ). walk_from tree n (take k ys)) at ∙ sym (walk-append tree start xs (take k ys)) ∙ ap (walk_from tree start) (sym (take-append-add xs ys k)) ∙ ap (λ (n : ℕ). walk_from tree start (take (n + k) (xs ++ ys))) (sym all)

  pub Descends-append : Descends tree start (xs ++ ys) (taken + more) number
  Descends-append = elim (cases_lt taken (length xs)) [ inl short ↦ none_after short | inr long ↦ on_after long ]
