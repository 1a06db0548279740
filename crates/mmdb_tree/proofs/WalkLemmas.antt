-- Walks along bit strings.
use Rattle.std.proofs.Common.{◌≡◌, ℕ, suc, ◌+◌, ◌<◌, ◌≤◌, ltb, Bool, true, false, List, [], ◌∷◌, ◌++◌, get_or, take, length, arith, sym, ap, ◌∙◌, refl, subst, inl, inr, below_more}
use Rattle.std.proofs.lemmas.Bool.{cases_lt, lt-ltb, le-ltb}
use Rattle.std.proofs.Math.Seq.{take-suc}
use Rattle.mmdb_tree.specs.Tree.{SearchTree, child, step, walk_from}
use Rattle.mmdb_tree.specs.Descents.{Walks, Descends}

pub walk-append : (tree : SearchTree) (number : ℕ) (s t : List Bool) → walk_from tree number (s ++ t) ≡ walk_from tree (walk_from tree number s) t
unfolding walk_from
walk-append tree number [] t = refl
walk-append tree number (x ∷ s) t = walk-append tree (step tree number x) s t

pub walk-nil : (tree : SearchTree) (number : ℕ) → walk_from tree number [] ≡ number
unfolding walk_from
walk-nil tree number = refl

pub walk-one : (tree : SearchTree) (number : ℕ) (x : Bool) → walk_from tree number (x ∷ []) ≡ step tree number x
unfolding walk_from
walk-one tree number x = refl

-- on a node a bit leads to the number that the node has for it
pub step-child : (tree : SearchTree) (node : ℕ) (x : Bool) → node < tree.node_count → step tree node x ≡ child tree.bytes tree.record_size node x
unfolding step
step-child tree node x on = let test : ltb node tree.node_count ≡ true = lt-ltb node tree.node_count on in rw test refl

step-out : (tree : SearchTree) (number : ℕ) (x : Bool) → tree.node_count ≤ number → step tree number x ≡ number
unfolding step
step-out tree number x out = let test : ltb number tree.node_count ≡ false = le-ltb number tree.node_count out in rw test refl

pub stays_outside : (tree : SearchTree) (number : ℕ) (x : Bool) → tree.node_count ≤ number → step tree number x ≡ number
stays_outside tree number x out = step-out tree number x out

-- a walk that has left the nodes stays
pub walk-out : (tree : SearchTree) (number : ℕ) (s : List Bool) → tree.node_count ≤ number → walk_from tree number s ≡ number
unfolding walk_from
walk-out tree number [] out = refl
walk-out tree number (x ∷ s) out = ap (λ (n : ℕ). walk_from tree n s) (step-out tree number x out) ∙ walk-out tree number s out

-- so a walk that ends on a node has been on nodes
pub walk-inner : (tree : SearchTree) (number : ℕ) (s t : List Bool) → walk_from tree number (s ++ t) < tree.node_count → walk_from tree number s < tree.node_count
walk-inner tree number s t on = elim (cases_lt (walk_from tree number s) tree.node_count) [
  | inl inside ↦ inside
  | inr out ↦ absurd (omega (arith, walk-append tree number s t, walk-out tree (walk_from tree number s) t out))
]

-- a walk that has left the nodes ends there, whatever bits follow
pub walk-past : (tree : SearchTree) (number : ℕ) (s t : List Bool) → tree.node_count ≤ walk_from tree number s → walk_from tree number (s ++ t) ≡ walk_from tree number s
walk-past tree number s t out = walk-append tree number s t ∙ walk-out tree (walk_from tree number s) t out

-- the walk that has taken no bit
pub Walks-start : (tree : SearchTree) (start : ℕ) (bits : List Bool) → Walks tree start bits 0 start
Walks-start tree start bits = record {
  within = omega arith;
  reached = sym (walk-nil tree start);
  on_nodes = λ k h. absurd (omega arith);
}

-- a step from a node
pub Walks-more : (tree : SearchTree) (start : ℕ) (bits : List Bool) (taken number next : ℕ) → Walks tree start bits taken number → taken < length bits → number < tree.node_count → next ≡ child tree.bytes tree.record_size number (get_or bits taken false) → Walks tree start bits (taken + 1) next
Walks-more tree start bits taken number next w more node is =
    let x : Bool = get_or bits taken false in
    let one : taken + 1 ≡ suc taken = omega arith in
    let cut : take (taken + 1) bits ≡ take taken bits ++ x ∷ [] = ap (λ (k : ℕ). take k bits) one ∙ take-suc bits taken false more in
    record {
      within = omega arith;
      reached = is ∙ sym (step-child tree number x node) ∙ ap (λ (n : ℕ). step tree n x) w.reached ∙ sym (walk-one tree (walk_from tree start (take taken bits)) x)
          ∙ sym (ap (walk_from tree start) cut ∙ walk-append tree start (take taken bits) (x ∷ []));
      on_nodes = below_more _ _ w.on_nodes (let e = w.reached in omega (arith, e));
    }

-- the walk that has taken all bits
pub Descends-all : (tree : SearchTree) (start : ℕ) (bits : List Bool) (taken width number : ℕ) → Walks tree start bits taken number → taken ≡ width → length bits ≡ width → Descends tree start bits width number
Descends-all tree start bits taken width number w all len = record {
  walks = let P : ℕ → Type 0 = λ k. Walks tree start bits k number in subst P all w;
  ends = λ short. absurd (omega arith);
}
