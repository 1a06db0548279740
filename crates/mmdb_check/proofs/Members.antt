-- Whether values can be added depends on their offsets alone, and not on their order or how often they occur.
use Rattle.std.proofs.Common.{◌≡◌, ℕ, zero, suc, ◌+◌, ◌<◌, ◌≤◌, List, [], ◌∷◌, length, drop, set, Bool, true, ◌||◌, ◌==◌, ◌↔◌, refl, sym, ◌∙◌, ap, subst, inl, inr, arith}
use Rattle.std.specs.List.{Contains, list_any}
use Rattle.std.proofs.lemmas.Bool.{or_cases, or_left, or_right}
use Rattle.mmdb_format.specs.Unfolding.{Tree}
use Rattle.mmdb_check.specs.Checking.{either, reached, IsGood, IsAllowed, AreGood, all_reached, CanAdd, Added, CanAddAll}
use Rattle.mmdb_offsets.specs.OffsetSet.{holds, offsets_from, offsets_of, HasNoneFrom, IsNext}
use Rattle.mmdb_offsets.proofs.Members.{In, any-in, in-any, from-holds, holds-from, next-first, none-left}
use Rattle.mmdb_check.proofs.Costs.{allowed_same}
use Rattle.mmdb_check.proofs.Several.{allowed_less, first_added, first_can_add, none_to_add}

-- ---- the tree at an offset of several

tree_of : (s ps : List ℕ) (ts : List Tree) (q : ℕ) → AreGood s ps ts → In q ps → (t : Tree) × IsGood s q t × ((r : ℕ) → reached q t r ≡ true → all_reached ps ts r ≡ true)
tree_of s [] [] q g h = absurd h
tree_of s [] (t ∷ ts) q g h = absurd g
tree_of s (p ∷ ps) [] q g h = absurd g
tree_of s (p ∷ ps) (t ∷ ts) q g (inl e) = (
  t,
  subst (λ z. IsGood s z t) e g.0,
  λ r x. or_left (reached p t r) (all_reached ps ts r) (subst (λ z. reached z t r ≡ true) (sym e) x),
)
tree_of s (p ∷ ps) (t ∷ ts) q g (inr h) =
    let w = tree_of s ps ts q g.1 h in
    (w.0, w.1, λ r x. or_right (reached p t r) (all_reached ps ts r) (w.2 r x))

trees_of : (s ps : List ℕ) (ts : List Tree) (qs : List ℕ) → AreGood s ps ts → ((q : ℕ) → In q qs → In q ps) → (us : List Tree) × AreGood s qs us × ((r : ℕ) → all_reached qs us r ≡ true → all_reached ps ts r ≡ true)
trees_of s ps ts [] g sub = ([], tt, λ r x. absurd (cc))
trees_of s ps ts (q ∷ qs) g sub =
    let one = tree_of s ps ts q g (sub q (inl refl)) in
    let rest = trees_of s ps ts qs g (λ r h. sub r (inr h)) in
    (one.0 ∷ rest.0, (one.1, rest.1), λ r x. elim (or_cases (reached q one.0 r) (all_reached qs rest.0 r) x) [ inl y ↦ one.2 r y | inr y ↦ rest.2 r y ])

-- fewer offsets, or the same in another order
pub can_add_fewer : (s : List ℕ) (good : ℕ → Bool) (ps qs : List ℕ) → ((q : ℕ) → In q qs → In q ps) → CanAddAll s good ps → CanAddAll s good qs
can_add_fewer s good ps qs sub x =
    let w = trees_of s ps x.trees qs x.are_good sub in
    record {
      trees = w.0;
      are_good = w.1;
      allowed = allowed_less s (either good (all_reached qs w.0)) (either good (all_reached ps x.trees))
          (λ q h. elim (or_cases (good q) (all_reached qs w.0 q) h) [
            | inl y ↦ or_left (good q) (all_reached ps x.trees q) y
            | inr y ↦ or_right (good q) (all_reached ps x.trees q) (w.2 q y)
          ]) x.allowed;
    }

-- where a set and a list have the same offsets
pub can_add_places : (s : List ℕ) (good : ℕ → Bool) (set : List Bool) (ps : List ℕ) → ((q : ℕ) → holds set q ≡ list_any (λ o. o == q) ps) → CanAddAll s good (offsets_of set) ↔ CanAddAll s good ps
can_add_places s good set ps same = (
  can_add_fewer s good (offsets_of set) ps (λ q h. subst (λ n. In n (offsets_of set)) (omega arith) (from-holds set 0 q (same q ∙ in-any q ps h))),
  can_add_fewer s good ps (offsets_of set) (λ q h. any-in q ps (sym (same q) ∙ holds-from set 0 q (subst (λ n. In n (offsets_of set)) (omega arith) h))),
)

-- ---- the loop over a set

module _ (s s' : List ℕ) (good good' : ℕ → Bool) (set : List Bool) (i : ℕ) (same : s' ≡ s) (inv : CanAddAll s good (offsets_of set) ↔ CanAddAll s good' (offsets_from i (drop i set))) where
  module _ (p : ℕ) (l : p < length set) (next : IsNext set i p) where
    pub marked_more : (new : ℕ → Bool) → Added s' good' new p → CanAddAll s good (offsets_of set) ↔ CanAddAll s new (offsets_from (p + 1) (drop (p + 1) set))
    marked_more new w =
        let rest : List ℕ = offsets_from (p + 1) (drop (p + 1) set) in
        let step : CanAddAll s good' (p ∷ rest) ↔ CanAddAll s new rest = first_added s good' new p rest (subst (λ z. Added z good' new p) same w) in
        ((λ x. step.0 (subst (λ z. CanAddAll s good' z) (next-first set i p l next) (inv.0 x))), (λ x. inv.1 (subst (λ z. CanAddAll s good' z) (sym (next-first set i p l next)) (step.1 x))))

    pub marked_fails : (CanAdd s' good' p → ⊥) → CanAddAll s good (offsets_of set) → ⊥
    marked_fails fails x =
        fails (subst (λ z. CanAdd z good' p) (sym same) (first_can_add s good' good' p (offsets_from (p + 1) (drop (p + 1) set)) (subst (λ z. CanAddAll s good' z) (next-first set i p l next) (inv.0 x))))

  pub marked_done : i ≤ length set → HasNoneFrom set i → IsAllowed s' good' → CanAddAll s good (offsets_of set)
  marked_done l none a =
      inv.1 (subst (λ z. CanAddAll s good' z) (sym (none-left set i l none)) (none_to_add s good' (subst (λ z. IsAllowed z good') same a)))

-- ---- from no good offsets

pub can_add_at : (s s' : List ℕ) (a b : ℕ → Bool) (ps : List ℕ) → s ≡ s' → ((q : ℕ) → a q ≡ b q) → CanAddAll s a ps ↔ CanAddAll s' b ps
can_add_at s s' a b ps e same = (
  (λ x. subst (λ z. CanAddAll z b ps) e (moved s a b ps same x)),
  (λ x. moved s b a ps (λ q. sym (same q)) (subst (λ z. CanAddAll z b ps) (sym e) x)),
)
  where
    moved : (s : List ℕ) (a b : ℕ → Bool) (ps : List ℕ) → ((q : ℕ) → a q ≡ b q) → CanAddAll s a ps → CanAddAll s b ps
    moved s a b ps same x = record {
      trees = x.trees;
      are_good = x.are_good;
      allowed = allowed_same s (either a (all_reached ps x.trees)) (either b (all_reached ps x.trees)) (λ q. ap (λ y. y || all_reached ps x.trees q) (same q)) x.allowed;
    }

pub contains-in : (ps : List ℕ) (q : ℕ) → Contains ps q → In q ps
contains-in [] q (k, below, is) = absurd (omega arith)
contains-in (p ∷ ps) q (zero, below, is) = inl is
contains-in (p ∷ ps) q (suc k, below, is) = inr (contains-in ps q (k, omega arith, is))

-- each of several offsets has a good tree
pub good_tree : (s : List ℕ) (good : ℕ → Bool) (ps : List ℕ) (q : ℕ) → CanAddAll s good ps → Contains ps q → (t : Tree) × IsGood s q t
good_tree s good ps q x h = let w = tree_of s ps x.trees q x.are_good (contains-in ps q h) in (w.0, w.1)
