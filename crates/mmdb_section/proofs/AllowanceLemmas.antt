-- Values one after the other keep the allowance of a check.
use Rattle.std.proofs.Common.{◌≡◌, inl, inr, ℕ, zero, suc, ◌+◌, ◌-◌, ◌<◌, ◌≤◌, eqb, Bool, true, false, cond, List, [], ◌∷◌, length, map, refl, ap, sym, ◌∙◌, subst, arith, append-nil}
use Rattle.std.specs.Prelude.{◌||◌}
use Rattle.std.specs.List.{AllByRecursion}
use Rattle.std.proofs.lemmas.Bool.{false≢true, false_from_ne_true}
use Rattle.mmdb_format.specs.Contents.{boolean}
use Rattle.mmdb_format.specs.Unfolding.{Tree, scalar, array, table, pointer, Unfolds}
use Rattle.mmdb_format.proofs.UnfoldingLaws.{one_tree}
use Rattle.mmdb_check.specs.Checking.{own_cost, cost_below, leads_to, reached, IsAllowed, none, either, AreGood, all_reached}
use Rattle.mmdb_section.specs.Sections.{Tile, IsChain, IsTile, is_start, IsLaid, AreTiles}
use Rattle.mmdb_section.specs.Laws.{IsShallow, SectionsAreGood}
use Rattle.mmdb_section.proofs.WriteLemmas.{laid_tile, or_cases, starts_same, start_of_tile}
use Rattle.mmdb_section.proofs.CostLemmas.{own_fits}

-- ---- which tree is at a start

pub tree_at : List Tile → ℕ → Tree
tree_at [] q = scalar (boolean false)
tree_at (t ∷ ts) q = cond (eqb q t.start) t.tree (tree_at ts q)

-- a start is that of a value, whose tree that is
pub record Found (tiles : List Tile) (q : ℕ) (tree : Tree) : Type 0 where
  pub tile : Tile
  pub is : IsTile tile tiles
  pub at : tile.start ≡ q
  pub same : tree ≡ tile.tree

found_by : (t : Tile) (ts : List Tile) (q : ℕ) (b : Bool) → eqb q t.start ≡ b → (is_start ts q ≡ true → Found ts q (tree_at ts q)) → (b || is_start ts q) ≡ true → Found (t ∷ ts) q (cond b t.tree (tree_at ts q))
found_by t ts q true e more h = record { tile = t; is = inl refl; at = sym (starts_same q t.start e); same = refl }
found_by t ts q false e more h = let w = more h in record { tile = w.tile; is = inr w.is; at = w.at; same = w.same }

pub tile_at : (tiles : List Tile) (q : ℕ) → is_start tiles q ≡ true → Found tiles q (tree_at tiles q)
unfolding tree_at
tile_at [] q h = absurd (false≢true h)
tile_at (t ∷ ts) q h = found_by t ts q (eqb q t.start) refl (tile_at ts q) h

-- ---- the sum of what they cost

-- what a value costs fits in its bytes
abbrev Fits : Tile → Type 0
Fits t = t.start + own_cost t.tree ≤ t.end

pub own_positive : (t : Tree) → 1 ≤ own_cost t
own_positive (scalar c) = omega arith
own_positive (array ts) = omega arith
own_positive (table ps) = omega arith
own_positive (pointer a t) = omega arith

-- no value of a chain begins before it
starts_behind : (from to : ℕ) (ts : List Tile) → IsChain from ts to → AllByRecursion Fits ts → (q : ℕ) → is_start ts q ≡ true → from ≤ q
starts_behind from to [] chain fits q h = absurd (false≢true h)
starts_behind from to (t ∷ ts) chain fits q h = elim (or_cases (eqb q t.start) (is_start ts q) h) [
  | inl here ↦ let e = starts_same q t.start here in let f = chain.0 in omega arith
  | inr later ↦ let r = starts_behind t.end to ts chain.1 fits.1 q later in let f = chain.0 in let g = fits.0 in omega arith
]

module _ (set : ℕ → Bool) (trees : ℕ → Tree) where
  gap : (n k : ℕ) → ((q : ℕ) → n ≤ q → q < n + k → set q ≡ false) → cost_below set trees (n + k) ≡ cost_below set trees n
  gap n zero h = let e : n + 0 ≡ n = omega arith in ap (cost_below set trees) e
  gap n (suc k) h =
      let e : n + suc k ≡ suc (n + k) = omega arith in
      let before : cost_below set trees (n + k) ≡ cost_below set trees n = gap n k (λ q a b. h q a (omega arith)) in
      let none : set (n + k) ≡ false = h (n + k) (omega arith) (omega arith) in
      let zero_more : cond (set (n + k)) (own_cost (trees (n + k))) 0 ≡ 0 = ap (λ (b : Bool). cond b (own_cost (trees (n + k))) 0) none in
      ap (cost_below set trees) e ∙ omega (arith, before, zero_more)

  at_most : (b : Bool) (n : ℕ) → cond b n 0 ≤ n
  at_most true n = omega arith
  at_most false n = omega arith

  chain_costs : (from to : ℕ) (ts : List Tile) → IsChain from ts to → AllByRecursion Fits ts → AllByRecursion (λ t. trees t.start ≡ t.tree) ts → ((q : ℕ) → from ≤ q → set q ≡ true → is_start ts q ≡ true)
      → cost_below set trees to + from ≤ cost_below set trees from + to
  chain_costs from to [] chain fits same within = let e = ap (cost_below set trees) chain in omega arith
  chain_costs from to (t ∷ ts) chain fits same within =
      let at : t.start ≡ from = chain.0 in
      let here : own_cost (trees from) ≡ own_cost t.tree = ap own_cost (ap trees (sym at) ∙ same.0) in
      let some = own_positive t.tree in
      let fit : t.start + own_cost t.tree ≤ t.end = fits.0 in
      let k : ℕ = t.end - suc from in
      let end : suc from + k ≡ t.end = omega arith in
      let none : (q : ℕ) → suc from ≤ q → q < suc from + k → set q ≡ false = λ q a b. false_from_ne_true (set q) (λ h. elim (or_cases (eqb q t.start) (is_start ts q) (within q (omega arith) h)) [
        | inl first ↦ let e = starts_same q t.start first in omega arith
        | inr later ↦ let r = starts_behind t.end to ts chain.1 fits.1 q later in omega arith
      ]) in
      let inner : cost_below set trees t.end ≡ cost_below set trees (suc from) = ap (cost_below set trees) (sym end) ∙ gap (suc from) k none in
      let one : cond (set from) (own_cost (trees from)) 0 ≤ own_cost (trees from) = at_most (set from) (own_cost (trees from)) in
      let rest = chain_costs t.end to ts chain.1 fits.1 same.1 (λ q a h. elim (or_cases (eqb q t.start) (is_start ts q) (within q (omega arith) h)) as (λ x. is_start ts q ≡ true) [
        | inl first ↦ let e = starts_same q t.start first in absurd (omega arith)
        | inr later ↦ later
      ]) in
      omega (arith, inner, one, here, rest)

-- ---- a section

module _ (tiles : List Tile) (bytes : List ℕ) (section : AreTiles tiles bytes) where
  pub unfolds_here : (t : Tile) → IsTile t tiles → Unfolds bytes t.start t.tree t.end
  unfolds_here t is = subst (λ (xs : List ℕ). Unfolds xs t.start t.tree t.end) (append-nil bytes) ((laid_tile (IsLaid tiles bytes) t tiles section.each is).unfolds [])

  all_tiles : (P : Tile → Type 0) → ((t : Tile) → IsTile t tiles → P t) → (ts : List Tile) → ((t : Tile) → IsTile t ts → IsTile t tiles) → AllByRecursion P ts
  all_tiles P f [] sub = tt
  all_tiles P f (t ∷ ts) sub = (f t (sub t (inl refl)), all_tiles P f ts (λ u is. sub u (inr is)))

  all_fit : AllByRecursion Fits tiles
  all_fit = all_tiles Fits (λ t is. own_fits (unfolds_here t is)) tiles (λ t is. is)

  tree_here : (t : Tile) → IsTile t tiles → tree_at tiles t.start ≡ t.tree
  tree_here t is =
      let w = tile_at tiles t.start (start_of_tile t tiles is) in
      let there : Unfolds bytes t.start w.tile.tree w.tile.end = subst (λ (n : ℕ). Unfolds bytes n w.tile.tree w.tile.end) w.at (unfolds_here w.tile w.is) in
      w.same ∙ (one_tree there (unfolds_here t is)).0

  pub allowed : (set : ℕ → Bool) → ((q : ℕ) → set q ≡ true → is_start tiles q ≡ true) → IsAllowed bytes set
  allowed set within = record {
    trees = tree_at tiles;
    each = λ q h.
        let w = tile_at tiles q (within q h) in
        let there : Unfolds bytes q w.tile.tree w.tile.end = subst (λ (n : ℕ). Unfolds bytes n w.tile.tree w.tile.end) w.at (unfolds_here w.tile w.is) in
        (w.tile.end, subst (λ (u : Tree). Unfolds bytes q u w.tile.end) (sym w.same) there);
    total =
        let c = chain_costs set (tree_at tiles) 0 (length bytes) tiles section.chain all_fit (all_tiles (λ t. tree_at tiles t.start ≡ t.tree) tree_here tiles (λ t is. is)) (λ q a h. within q h) in
        omega (arith, c);
  }

  good : (ts : List Tile) → AllByRecursion (IsShallow tiles) ts → AreGood bytes (map (λ t. t.start) ts) (map (λ t. t.tree) ts)
  good [] all = tt
  good (t ∷ ts) all =
      (record { next = t.end; unfolds = unfolds_here t all.0.0; texts = (laid_tile (IsLaid tiles bytes) t tiles section.each all.0.0).texts; shallow = all.0.1 }, good ts all.1)

  reached_starts : (ts : List Tile) → AllByRecursion (IsShallow tiles) ts → (q : ℕ) → all_reached (map (λ t. t.start) ts) (map (λ t. t.tree) ts) q ≡ true → is_start tiles q ≡ true
  reached_starts [] all q h = absurd (false≢true h)
  reached_starts (t ∷ ts) all q h = elim (or_cases (reached t.start t.tree q) (all_reached (map (λ t. t.start) ts) (map (λ t. t.tree) ts) q) h) [
    | inl first ↦ elim (or_cases (eqb q t.start) (leads_to t.tree q) first) [
      | inl here ↦ let e = starts_same q t.start here in subst (λ (n : ℕ). is_start tiles n ≡ true) (sym e) (start_of_tile t tiles all.0.0)
      | inr below ↦ (laid_tile (IsLaid tiles bytes) t tiles section.each all.0.0).closed q below
    ]
    | inr more ↦ reached_starts ts all.1 q more
  ]

pub sections_are_good : SectionsAreGood
sections_are_good tiles bytes ts section all = record {
  trees = map (λ t. t.tree) ts;
  are_good = good tiles bytes section ts all;
  allowed = allowed tiles bytes section (either none (all_reached (map (λ t. t.start) ts) (map (λ t. t.tree) ts))) (λ q h. reached_starts tiles bytes section ts all q h);
}
