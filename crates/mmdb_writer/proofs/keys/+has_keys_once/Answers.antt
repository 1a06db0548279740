use Rattle.std.proofs.Common.{rules, ◌≡◌, inl, inr, ℕ, ◌+◌, Bool, true, false, cond, List, [], ◌∷◌, map, drop, Option, Some, refl, sym, ap, ◌∙◌, subst, arith, Bor}
use Rattle.std.proofs.lemmas.List.{drop_more, drop_all}
use Rattle.std.proofs.lemmas.Map.Text.{btree_map_updates_str}
use Rattle.std.specs.BTreeMap.{get_by}
use Rattle.std.specs.Cmp.Lexicographic.{slice_cmp}
use Rattle.std.specs.Option.{is_some}
use Rattle.std.specs.Ordering.{nat_cmp}
use Rattle.std.specs.Str.{bytes_eq}
use Rattle.mmdb_format.specs.Unfolding.{Tree, array, table}
use Rattle.mmdb_value.specs.AnyValue.{trees_of, pairs_of}
use Rattle.mmdb_value.specs.Values.{value_tree}
use Rattle.mmdb_value.specs.declared.any_value.Value.{Value}
use Rattle.mmdb_value.proofs.ValueTrees.{tree-Array, tree-Map}
use Rattle.mmdb_writer.specs.Limits.{HasKeyTwice, SomeHasKeyTwice, PairsHaveKeyTwice}
use Rattle.mmdb_writer.specs.Working.{HasSeen, AreLeft}
use Rattle.mmdb_writer.proofs.KeyLemmas.{all_left, none_left, one_more_seen}
use Rattle.mmdb_writer.proofs.keys.+has_keys_once.Goals as goal

abbrev shown : Bor (List ℕ) × Value → List ℕ × Tree
shown x = (x.0.now, value_tree x.1)

pub loop-pair-init : goal.loop-pair-init
loop-pair-init t c =
    let none : (y : List ℕ) → is_some (get_by (λ (k : Bor (List ℕ)). slice_cmp nat_cmp y k.now) c.new-seen.result) ≡ false = λ y. search rules in
    all_left _ (map shown c.deref-pair-items.result.now) none

pub returns-then-is_some-clause-twice : goal.returns-then-is_some-clause-twice
returns-then-is_some-clause-twice t c = λ h.
    let xs = c.deref-pair-items.result.now in
    let i = c.loop-pair.pair-index in
    let x = c.pair-item.result in
    let tree : value_tree c.args.value.now ≡ table (pairs_of (map shown xs)) = ap value_tree c.in-Map.is ∙ tree-Map c.in-Map.pairs ∙ ap (λ (ys : List (Bor (List ℕ) × Value)). table (pairs_of (map shown ys))) (sym c.deref-pair-items.ensures.value) in
    let seen : List ℕ → Bool = λ y. is_some (get_by (λ (k : Bor (List ℕ)). slice_cmp nat_cmp y k.now) c.loop-pair.seen) in
    let rest : drop i xs ≡ x ∷ drop (i + 1) xs = drop_more xs i x c.loop-pair-test.true ∙ ap (λ (y : Bor (List ℕ) × Value). y ∷ drop (i + 1) xs) (sym c.pair-item.is) in
    let old : seen x.0.now ≡ true = search rules in
    let common : HasSeen seen (map shown (drop i xs)) = subst (λ (ys : List (Bor (List ℕ) × Value)). HasSeen seen (map shown ys)) (sym rest) (inl old) in
    subst HasKeyTwice (sym tree) (c.loop-pair.invariant.from (inr common))

pub returns-then-not-branch-2-clause-twice : goal.returns-then-not-branch-2-clause-twice
returns-then-not-branch-2-clause-twice t c = λ h.
    let xs = c.deref-pair-items.result.now in
    let i = c.loop-pair.pair-index in
    let x = c.pair-item.result in
    let tree : value_tree c.args.value.now ≡ table (pairs_of (map shown xs)) = ap value_tree c.in-Map.is ∙ tree-Map c.in-Map.pairs ∙ ap (λ (ys : List (Bor (List ℕ) × Value)). table (pairs_of (map shown ys))) (sym c.deref-pair-items.ensures.value) in
    let rest : drop i xs ≡ x ∷ drop (i + 1) xs = drop_more xs i x c.loop-pair-test.true ∙ ap (λ (y : Bor (List ℕ) × Value). y ∷ drop (i + 1) xs) (sym c.pair-item.is) in
    let not_once : c.in_ok-has_keys_once-in-Map.field-0 ≡ false = search rules in
    let inside : HasKeyTwice (value_tree x.1) = c.in_ok-has_keys_once-in-Map.ensures.twice not_once in
    let twice : PairsHaveKeyTwice (pairs_of (map shown (drop i xs))) = subst (λ (ys : List (Bor (List ℕ) × Value)). PairsHaveKeyTwice (pairs_of (map shown ys))) (sym rest) (inr (inl inside)) in
    subst HasKeyTwice (sym tree) (c.loop-pair.invariant.from (inl twice))

-- a key that was put is seen
put_seen : {X : Type 0} (b : Bool) (x : X) (o : Option X) → is_some (cond b (Some x) o) ≡ cond b true (is_some o)
put_seen true x o = refl
put_seen false x o = refl

pub loop-pair-preserved : goal.loop-pair-preserved
loop-pair-preserved t c =
    let xs = c.deref-pair-items.result.now in
    let i = c.loop-pair.pair-index in
    let x = c.pair-item.result in
    let seen : List ℕ → Bool = λ y. is_some (get_by (λ (k : Bor (List ℕ)). slice_cmp nat_cmp y k.now) c.loop-pair.seen) in
    let more : List ℕ → Bool = λ y. is_some (get_by (λ (k : Bor (List ℕ)). slice_cmp nat_cmp y k.now) c.insert.new.self) in
    let rest : drop i xs ≡ x ∷ drop (i + 1) xs = drop_more xs i x c.loop-pair-test.true ∙ ap (λ (y : Bor (List ℕ) × Value). y ∷ drop (i + 1) xs) (sym c.pair-item.is) in
    let grown : (y : List ℕ) → more y ≡ cond (bytes_eq x.0.now y) true (seen y) =
    λ y. ap is_some (btree_map_updates_str x.0.now c.loop-pair.seen c.insert.new.self _ c.in_ok-insert-in-Map.ensures.updates y) ∙ put_seen (bytes_eq x.0.now y) _ _ in
    let new : seen x.0.now ≡ false = search rules in
    let once : c.in_ok-has_keys_once-in-Map.field-0 ≡ true = search rules in
    let left : AreLeft (pairs_of (map shown xs)) seen (shown x ∷ map shown (drop (i + 1) xs)) = subst (λ (ys : List (Bor (List ℕ) × Value)). AreLeft (pairs_of (map shown xs)) seen (map shown ys)) rest c.loop-pair.invariant in
    one_more_seen seen more x.0.now grown (pairs_of (map shown xs)) (value_tree x.1) (map shown (drop (i + 1) xs)) left new (c.in_ok-has_keys_once-in-Map.ensures.once once)

pub returns-after-loop-value-clause-once : goal.returns-after-loop-value-clause-once
returns-after-loop-value-clause-once t c = λ h twice.
    let xs = c.deref-value-items.result.now in
    let i = c.loop-value.value-index in
    let tree : value_tree c.args.value.now ≡ array (trees_of (map value_tree xs)) = ap value_tree c.in-Array.is ∙ tree-Array c.in-Array.values ∙ ap (λ (ys : List Value). array (trees_of (map value_tree ys))) (sym c.deref-value-items.ensures.value) in
    let none : drop i xs ≡ [] = drop_all i xs (omega (arith, c.loop-value-test.false)) in
    subst (λ (ys : List Value). SomeHasKeyTwice (trees_of (map value_tree ys))) none (c.loop-value.invariant.to (subst HasKeyTwice tree twice))

pub returns-after-loop-pair-clause-once : goal.returns-after-loop-pair-clause-once
returns-after-loop-pair-clause-once t c = λ h twice.
    let xs = c.deref-pair-items.result.now in
    let i = c.loop-pair.pair-index in
    let tree : value_tree c.args.value.now ≡ table (pairs_of (map shown xs)) = ap value_tree c.in-Map.is ∙ tree-Map c.in-Map.pairs ∙ ap (λ (ys : List (Bor (List ℕ) × Value)). table (pairs_of (map shown ys))) (sym c.deref-pair-items.ensures.value) in
    let seen : List ℕ → Bool = λ y. is_some (get_by (λ (k : Bor (List ℕ)). slice_cmp nat_cmp y k.now) c.loop-pair.seen) in
    let none : drop i xs ≡ [] = drop_all i xs (omega (arith, c.loop-pair-test.false)) in
    let left : AreLeft (pairs_of (map shown xs)) seen [] = subst (λ (ys : List (Bor (List ℕ) × Value)). AreLeft (pairs_of (map shown xs)) seen (map shown ys)) none c.loop-pair.invariant in
    none_left (pairs_of (map shown xs)) seen left (subst HasKeyTwice tree twice)
