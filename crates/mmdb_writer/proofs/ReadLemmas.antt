-- A value of a section is read, whose measures are those of the value that was put.
use Rattle.std.proofs.Common.{◌≡◌, ℕ, suc, ◌≤◌, eqb, Bool, true, false, List, refl, ap, sym, ◌∙◌, subst, arith}
use Rattle.std.specs.Prelude.{◌&&◌, ◌||◌}
use Rattle.std.proofs.lemmas.Bool.{false≢true}
use Rattle.mmdb_format.specs.Unfolding.{Tree, scalar, array, table, pointer, Trees, no_trees, tree, Pairs, no_pairs, pair, Unfolds, array_here, table_here, pointer_here, AllUnfold, one_more, PairsUnfold, one_more_pair, levels, trees_all_levels, pairs_all_levels, levels_without_key_pointers, key_levels, trees_levels, pairs_levels, value_count, trees_count, pairs_count, payload, trees_payload, pairs_payload, is_text, is_key, is_keyed, trees_keyed, pairs_keyed, without_pointers, trees_without, pairs_without}
use Rattle.mmdb_format.proofs.UnfoldingLaws.{one_tree}
use Rattle.mmdb_check.specs.Checking.{leads_to, trees_lead_to, pairs_lead_to}
use Rattle.mmdb_section.specs.Sections.{Tile, is_start, is_pointer, IsLaid, AreTiles, IsPart}
use Rattle.mmdb_section.specs.declared.value.SectionPart.TheVariants.{At}
use Rattle.mmdb_section.proofs.WriteLemmas.{laid_tile, and_first, and_second, or_true, same_start}
use Rattle.mmdb_section.proofs.AllowanceLemmas.{tile_at, unfolds_here}
use Rattle.mmdb_value.specs.Standing.{WholeValue}
use Rattle.mmdb_writer.specs.Limits.{IsWithinLimits}

-- ---- measures, with pointers and without

mutual
  count_without : (t : Tree) → value_count (without_pointers t) ≡ value_count t
  count_without (scalar c) = refl
  count_without (array ts) = ap suc (trees_count_without ts)
  count_without (table ps) = ap suc (pairs_count_without ps)
  count_without (pointer a t) = count_without t

  trees_count_without : (ts : Trees) → trees_count (trees_without ts) ≡ trees_count ts
  trees_count_without no_trees = refl
  trees_count_without (tree t ts) = let a = count_without t in let b = trees_count_without ts in omega arith

  pairs_count_without : (ps : Pairs) → pairs_count (pairs_without ps) ≡ pairs_count ps
  pairs_count_without no_pairs = refl
  pairs_count_without (pair k v ps) = let a = count_without k in let b = count_without v in let c = pairs_count_without ps in omega arith

mutual
  payload_without : (t : Tree) → payload (without_pointers t) ≡ payload t
  payload_without (scalar c) = refl
  payload_without (array ts) = trees_payload_without ts
  payload_without (table ps) = pairs_payload_without ps
  payload_without (pointer a t) = payload_without t

  trees_payload_without : (ts : Trees) → trees_payload (trees_without ts) ≡ trees_payload ts
  trees_payload_without no_trees = refl
  trees_payload_without (tree t ts) = let a = payload_without t in let b = trees_payload_without ts in omega arith

  pairs_payload_without : (ps : Pairs) → pairs_payload (pairs_without ps) ≡ pairs_payload ps
  pairs_payload_without no_pairs = refl
  pairs_payload_without (pair k v ps) = let a = payload_without k in let b = payload_without v in let c = pairs_payload_without ps in omega arith

mutual
  fewer_levels : (t : Tree) → levels_without_key_pointers t ≤ levels t
  fewer_levels (scalar c) = omega arith
  fewer_levels (array ts) = let a = trees_fewer_levels ts in omega arith
  fewer_levels (table ps) = let a = pairs_fewer_levels ps in omega arith
  fewer_levels (pointer a t) = let b = fewer_levels t in omega arith

  fewer_key_levels : (t : Tree) → key_levels t ≤ levels t
  fewer_key_levels (scalar c) = omega arith
  fewer_key_levels (array ts) = let a = trees_fewer_levels ts in omega arith
  fewer_key_levels (table ps) = let a = pairs_fewer_levels ps in omega arith
  fewer_key_levels (pointer a t) = let b = fewer_levels t in omega arith

  trees_fewer_levels : (ts : Trees) → trees_levels ts ≤ trees_all_levels ts
  trees_fewer_levels no_trees = omega arith
  trees_fewer_levels (tree t ts) = let a = fewer_levels t in let b = trees_fewer_levels ts in omega arith

  pairs_fewer_levels : (ps : Pairs) → pairs_levels ps ≤ pairs_all_levels ps
  pairs_fewer_levels no_pairs = omega arith
  pairs_fewer_levels (pair k v ps) = let a = fewer_key_levels k in let b = fewer_levels v in let c = pairs_fewer_levels ps in omega arith

-- ---- keys

and_both : (a b : Bool) → a ≡ true → b ≡ true → (a && b) ≡ true
and_both true b h k = k
and_both false b h k = absurd (false≢true h)

or_first : (a b : Bool) → a ≡ true → (a || b) ≡ true
or_first true b h = refl
or_first false b h = absurd (false≢true h)

-- a text that is no pointer, pointers dropped
plain_text : (t : Tree) → is_pointer t ≡ false → is_text (without_pointers t) ≡ true → is_text t ≡ true
plain_text (scalar c) direct h = h
plain_text (array ts) direct h = absurd (false≢true h)
plain_text (table ps) direct h = absurd (false≢true h)
plain_text (pointer a t) direct h = absurd (false≢true (sym direct))

module _ (tiles : List Tile) (bytes : List ℕ) (section : AreTiles tiles bytes) where
  -- what a pointer leads to is no pointer
  pointed : (a q : ℕ) (t : Tree) → is_start tiles a ≡ true → Unfolds bytes a t q → is_pointer t ≡ false
  pointed a q t start h =
      let w = tile_at tiles a start in
      let laid = laid_tile (IsLaid tiles bytes) w.tile tiles section.each w.is in
      let there : Unfolds bytes a w.tile.tree w.tile.end = subst (λ (n : ℕ). Unfolds bytes n w.tile.tree w.tile.end) w.at (unfolds_here tiles bytes section w.tile w.is) in
      ap is_pointer (one_tree h there).0 ∙ laid.direct

  key_is_key : (k : Tree) (p q : ℕ) → Unfolds bytes p k q → ((a : ℕ) → leads_to k a ≡ true → is_start tiles a ≡ true) → is_key (without_pointers k) ≡ true → is_text (without_pointers k) ≡ true → is_key k ≡ true
  key_is_key (scalar c) p q h closed key is = is
  key_is_key (array ts) p q h closed key is = absurd (false≢true is)
  key_is_key (table ps) p q h closed key is = absurd (false≢true is)
  key_is_key (pointer a t) p q (pointer_here x y z h) closed key is =
      plain_text t (pointed a _ t (closed a (or_first (eqb a a) (leads_to t a) (same_start a a refl))) h) is

  mutual
    keyed : (t : Tree) (p q : ℕ) → Unfolds bytes p t q → ((a : ℕ) → leads_to t a ≡ true → is_start tiles a ≡ true) → is_keyed (without_pointers t) ≡ true → is_keyed t ≡ true
    keyed (scalar c) p q h closed is = refl
    keyed (array ts) p q (array_here x y h) closed is = trees_are_keyed ts _ _ _ h closed is
    keyed (table ps) p q (table_here x y h) closed is = pairs_are_keyed ps _ _ _ h closed is
    keyed (pointer a t) p q (pointer_here x y z h) closed is = keyed t _ _ h (λ b k. closed b (or_true (eqb b a) (leads_to t b) k)) is

    trees_are_keyed : (ts : Trees) (p n q : ℕ) → AllUnfold bytes p n ts q → ((a : ℕ) → trees_lead_to ts a ≡ true → is_start tiles a ≡ true) → trees_keyed (trees_without ts) ≡ true → trees_keyed ts ≡ true
    trees_are_keyed no_trees p n q h closed is = refl
    trees_are_keyed (tree t ts) p n q (one_more h k) closed is =
        and_both (is_keyed t) (trees_keyed ts)
        (keyed t _ _ h (λ a l. closed a (or_first (leads_to t a) (trees_lead_to ts a) l)) (and_first (is_keyed (without_pointers t)) (trees_keyed (trees_without ts)) is))
        (trees_are_keyed ts _ _ _ k (λ a l. closed a (or_true (leads_to t a) (trees_lead_to ts a) l)) (and_second (is_keyed (without_pointers t)) (trees_keyed (trees_without ts)) is))

    pairs_are_keyed : (ps : Pairs) (p n q : ℕ) → PairsUnfold bytes p n ps q → ((a : ℕ) → pairs_lead_to ps a ≡ true → is_start tiles a ≡ true) → pairs_keyed (pairs_without ps) ≡ true → pairs_keyed ps ≡ true
    pairs_are_keyed no_pairs p n q h closed is = refl
    pairs_are_keyed (pair k v ps) p n q (one_more_pair g h l) closed is =
        let first = and_first (is_key (without_pointers k)) (is_keyed (without_pointers v) && pairs_keyed (pairs_without ps)) is in
        let rest = and_second (is_key (without_pointers k)) (is_keyed (without_pointers v) && pairs_keyed (pairs_without ps)) is in
        and_both (is_key k) (is_keyed v && pairs_keyed ps)
        (key_is_key k _ _ g (λ a m. closed a (or_first (leads_to k a) (leads_to v a || pairs_lead_to ps a) m)) first (key_text k first))
        (and_both (is_keyed v) (pairs_keyed ps)
        (keyed v _ _ h (λ a m. closed a (or_true (leads_to k a) (leads_to v a || pairs_lead_to ps a) (or_first (leads_to v a) (pairs_lead_to ps a) m))) (and_first (is_keyed (without_pointers v)) (pairs_keyed (pairs_without ps)) rest))
        (pairs_are_keyed ps _ _ _ l (λ a m. closed a (or_true (leads_to k a) (leads_to v a || pairs_lead_to ps a) (or_true (leads_to v a) (pairs_lead_to ps a) m))) (and_second (is_keyed (without_pointers v)) (pairs_keyed (pairs_without ps)) rest)))

    -- a key with no pointers is a text
    key_text : (k : Tree) → is_key (without_pointers k) ≡ true → is_text (without_pointers k) ≡ true
    key_text (scalar c) h = h
    key_text (array ts) h = h
    key_text (table ps) h = h
    key_text (pointer a t) h = key_text t h

  -- a value that can be read is what is read there
  pub part_is_read : (offset : ℕ) (v : Tree) → IsPart tiles (At offset) v → IsWithinLimits v → WholeValue true bytes offset v
  part_is_read offset v part can =
      let t = part.0 in
      let is = part.1 in
      let without : without_pointers t.tree ≡ v = part.3 in
      let laid = laid_tile (IsLaid tiles bytes) t tiles section.each is in
      let there : Unfolds bytes t.start t.tree t.end = unfolds_here tiles bytes section t is in
      let count : value_count t.tree ≡ value_count v = sym (count_without t.tree) ∙ ap value_count without in
      let size : payload t.tree ≡ payload v = sym (payload_without t.tree) ∙ ap payload without in
      let deep : levels (without_pointers t.tree) ≡ levels v = ap levels without in
      let fewer = fewer_levels t.tree in
      let twice = laid.levels in
      let shallow = can.levels in
      let few = can.values in
      let short = can.bytes in (
        t.tree,
        t.end,
        record {
          unfolds = subst (λ (n : ℕ). Unfolds bytes n t.tree t.end) part.2 there;
          keyed = keyed t.tree t.start t.end there laid.closed (ap is_keyed without ∙ can.keyed);
          texts = λ h. laid.texts;
          levels = omega arith;
        },
        sym without,
        omega arith,
        omega arith,
      )
