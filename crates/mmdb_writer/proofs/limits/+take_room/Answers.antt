use Rattle.std.proofs.Common.{◌≡◌, ℕ, suc, List, map, sym, ap, ◌∙◌, arith, Bor}
use Rattle.mmdb_format.specs.Unfolding.{Tree, table, value_count, pairs_count, payload, pairs_payload, levels, pairs_all_levels, is_keyed}
use Rattle.mmdb_value.specs.AnyValue.{pairs_of}
use Rattle.mmdb_value.specs.Values.{value_tree}
use Rattle.mmdb_value.specs.declared.any_value.Value.{Value}
use Rattle.mmdb_value.proofs.ValueTrees.{tree-Map}
use Rattle.mmdb_writer.proofs.limits.+take_room.Goals as goal

abbrev pairs_in : List (Bor (List ℕ) × Value) → List (List ℕ × Tree)
pairs_in xs = map {A = Bor (List ℕ) × Value} {B = List ℕ × Tree} (λ x. (x.0.now, value_tree x.1)) xs

pub loop-pair-init : goal.loop-pair-init
loop-pair-init t c =
    let all = pairs_of (pairs_in c.deref-pair-items.result.now) in
    let is : value_tree c.args.value.now ≡ table all = ap value_tree c.in-Map.is ∙ tree-Map c.in-Map.pairs ∙ ap (λ (xs : List (Bor (List ℕ) × Value)). table (pairs_of (pairs_in xs))) (sym c.deref-pair-items.ensures.value) in
    let count : value_count (value_tree c.args.value.now) ≡ suc (pairs_count all) = ap value_count is in
    let size : payload (value_tree c.args.value.now) ≡ pairs_payload all = ap payload is in
    let deep : levels (value_tree c.args.value.now) ≡ suc (pairs_all_levels all) = ap levels is in
    let taken = c.in_ok-take-in-Map.ensures.values in
    let short = c.in_ok-take-in-Map.ensures.bytes in
    record {
      values = omega arith;
      bytes = omega arith;
      deep = omega arith;
      shallow = λ h. omega arith;
      keyed = λ h. ap is_keyed is ∙ h;
    }
