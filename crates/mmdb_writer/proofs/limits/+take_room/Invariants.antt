use Rattle.std.proofs.Common.{◌≡◌, ◌≤◌, ◌+◌, suc, drop, map, true}
use Rattle.mmdb_format.specs.Unfolding.{value_count, trees_count, pairs_count, payload, trees_payload, pairs_payload, levels, trees_all_levels, pairs_all_levels, is_keyed, trees_keyed, pairs_keyed}
use Rattle.mmdb_value.specs.AnyValue.{trees_of, pairs_of}
use Rattle.mmdb_value.specs.Values.{value_tree}
use Rattle.mmdb_writer.proofs.limits.+take_room.Given as goal

-- what the values that are left need is what the whole value still needs
abbrev pub invariant-loop-value : goal.invariant-loop-value
invariant-loop-value l = record {
  values : value_count (value_tree l.fn.value) + l.room.values ≡ l.fn.room.values + trees_count (trees_of (map value_tree (drop l.value-index l.value-items)));
  bytes : payload (value_tree l.fn.value) + l.room.bytes ≡ l.fn.room.bytes + trees_payload (trees_of (map value_tree (drop l.value-index l.value-items)));
  deep : suc (trees_all_levels (trees_of (map value_tree (drop l.value-index l.value-items)))) ≤ levels (value_tree l.fn.value);
  shallow : trees_all_levels (trees_of (map value_tree (drop l.value-index l.value-items))) ≤ l.below → levels (value_tree l.fn.value) ≤ suc l.below;
  keyed : trees_keyed (trees_of (map value_tree (drop l.value-index l.value-items))) ≡ true → is_keyed (value_tree l.fn.value) ≡ true;
}

abbrev pub invariant-loop-pair : goal.invariant-loop-pair
invariant-loop-pair l = record {
  values : value_count (value_tree l.fn.value) + l.room.values ≡ l.fn.room.values + pairs_count (pairs_of (map (λ x. (x.0.now, value_tree x.1)) (drop l.pair-index l.pair-items)));
  bytes : payload (value_tree l.fn.value) + l.room.bytes ≡ l.fn.room.bytes + pairs_payload (pairs_of (map (λ x. (x.0.now, value_tree x.1)) (drop l.pair-index l.pair-items)));
  deep : suc (pairs_all_levels (pairs_of (map (λ x. (x.0.now, value_tree x.1)) (drop l.pair-index l.pair-items)))) ≤ levels (value_tree l.fn.value);
  shallow : pairs_all_levels (pairs_of (map (λ x. (x.0.now, value_tree x.1)) (drop l.pair-index l.pair-items))) ≤ l.below → levels (value_tree l.fn.value) ≤ suc l.below;
  keyed : pairs_keyed (pairs_of (map (λ x. (x.0.now, value_tree x.1)) (drop l.pair-index l.pair-items))) ≡ true → is_keyed (value_tree l.fn.value) ≡ true;
}
