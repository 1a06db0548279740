use Rattle.std.proofs.Common.{ℕ, List, drop, map}
use Rattle.std.specs.BTreeMap.{get_by}
use Rattle.std.specs.Cmp.Lexicographic.{slice_cmp}
use Rattle.std.specs.Option.{is_some}
use Rattle.std.specs.Ordering.{nat_cmp}
use Rattle.mmdb_value.specs.AnyValue.{trees_of, pairs_of}
use Rattle.mmdb_value.specs.Values.{value_tree}
use Rattle.mmdb_writer.specs.Limits.{SomeHasKeyTwice}
use Rattle.mmdb_writer.specs.Working.{AreLeft}
use Rattle.mmdb_writer.proofs.keys.+has_keys_once.Given as goal

-- all values have a key twice exactly where those that are left do
abbrev pub invariant-loop-value : goal.invariant-loop-value
invariant-loop-value l = record {
  to : SomeHasKeyTwice (trees_of (map value_tree l.value-items)) → SomeHasKeyTwice (trees_of (map value_tree (drop l.value-index l.value-items)));
  from : SomeHasKeyTwice (trees_of (map value_tree (drop l.value-index l.value-items))) → SomeHasKeyTwice (trees_of (map value_tree l.value-items));
}

abbrev pub invariant-loop-pair : goal.invariant-loop-pair
invariant-loop-pair l = AreLeft (pairs_of (map (λ x. (x.0.now, value_tree x.1)) l.pair-items)) (λ (y : List ℕ). is_some (get_by (λ k. slice_cmp nat_cmp y k.now) l.seen)) (map (λ x. (x.0.now, value_tree x.1)) (drop l.pair-index l.pair-items))
