use Rattle.std.proofs.Common.{◌≡◌, ◌+◌, ◌-◌, ◌*◌, ◌≤◌}
use Rattle.mmdb_compare.proofs.Same.{PairsGoOn, ElementsGoOn}
use Rattle.mmdb_compare.proofs.equality.SideBySide.+equality.Given as goal

-- what is below a value is less deep, and a value is read before its container, that before its parts
abbrev pub decreases-has_same_value : goal.decreases-has_same_value
decreases-has_same_value l = 4 * l.depth + 3

abbrev pub decreases-has_same_map : goal.decreases-has_same_map
decreases-has_same_map l = 4 * l.depth + 2

abbrev pub decreases-has_same_array : goal.decreases-has_same_array
decreases-has_same_array l = 4 * l.depth + 2

abbrev pub decreases-has_same_shared : goal.decreases-has_same_shared
decreases-has_same_shared l = 4 * l.depth + 5

abbrev pub decreases-has_same_pairs : goal.decreases-has_same_pairs
decreases-has_same_pairs l = 4 * l.depth + 4

abbrev pub decreases-has_same_elements : goal.decreases-has_same_elements
decreases-has_same_elements l = 4 * l.depth + 4

abbrev pub invariant-has_same_pairs-loop-i : goal.invariant-has_same_pairs-loop-i
invariant-has_same_pairs-loop-i l = record {
  sections : l.self ≡ l.fn.self;
  within : l._i ≤ l.fn.count;
  on : PairsGoOn l.fn.self l.fn.place l.place l.fn.count (l.fn.count - l._i) l.fn.depth;
}

abbrev pub invariant-has_same_elements-loop-i : goal.invariant-has_same_elements-loop-i
invariant-has_same_elements-loop-i l = record {
  sections : l.self ≡ l.fn.self;
  within : l._i ≤ l.fn.count;
  on : ElementsGoOn l.fn.self l.fn.place l.place l.fn.count (l.fn.count - l._i) l.fn.depth;
}
