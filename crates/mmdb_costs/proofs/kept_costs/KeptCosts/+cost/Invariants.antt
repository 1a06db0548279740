use Rattle.std.proofs.Common.{◌≡◌, ◌+◌, ◌-◌, ◌*◌, ◌≤◌}
use Rattle.mmdb_costs.proofs.Adding.{ElementsGoOn, PairsGoOn}
use Rattle.mmdb_costs.proofs.kept_costs.KeptCosts.+cost.Given as goal

-- what is below a value has fewer levels left, and of one level parts are larger than each of them
abbrev pub decreases-part_behind : goal.decreases-part_behind
decreases-part_behind l = 8 * l.levels + 3

abbrev pub decreases-part_of_pointer : goal.decreases-part_of_pointer
decreases-part_of_pointer l = 8 * l.levels + 2

abbrev pub decreases-part_of_map : goal.decreases-part_of_map
decreases-part_of_map l = 8 * l.levels + 2

abbrev pub decreases-part_of_array : goal.decreases-part_of_array
decreases-part_of_array l = 8 * l.levels + 2

abbrev pub decreases-elements : goal.decreases-elements
decreases-elements l = 8 * l.levels + 5

abbrev pub decreases-pairs : goal.decreases-pairs
decreases-pairs l = 8 * l.levels + 5

abbrev pub decreases-part_at : goal.decreases-part_at
decreases-part_at l = 8 * l.levels + 4

abbrev pub decreases-cost_at : goal.decreases-cost_at
decreases-cost_at l = 8 * l.levels + 4

abbrev pub invariant-elements-loop-i : goal.invariant-elements-loop-i
invariant-elements-loop-i l = record {
  same : l.self ≡ l.fn.self;
  passed : l._i ≤ l.count;
  on : ElementsGoOn l.fn.self l.start l.count l.all (l.count - l._i);
}

abbrev pub invariant-pairs-loop-i : goal.invariant-pairs-loop-i
invariant-pairs-loop-i l = record {
  same : l.self ≡ l.fn.self;
  passed : l._i ≤ l.count;
  on : PairsGoOn l.fn.self l.start l.count l.all (l.count - l._i);
}
