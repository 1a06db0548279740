use Rattle.std.proofs.Common.{◌≡◌, ◌+◌, ◌-◌, ◌*◌, ◌≤◌}
use Rattle.mmdb_json.proofs.Containers.{TableGoesOn, ArrayGoesOn}
use Rattle.mmdb_json.proofs.record_texts.RecordTexts.+texts.Given as goal

-- a deeper level is smaller, and of one level a value is larger than what it is made of
abbrev pub decreases-make_value : goal.decreases-make_value
decreases-make_value l = 6 * l.levels + 5

abbrev pub decreases-put_array : goal.decreases-put_array
decreases-put_array l = 6 * l.levels + 3

abbrev pub decreases-put_item : goal.decreases-put_item
decreases-put_item l = 6 * l.levels + 5

abbrev pub decreases-put_member : goal.decreases-put_member
decreases-put_member l = 6 * l.levels + 5

abbrev pub decreases-put_table : goal.decreases-put_table
decreases-put_table l = 6 * l.levels + 3

abbrev pub decreases-put_target : goal.decreases-put_target
decreases-put_target l = 6 * l.levels + 2

abbrev pub decreases-put_value_at : goal.decreases-put_value_at
decreases-put_value_at l = 6 * l.levels + 6

abbrev pub decreases-put_value : goal.decreases-put_value
decreases-put_value l = 6 * l.levels + 4

abbrev pub invariant-put_array-loop-i : goal.invariant-put_array-loop-i
invariant-put_array-loop-i l = record {
  section : l.self ≡ l.fn.self;
  within : l._i ≤ l.fn.header.size;
  few : l.budget.levels ≤ l.levels - 1;
  on : ArrayGoesOn l.fn.self l.offset l.levels (l.levels - 1) l.fn.budget l.fn.out l.after_value l.at (l.fn.header.size - l._i) l.budget l.out;
}

abbrev pub invariant-put_table-loop-i : goal.invariant-put_table-loop-i
invariant-put_table-loop-i l = record {
  section : l.self ≡ l.fn.self;
  within : l._i ≤ l.fn.header.size;
  few : l.budget.levels ≤ l.levels - 1;
  on : TableGoesOn l.fn.self l.offset l.levels (l.levels - 1) l.fn.budget l.fn.out l.after_value l.at (l.fn.header.size - l._i) l.budget l.out;
}
