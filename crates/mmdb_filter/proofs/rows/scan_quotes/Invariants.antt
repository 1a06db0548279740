use Rattle.std.proofs.Common.{◌≡◌, ◌≢◌, ◌≤◌, ◌-◌, ◌++◌, ℕ, List, take, drop, length}
use Rattle.mmdb_filter.specs.Rows.{Goes}
use Rattle.mmdb_filter.specs.declared.rows.RowPosition.TheVariants as spec_position
use Rattle.mmdb_filter.specs.declared.rows.Rows.TheVariants.{Csv}
use Rattle.mmdb_filter.proofs.rows.scan_quotes.Given as goal

abbrev pub invariant-loop-at : goal.invariant-loop-at
invariant-loop-at l = record {
  goes : (ys : List ℕ) → Goes (Csv l.delimiter) l.fn.position (l.bytes ++ ys) (take l.at l.bytes) l.now (drop l.at l.bytes ++ ys);
  within : l.at ≤ length l.bytes;
  first : l.at ≡ 0 → l.now ≡ l.fn.position;
  going : l.now ≢ spec_position.Ended;
}

abbrev pub decreases-loop-at : goal.decreases-loop-at
decreases-loop-at l = length l.bytes - l.at
