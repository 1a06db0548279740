use Rattle.std.proofs.Common.{◌≡◌, ◌+◌, ◌≤◌, length}
use Rattle.mmdb_filter.specs.Counting.{total}
use Rattle.mmdb_filter.specs.Working.{GoOn}
use Rattle.mmdb_filter.proofs.at_hand.pass_rows.Given as goal

abbrev pub invariant-loop-passed : goal.invariant-loop-passed
invariant-loop-passed g l = record {
  within : l.at ≤ length l.bytes;
  on : GoOn l.rows (g.A.Additions.adds l.additions) l.bytes l.at l.fn.batch.ready.items l.batch.ready.items l.fn.batch.counts l.batch.counts;
  fits : g.A.Additions.fits l.additions l.memory;
  few : total l.batch.counts ≡ l.batch.passed;
  same : l.batch.passed ≡ l.passed;
  part : l.batch.passed ≤ l.fn.batch.passed + l.at;
}
