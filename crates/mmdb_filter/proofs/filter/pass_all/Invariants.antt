use Rattle.std.proofs.Common.{◌≡◌}
use Rattle.mmdb_filter.specs.Counting.{total}
use Rattle.mmdb_filter.specs.Working.{UnderWay}
use Rattle.mmdb_filter.proofs.filter.pass_all.Given as goal

abbrev pub invariant-loop : goal.invariant-loop
invariant-loop g l = record {
  way : UnderWay l.rows (g.A.Additions.adds l.additions) (g.R.Read.remaining l.fn.input) (g.R.Read.remaining l.input) (g.W.Write.contents l.fn.out) (g.W.Write.contents l.out) l.batch.ready.items l.fn.batch.counts l.batch.counts;
  fits : g.A.Additions.fits l.additions l.memory;
  few : total l.batch.counts ≡ l.batch.passed;
}
