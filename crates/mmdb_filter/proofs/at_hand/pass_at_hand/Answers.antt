use Rattle.std.proofs.Common.{◌≤◌, length, subst}
use Rattle.std.specs.Io.BufRead.{FillKeeps}
use Rattle.std.proofs.BufReadLemmas.{Consumes_shown}
use Rattle.mmdb_filter.proofs.LineLaws.{more_ready}
use Rattle.mmdb_filter.proofs.at_hand.pass_at_hand.Goals as goal

pub returns-clause-way : goal.returns-clause-way
returns-clause-way g c = λ all old now before way.
    let adds = g.A.Additions.adds c.args.additions.now in
    let shown = c.in-Ok.shown.now in
    let n = c.pass_rows-taken.result.bytes in
    let few : n ≤ length shown = c.pass_rows-taken.ensures.within in
    let rested = c.fill_buf.follows.lender-at-none in
    let filled = subst (FillKeeps _ (g.R.Read.remaining rested) (g.R.BufRead.consumable_len rested)) c.in-Ok.is c.fill_buf.follows.holds-at-none in
    let moved = Consumes_shown (g.R.Read.remaining c.args.input.now) (g.R.Read.remaining rested) (g.R.Read.remaining c.consume.new.self) (g.R.BufRead.consumable_len rested) shown n few c.in-Ok.ensures.front c.in-Ok.ensures.end filled.0 filled.1 c.consume.ensures.bytes in
    more_ready c.args.rows adds all (g.R.Read.remaining c.args.input.now) (g.R.Read.remaining c.consume.new.self) old now shown c.args.batch.now.ready.items c.pass_rows-taken.new.batch.ready.items n before c.args.batch.now.counts c.pass_rows-taken.new.batch.counts
    few c.in-Ok.ensures.front moved.0 c.pass_rows-taken.ensures.on way
