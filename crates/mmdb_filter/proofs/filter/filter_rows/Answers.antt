use Rattle.std.proofs.Common.{subst}
use Rattle.mmdb_filter.specs.Working.{UnderWay, IsBegunWith}
use Rattle.mmdb_filter.proofs.FrontLaws.{on_any_err}
use Rattle.mmdb_filter.proofs.LineLaws.{started, either, ready_put, ended, given_up, given_up_between, written_out, written_in}
use Rattle.mmdb_filter.proofs.filter.filter_rows.Goals as goal

pub returns-in_default-clause-begun : goal.returns-in_default-clause-begun
returns-in_default-clause-begun g c =
    let adds = g.A.Additions.adds c.args.additions.now in
    let input = g.R.Read.remaining c.args.input.now in
    let out = g.W.Write.contents c.args.out.now in
    given_up_between c.args.rows adds input input out out c.args.before c.args.before (started c.args.rows adds input out c.args.before)

pub returns-in_err-batch-clause-begun : goal.returns-in_err-batch-clause-begun
returns-in_err-batch-clause-begun g c =
    let adds = g.A.Additions.adds c.args.additions.now in
    let input = g.R.Read.remaining c.args.input.now in
    let out = g.W.Write.contents c.args.out.now in
    on_any_err c.from_residual.result (given_up_between c.args.rows adds input input out out c.args.before c.args.before (started c.args.rows adds input out c.args.before))

pub returns-in_err-put_ready-clause-begun : goal.returns-in_err-put_ready-clause-begun
returns-in_err-put_ready-clause-begun g c =
    let rows = c.args.rows in
    let adds = g.A.Additions.adds c.args.additions.now in
    let input = g.R.Read.remaining c.args.input.now in
    let left = g.R.Read.remaining c.pass_all-done.new.input in
    let old = g.W.Write.contents c.args.out.now in
    let now = g.W.Write.contents c.pass_all-done.new.out in
    let new = g.W.Write.contents c.put_ready.new.out in
    let ready = c.pass_all-done.new.batch.ready.items in
    let begun : IsBegunWith rows adds input old now ready =
    either c.pass_all-done.result c.pass_all-done.ensures.way c.pass_all-done.ensures.begun
    (given_up rows adds input left old now ready c.in_ok-batch.batch.counts c.pass_all-done.new.batch.counts) in
    on_any_err c.from_residual-in_err-put_ready.result (written_in rows adds input old now new ready begun c.in_err-put_ready.ensures.begun)

pub returns-in_err-done-clause-begun : goal.returns-in_err-done-clause-begun
returns-in_err-done-clause-begun g c =
    let rows = c.args.rows in
    let adds = g.A.Additions.adds c.args.additions.now in
    let input = g.R.Read.remaining c.args.input.now in
    let left = g.R.Read.remaining c.pass_all-done.new.input in
    let old = g.W.Write.contents c.args.out.now in
    let now = g.W.Write.contents c.pass_all-done.new.out in
    let new = g.W.Write.contents c.put_ready.new.out in
    let ready = c.pass_all-done.new.batch.ready.items in
    on_any_err c.from_residual-in_err-done.result (written_out rows adds input old now new ready c.in_err-done.ensures.begun c.in_ok-put_ready.ensures.whole)

pub returns-clause-whole : goal.returns-clause-whole
returns-clause-whole g c =
    let rows = c.args.rows in
    let adds = g.A.Additions.adds c.args.additions.now in
    let input = g.R.Read.remaining c.args.input.now in
    let left = g.R.Read.remaining c.pass_all-done.new.input in
    let old = g.W.Write.contents c.args.out.now in
    let now = g.W.Write.contents c.pass_all-done.new.out in
    let new = g.W.Write.contents c.put_ready.new.out in
    let ready = c.pass_all-done.new.batch.ready.items in
    let counts = c.pass_all-done.new.batch.counts in
    let way = subst (λ n. UnderWay rows adds input left old now ready n counts) c.in_ok-batch.ensures.counts c.in_ok-done.ensures.way in
    ended rows adds input left old new c.args.before counts (ready_put rows adds input left old now new ready c.args.before counts way c.in_ok-put_ready.ensures.whole)
