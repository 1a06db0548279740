use Rattle.std.proofs.Common.{rules, ◌≡◌, ◌∙◌, [], Some, ap, sym, subst}
use Rattle.mmdb_filter.specs.Counting.{total}
use Rattle.mmdb_filter.specs.Working.{UnderWay, IsBegunWith}
use Rattle.mmdb_filter.proofs.FrontLaws.{on_any_err}
use Rattle.mmdb_filter.proofs.LineLaws.{refilled, ready_put, end_too, given_up, begun_with, written_in}
use Rattle.mmdb_filter.proofs.filter.pass_all.Goals.{in-Rows, in-Part+in_ok-put_ready-in-Part+in_ok-pass_read-in-Part+else-not-branch}
use Rattle.mmdb_filter.proofs.filter.pass_all.Goals as goal

pub returns-then-batch-clause-begun : goal.returns-then-batch-clause-begun
returns-then-batch-clause-begun g c =
    given_up c.args.rows (g.A.Additions.adds c.args.additions.now) (g.R.Read.remaining c.args.input.now) (g.R.Read.remaining c.loop.input) (g.W.Write.contents c.args.out.now) (g.W.Write.contents c.loop.out) c.loop.batch.ready.items c.args.batch.now.counts c.loop.batch.counts c.loop.invariant.way

pub returns-in_err-is_end-clause-begun : goal.returns-in_err-is_end-clause-begun
returns-in_err-is_end-clause-begun g c =
    let rows = c.args.rows in
    let adds = g.A.Additions.adds c.args.additions.now in
    let input = g.R.Read.remaining c.args.input.now in
    let old = g.W.Write.contents c.args.out.now in
    let now = g.W.Write.contents c.loop.out in
    let new = g.W.Write.contents c.refill.new.out in
    let ready = c.loop.batch.ready.items in
    on_any_err c.from_residual.result
    (subst (λ r. IsBegunWith rows adds input old new r) (sym c.in_err-is_end.ensures.none)
    (begun_with rows adds input old new (written_in rows adds input old now new ready
    (given_up rows adds input (g.R.Read.remaining c.loop.input) old now ready c.args.batch.now.counts c.loop.batch.counts c.loop.invariant.way) c.in_err-is_end.ensures.begun)))

pub returns-in-Some-clause-way : goal.returns-in-Some-clause-way
returns-in-Some-clause-way g c =
    let rows = c.args.rows in
    let adds = g.A.Additions.adds c.args.additions.now in
    let input = g.R.Read.remaining c.args.input.now in
    let old = g.W.Write.contents c.args.out.now in
    let before = c.args.batch.now.counts in
    let left = g.R.Read.remaining c.refill.new.input in
    let out = g.W.Write.contents c.refill.new.out in
    let ready = c.refill.new.ready.items in
    let way : UnderWay rows adds input left old out ready before c.loop.batch.counts =
    refilled rows adds input (g.R.Read.remaining c.loop.input) left old (g.W.Write.contents c.loop.out) out c.loop.batch.ready.items ready before c.loop.batch.counts
    c.loop.invariant.way c.in_ok-is_end.ensures.left c.in_ok-is_end.ensures.put in
    way

pub returns-in-Some-clause-end : goal.returns-in-Some-clause-end
returns-in-Some-clause-end g c =
    λ is_end. end_too c.args.rows (g.A.Additions.adds c.args.additions.now) (g.R.Read.remaining c.args.input.now) (g.R.Read.remaining c.loop.input) (g.W.Write.contents c.args.out.now) (g.W.Write.contents c.loop.out) c.loop.batch.ready.items c.args.batch.now.counts c.loop.batch.counts _ c.loop.invariant.way
    (c.in_ok-is_end.ensures.end (c.in-Some.is ∙ ap Some is_end))

pub returns-in-Some-clause-asked : goal.returns-in-Some-clause-asked
returns-in-Some-clause-asked g c = λ is_end. c.in_ok-is_end.ensures.asked (c.in-Some.is ∙ ap Some is_end)

pub returns-in_err-pass_at_hand-clause-begun : goal.returns-in_err-pass_at_hand-clause-begun
returns-in_err-pass_at_hand-clause-begun g c =
    let rows = c.args.rows in
    let adds = g.A.Additions.adds c.args.additions.now in
    let input = g.R.Read.remaining c.args.input.now in
    let old = g.W.Write.contents c.args.out.now in
    let before = c.args.batch.now.counts in
    let left = g.R.Read.remaining c.refill.new.input in
    let out = g.W.Write.contents c.refill.new.out in
    let ready = c.refill.new.ready.items in
    let way : UnderWay rows adds input left old out ready before c.loop.batch.counts =
    refilled rows adds input (g.R.Read.remaining c.loop.input) left old (g.W.Write.contents c.loop.out) out c.loop.batch.ready.items ready before c.loop.batch.counts
    c.loop.invariant.way c.in_ok-is_end.ensures.left c.in_ok-is_end.ensures.put in
    on_any_err c.from_residual-in_err-pass_at_hand.result
    (subst (λ b. IsBegunWith rows adds input old out b.ready.items) (sym c.in_err-pass_at_hand.ensures.none)
    (given_up rows adds input left old out ready before c.loop.batch.counts way))

pub returns-in-End-clause-way : goal.returns-in-End-clause-way
returns-in-End-clause-way g c =
    let rows = c.args.rows in
    let adds = g.A.Additions.adds c.args.additions.now in
    let input = g.R.Read.remaining c.args.input.now in
    let old = g.W.Write.contents c.args.out.now in
    let before = c.args.batch.now.counts in
    let left = g.R.Read.remaining c.refill.new.input in
    let out = g.W.Write.contents c.refill.new.out in
    let ready = c.refill.new.ready.items in
    let way : UnderWay rows adds input left old out ready before c.loop.batch.counts =
    refilled rows adds input (g.R.Read.remaining c.loop.input) left old (g.W.Write.contents c.loop.out) out c.loop.batch.ready.items ready before c.loop.batch.counts
    c.loop.invariant.way c.in_ok-is_end.ensures.left c.in_ok-is_end.ensures.put in
    let next = g.R.Read.remaining c.pass_at_hand.new.input in
    let passed = c.pass_at_hand.new.batch in
    let way_on : UnderWay rows adds input next old out passed.ready.items before passed.counts = c.in_ok-pass_at_hand.ensures.way input old out before way in
    way_on

pub returns-in-End-clause-end : goal.returns-in-End-clause-end
returns-in-End-clause-end g c =
    let rows = c.args.rows in
    let adds = g.A.Additions.adds c.args.additions.now in
    let input = g.R.Read.remaining c.args.input.now in
    let old = g.W.Write.contents c.args.out.now in
    let before = c.args.batch.now.counts in
    let left = g.R.Read.remaining c.refill.new.input in
    let out = g.W.Write.contents c.refill.new.out in
    let ready = c.refill.new.ready.items in
    let way : UnderWay rows adds input left old out ready before c.loop.batch.counts =
    refilled rows adds input (g.R.Read.remaining c.loop.input) left old (g.W.Write.contents c.loop.out) out c.loop.batch.ready.items ready before c.loop.batch.counts
    c.loop.invariant.way c.in_ok-is_end.ensures.left c.in_ok-is_end.ensures.put in
    λ is_end. end_too rows adds input left old out ready before c.loop.batch.counts _ way (c.in_ok-pass_at_hand.ensures.end c.in-End.is)

pub returns-in_err-put_ready-in-Part-clause-begun : goal.returns-in_err-put_ready-in-Part-clause-begun
returns-in_err-put_ready-in-Part-clause-begun g c =
    let rows = c.args.rows in
    let adds = g.A.Additions.adds c.args.additions.now in
    let input = g.R.Read.remaining c.args.input.now in
    let old = g.W.Write.contents c.args.out.now in
    let before = c.args.batch.now.counts in
    let left = g.R.Read.remaining c.refill.new.input in
    let out = g.W.Write.contents c.refill.new.out in
    let ready = c.refill.new.ready.items in
    let way : UnderWay rows adds input left old out ready before c.loop.batch.counts =
    refilled rows adds input (g.R.Read.remaining c.loop.input) left old (g.W.Write.contents c.loop.out) out c.loop.batch.ready.items ready before c.loop.batch.counts
    c.loop.invariant.way c.in_ok-is_end.ensures.left c.in_ok-is_end.ensures.put in
    let next = g.R.Read.remaining c.pass_at_hand.new.input in
    let passed = c.pass_at_hand.new.batch in
    let way_on : UnderWay rows adds input next old out passed.ready.items before passed.counts = c.in_ok-pass_at_hand.ensures.way input old out before way in
    let new = g.W.Write.contents c.put_ready.new.out in
    on_any_err c.from_residual-in_err-put_ready-in-Part.result
    (subst (λ r. IsBegunWith rows adds input old new r) (sym c.in_err-put_ready-in-Part.ensures.none)
    (begun_with rows adds input old new (written_in rows adds input old out new passed.ready.items
    (given_up rows adds input next old out passed.ready.items before passed.counts way_on) c.in_err-put_ready-in-Part.ensures.begun)))

pub returns-in_err-pass_read-in-Part-clause-begun : goal.returns-in_err-pass_read-in-Part-clause-begun
returns-in_err-pass_read-in-Part-clause-begun g c =
    let rows = c.args.rows in
    let adds = g.A.Additions.adds c.args.additions.now in
    let input = g.R.Read.remaining c.args.input.now in
    let old = g.W.Write.contents c.args.out.now in
    let before = c.args.batch.now.counts in
    let left = g.R.Read.remaining c.refill.new.input in
    let out = g.W.Write.contents c.refill.new.out in
    let ready = c.refill.new.ready.items in
    let way : UnderWay rows adds input left old out ready before c.loop.batch.counts =
    refilled rows adds input (g.R.Read.remaining c.loop.input) left old (g.W.Write.contents c.loop.out) out c.loop.batch.ready.items ready before c.loop.batch.counts
    c.loop.invariant.way c.in_ok-is_end.ensures.left c.in_ok-is_end.ensures.put in
    let next = g.R.Read.remaining c.pass_at_hand.new.input in
    let passed = c.pass_at_hand.new.batch in
    let way_on : UnderWay rows adds input next old out passed.ready.items before passed.counts = c.in_ok-pass_at_hand.ensures.way input old out before way in
    let put = g.W.Write.contents c.put_ready.new.out in
    let way_put : UnderWay rows adds input next old put [] before passed.counts = ready_put rows adds input next old out put passed.ready.items before passed.counts way_on c.in_ok-put_ready-in-Part.ensures.whole in
    let new = g.W.Write.contents c.pass_read.new.out in
    on_any_err c.from_residual-in_err-pass_read-in-Part.result
    (subst (λ r. IsBegunWith rows adds input old new r) (sym c.in_err-pass_read-in-Part.ensures.none)
    (begun_with rows adds input old new (c.in_err-pass_read-in-Part.ensures.begun input old before way_put)))

pub returns-then-not-branch-clause-way : goal.returns-then-not-branch-clause-way
returns-then-not-branch-clause-way g c =
    let rows = c.args.rows in
    let adds = g.A.Additions.adds c.args.additions.now in
    let input = g.R.Read.remaining c.args.input.now in
    let old = g.W.Write.contents c.args.out.now in
    let before = c.args.batch.now.counts in
    let left = g.R.Read.remaining c.refill.new.input in
    let out = g.W.Write.contents c.refill.new.out in
    let ready = c.refill.new.ready.items in
    let way : UnderWay rows adds input left old out ready before c.loop.batch.counts =
    refilled rows adds input (g.R.Read.remaining c.loop.input) left old (g.W.Write.contents c.loop.out) out c.loop.batch.ready.items ready before c.loop.batch.counts
    c.loop.invariant.way c.in_ok-is_end.ensures.left c.in_ok-is_end.ensures.put in
    let next = g.R.Read.remaining c.pass_at_hand.new.input in
    let passed = c.pass_at_hand.new.batch in
    let way_on : UnderWay rows adds input next old out passed.ready.items before passed.counts = c.in_ok-pass_at_hand.ensures.way input old out before way in
    let put = g.W.Write.contents c.put_ready.new.out in
    let way_put : UnderWay rows adds input next old put [] before passed.counts = ready_put rows adds input next old out put passed.ready.items before passed.counts way_on c.in_ok-put_ready-in-Part.ensures.whole in
    (c.in_ok-pass_read-in-Part.ensures.on input old before way_put).0

pub returns-then-not-branch-clause-end : goal.returns-then-not-branch-clause-end
returns-then-not-branch-clause-end g c =
    let rows = c.args.rows in
    let adds = g.A.Additions.adds c.args.additions.now in
    let input = g.R.Read.remaining c.args.input.now in
    let old = g.W.Write.contents c.args.out.now in
    let before = c.args.batch.now.counts in
    let left = g.R.Read.remaining c.refill.new.input in
    let out = g.W.Write.contents c.refill.new.out in
    let ready = c.refill.new.ready.items in
    let way : UnderWay rows adds input left old out ready before c.loop.batch.counts =
    refilled rows adds input (g.R.Read.remaining c.loop.input) left old (g.W.Write.contents c.loop.out) out c.loop.batch.ready.items ready before c.loop.batch.counts
    c.loop.invariant.way c.in_ok-is_end.ensures.left c.in_ok-is_end.ensures.put in
    let next = g.R.Read.remaining c.pass_at_hand.new.input in
    let passed = c.pass_at_hand.new.batch in
    let way_on : UnderWay rows adds input next old out passed.ready.items before passed.counts = c.in_ok-pass_at_hand.ensures.way input old out before way in
    let put = g.W.Write.contents c.put_ready.new.out in
    let way_put : UnderWay rows adds input next old put [] before passed.counts = ready_put rows adds input next old out put passed.ready.items before passed.counts way_on c.in_ok-put_ready-in-Part.ensures.whole in
    λ is_end. (c.in_ok-pass_read-in-Part.ensures.on input old before way_put).1 (search rules)

pub returns-in-OutOfMemory-clause-begun : goal.returns-in-OutOfMemory-clause-begun
returns-in-OutOfMemory-clause-begun g c =
    let rows = c.args.rows in
    let adds = g.A.Additions.adds c.args.additions.now in
    let input = g.R.Read.remaining c.args.input.now in
    let old = g.W.Write.contents c.args.out.now in
    let before = c.args.batch.now.counts in
    let left = g.R.Read.remaining c.refill.new.input in
    let out = g.W.Write.contents c.refill.new.out in
    let ready = c.refill.new.ready.items in
    let way : UnderWay rows adds input left old out ready before c.loop.batch.counts =
    refilled rows adds input (g.R.Read.remaining c.loop.input) left old (g.W.Write.contents c.loop.out) out c.loop.batch.ready.items ready before c.loop.batch.counts
    c.loop.invariant.way c.in_ok-is_end.ensures.left c.in_ok-is_end.ensures.put in
    let next = g.R.Read.remaining c.pass_at_hand.new.input in
    let passed = c.pass_at_hand.new.batch in
    let way_on : UnderWay rows adds input next old out passed.ready.items before passed.counts = c.in_ok-pass_at_hand.ensures.way input old out before way in
    given_up rows adds input next old out passed.ready.items before passed.counts way_on

pub returns-clause-begun : goal.returns-clause-begun
returns-clause-begun g c =
    given_up c.args.rows (g.A.Additions.adds c.args.additions.now) (g.R.Read.remaining c.args.input.now) (g.R.Read.remaining c.loop.input) (g.W.Write.contents c.args.out.now) (g.W.Write.contents c.loop.out) c.loop.batch.ready.items c.args.batch.now.counts c.loop.batch.counts c.loop.invariant.way

pub loop-preserved : goal.loop-preserved
loop-preserved g c =
    let rows = c.args.rows in
    let adds = g.A.Additions.adds c.args.additions.now in
    let input = g.R.Read.remaining c.args.input.now in
    let old = g.W.Write.contents c.args.out.now in
    let before = c.args.batch.now.counts in
    let left = g.R.Read.remaining c.refill.new.input in
    let out = g.W.Write.contents c.refill.new.out in
    let ready = c.refill.new.ready.items in
    let way : UnderWay rows adds input left old out ready before c.loop.batch.counts =
    refilled rows adds input (g.R.Read.remaining c.loop.input) left old (g.W.Write.contents c.loop.out) out c.loop.batch.ready.items ready before c.loop.batch.counts
    c.loop.invariant.way c.in_ok-is_end.ensures.left c.in_ok-is_end.ensures.put in
    let next = g.R.Read.remaining c.pass_at_hand.new.input in
    let passed = c.pass_at_hand.new.batch in
    let way_on : UnderWay rows adds input next old out passed.ready.items before passed.counts = c.in_ok-pass_at_hand.ensures.way input old out before way in
    let m = c.match-branch-4 in
    elim m.branch [
      | in-Rows w ↦ record {
        way = subst (λ b. UnderWay rows adds input (g.R.Read.remaining m.input) old (g.W.Write.contents m.out) b.ready.items before b.counts) (sym w.batch-is)
            (subst (λ i. UnderWay rows adds input (g.R.Read.remaining i) old (g.W.Write.contents m.out) passed.ready.items before passed.counts) (sym w.input-is)
            (subst (λ o. UnderWay rows adds input next old (g.W.Write.contents o) passed.ready.items before passed.counts) (sym w.out-is) way_on));
        fits = subst (λ m. g.A.Additions.fits c.args.additions.now m) (sym w.memory-is) c.in_ok-pass_at_hand.ensures.fits;
        few = subst (λ b. total b.counts ≡ b.passed) (sym w.batch-is) c.in_ok-pass_at_hand.ensures.few;
      }
      | in-Part+in_ok-put_ready-in-Part+in_ok-pass_read-in-Part+else-not-branch w ↦
          let put = g.W.Write.contents w.put_ready.new.out in
          let way_put : UnderWay rows adds input next old put [] before passed.counts = ready_put rows adds input next old out put passed.ready.items before passed.counts way_on w.in_ok-put_ready-in-Part.ensures.whole in
          let read = w.pass_read.new in
          let way_read = (w.in_ok-pass_read-in-Part.ensures.on input old before way_put).0 in
          record {
            way = subst (λ b. UnderWay rows adds input (g.R.Read.remaining m.input) old (g.W.Write.contents m.out) b.ready.items before b.counts) (sym w.batch-is)
                (subst (λ i. UnderWay rows adds input (g.R.Read.remaining i) old (g.W.Write.contents m.out) read.batch.ready.items before read.batch.counts) (sym w.input-is)
                (subst (λ o. UnderWay rows adds input (g.R.Read.remaining read.input) old (g.W.Write.contents o) read.batch.ready.items before read.batch.counts) (sym w.out-is)
                way_read));
            fits = subst (λ m. g.A.Additions.fits c.args.additions.now m) (sym w.memory-is) w.in_ok-pass_read-in-Part.ensures.fits;
            few = subst (λ b. total b.counts ≡ b.passed) (sym w.batch-is) w.in_ok-pass_read-in-Part.ensures.few;
          }
    ]
