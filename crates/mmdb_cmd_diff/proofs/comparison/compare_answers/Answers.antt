use Rattle.std.proofs.Common.{refl, ap, sym, subst}
use Rattle.std.proofs.lemmas.Result.{on_ok_weaker}
use Rattle.mmdb_cmd_diff.specs.Lines.{AreWaiting, waiting_in}
use Rattle.mmdb_cmd_diff.specs.Showing.{Showing}
use Rattle.mmdb_cmd_diff.proofs.Gathering.{out-alike, out-unread, tells-out-none, tells-out, tells-pushed, ready-kept, apart-read, both-ok}
use Rattle.mmdb_cmd_diff.proofs.Telling.{tells-as}
use Rattle.mmdb_cmd_diff.proofs.comparison.compare_answers.Goals as goal

pub returns-in-Ok-true-clause-told : goal.returns-in-Ok-true-clause-told
returns-in-Ok-true-clause-told g c both ready found there =
    let now = c.args.so_far.now in
    tells-out-none now.pairs.layout.now now.kinds now.pairs.shown both c.args.stretch now.changes _
    (out-alike now.kinds now.pairs.shown both c.args.stretch _ _ there (c.in-Ok-true.ensures.same found ready.kept c.in-Ok-true.field-0-test))

pub returns-in-Ok-false-clause-told : goal.returns-in-Ok-false-clause-told
returns-in-Ok-false-clause-told g c both ready found there =
    let now = c.args.so_far.now in
    let waiting = subst (λ (z : Showing). AreWaiting z both now.changes) (sym c.is_same.ensures.shown) ready.changes in
    on_ok_weaker c.push.result
    (λ t. tells-pushed now.pairs.layout.now now.kinds now.pairs.shown both c.args.stretch now.changes c.push.new.self _ _
    (tells-as now.pairs.layout.now c.is_same.new.self.layout.now now.pairs.shown c.is_same.new.self.shown both _ _ _ _ (ap (λ l. l.now) c.is_same.ensures.layout) c.is_same.ensures.shown t))
    (c.push.ensures.told both waiting there)

pub returns-in-Err-clause-told : goal.returns-in-Err-clause-told
returns-in-Err-clause-told g c both ready found there =
    let now = c.args.so_far.now in
    let next = c.is_same.new.self in
    let reported = c.report_value-reported in
    both-ok reported.result _ _ _
    (λ told fine. tells-out now.pairs.layout.now now.kinds now.pairs.shown both c.args.stretch now.changes reported.new.so_far.changes _ _
    (out-unread now.kinds now.pairs.shown both c.args.stretch _ _ there c.in-Err.unreadable.side (apart-read c.in-Err.unreadable.error _ (c.in-Err.ensures.failed found) fine))
    (tells-as now.pairs.layout.now next.layout.now now.pairs.shown next.shown both (waiting_in now.changes) (waiting_in reported.new.so_far.changes) _ _ (ap (λ l. l.now) c.is_same.ensures.layout) c.is_same.ensures.shown told))
    (reported.ensures.told both (ready-kept both now _ c.is_same.ensures.shown (c.is_same.ensures.kept found ready.kept) refl ready)) reported.ensures.read
