use Rattle.std.proofs.Common.{sym, subst}
use Rattle.mmdb_query.specs.Steps.{PutsStep, IsPut, TakesKnown}
use Rattle.mmdb_query.specs.Walks.Item.{Found}
use Rattle.mmdb_query.specs.Taking.{asks}
use Rattle.mmdb_query.proofs.TakeLaws.{step_put, taken_after_none}
use Rattle.mmdb_query.proofs.each.put_item.Goals.{in-Ok-true, in-Ok-false, in-Err-put_known}
use Rattle.mmdb_query.proofs.each.put_item.Goals as goal

pub returns-after-put_known-clause-put : goal.returns-after-put_known-clause-put
returns-after-put_known-clause-put g c =
    let of = asks g.C.Conditions.says g.C.Conditions.is_unread g.S.Sink.puts g.S.Sink.is_unread g.S.Sink.leaves c.args.choice.now.conditions.now (g.S.Sink.form c.args.sink.now) in
    let sections = g.W.Item.Answer.sections in
    let had = g.W.Item.Answer.had in
    let answer = c.in-Ok.answer in
    let a = of (sections answer) in
    let old = g.S.Sink.took c.args.sink.now in
    let new = g.S.Sink.took c.match-put_known.sink in
    let before = g.O.Write.contents c.args.out.now in
    let after = g.O.Write.contents c.match-put_known.out in
    let one = g.S.Sink.took c.put_known.new.sink in
    let at = g.O.Write.contents c.put_known.new.out in
    let put : IsPut a (had answer) c.match-put_known.put old new before after = elim c.match-put_known.branch [
      | in-Ok-true w ↦
          rw (w.put-is, w.sink-is, w.out-is) (subst (λ b. TakesKnown a (Found (had answer)) b old one before at) w.in-Ok-true.field-0-test w.in-Ok-true.ensures.put)
      | in-Ok-false w ↦
          let (kept, none) = subst (λ b. TakesKnown a (Found (had answer)) b old one before at) w.in-Ok-false.field-0-test w.in-Ok-false.ensures.put in
          let anew = w.put_anew-put in
          let third = g.O.Write.contents anew.new.out in
          let said = subst (λ f. IsPut (asks g.C.Conditions.says g.C.Conditions.is_unread g.S.Sink.puts g.S.Sink.is_unread g.S.Sink.leaves c.args.choice.now.conditions.now f (sections answer)) (had answer) anew.result one (g.S.Sink.took anew.new.sink) at third) w.in-Ok-false.ensures.form anew.ensures.put in
          rw (w.put-is, w.sink-is, w.out-is) (taken_after_none a (had answer) anew.result old one (g.S.Sink.took anew.new.sink) before at third kept none said)
      | in-Err-put_known w ↦
          rw (w.put-is, w.out-is) w.in-Err-put_known.ensures.failed
    ] in
    subst (λ i. PutsStep of sections had i c.match-put_known.put old new before after) (sym c.in-Ok.is)
    (step_put of sections had answer c.match-put_known.put old new before after put)
