use Rattle.std.proofs.Common.{subst}
use Rattle.mmdb_query.specs.Taking.{asks}
use Rattle.mmdb_query.proofs.TakeLaws.{chosen_tried, chosen_left}
use Rattle.mmdb_query.proofs.each.put_chosen.Goals as goal

pub returns-in-Ok-true-clause-tried : goal.returns-in-Ok-true-clause-tried
returns-in-Ok-true-clause-tried g c =
    let form = g.S.Sink.form in
    let took = g.S.Sink.took in
    let s = g.A.Answer.sections c.args.answer.now in
    let had = g.A.Answer.had c.args.answer.now in
    let before = g.O.Write.contents c.args.out.now in
    let asked = asks g.C.Conditions.says g.C.Conditions.is_unread g.S.Sink.puts g.S.Sink.is_unread g.S.Sink.leaves in
    let a = asked c.args.choice.now.conditions.now (form c.args.sink.now) s in
    chosen_tried a had c.put.result (took c.args.sink.now) (took c.put.new.self) before (g.O.Write.contents c.put.new.out)
    (subst (λ b. a.says had.offsets b) c.in-Ok-true.field-0-test c.in-Ok-true.ensures.says) c.put.ensures.done

pub returns-in-Ok-true-clause-failed : goal.returns-in-Ok-true-clause-failed
returns-in-Ok-true-clause-failed g c =
    let s = g.A.Answer.sections c.args.answer.now in
    let had = g.A.Answer.had c.args.answer.now in
    let a = asks g.C.Conditions.says g.C.Conditions.is_unread g.S.Sink.puts g.S.Sink.is_unread g.S.Sink.leaves c.args.choice.now.conditions.now (g.S.Sink.form c.args.sink.now) s in
    chosen_left a had c.put.result _ _ _ (subst (λ b. a.says had.offsets b) c.in-Ok-true.field-0-test c.in-Ok-true.ensures.says) c.put.ensures.failed
