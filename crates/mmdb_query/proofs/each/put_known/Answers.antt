use Rattle.std.proofs.Common.{subst}
use Rattle.mmdb_query.specs.Taking.{asks}
use Rattle.mmdb_query.proofs.TakeLaws.{known_taken, chosen_left}
use Rattle.mmdb_query.proofs.each.put_known.Goals as goal

pub returns-in-Some-true-clause-put : goal.returns-in-Some-true-clause-put
returns-in-Some-true-clause-put g c =
    let s = g.A.Answer.sections c.args.answer.now in
    let a = asks g.C.Conditions.says g.C.Conditions.is_unread g.S.Sink.puts g.S.Sink.is_unread g.S.Sink.leaves c.args.choice.now.conditions.now (g.S.Sink.form c.args.sink.now) s in
    let had = g.A.Answer.had c.args.answer.now in
    known_taken a had c.put_kept.result _ _ _ _ (subst (λ b. a.says had.offsets b) c.in-Some-true.field-0-test c.in-Some-true.ensures) c.put_kept.ensures.done

pub returns-in-Some-true-clause-failed : goal.returns-in-Some-true-clause-failed
returns-in-Some-true-clause-failed g c =
    let s = g.A.Answer.sections c.args.answer.now in
    let a = asks g.C.Conditions.says g.C.Conditions.is_unread g.S.Sink.puts g.S.Sink.is_unread g.S.Sink.leaves c.args.choice.now.conditions.now (g.S.Sink.form c.args.sink.now) s in
    let had = g.A.Answer.had c.args.answer.now in
    chosen_left a had c.put_kept.result _ _ _ (subst (λ b. a.says had.offsets b) c.in-Some-true.field-0-test c.in-Some-true.ensures) c.put_kept.ensures.failed
