use Rattle.std.proofs.Common.{Some, ◌∙◌, subst}
use Rattle.mmdb_query.specs.Taking.{asks}
use Rattle.mmdb_query.specs.Steps.{IsTried}
use Rattle.mmdb_query.proofs.TakeLaws.{tried_reported, taken_after_none}
use Rattle.mmdb_query.proofs.each.put_anew.Goals as goal

pub returns-then-not-is_memory-clause-put : goal.returns-then-not-is_memory-clause-put
returns-then-not-is_memory-clause-put g c =
    let took = g.S.Sink.took in
    let s = g.A.Answer.sections c.args.answer.now in
    let had = g.A.Answer.had c.args.answer.now in
    let before = g.O.Write.contents c.args.out.now in
    let asked = asks g.C.Conditions.says g.C.Conditions.is_unread g.S.Sink.puts g.S.Sink.is_unread g.S.Sink.leaves in
    let a = asked c.args.choice.now.conditions.now (g.S.Sink.form c.args.sink.now) s in
    let at = g.O.Write.contents c.put_chosen.new.out in
    let one = took c.put_chosen.new.sink in
    let tried = subst (λ u. IsTried a had u (took c.args.sink.now) one before at) c.in-Ok-Some.field-0-is c.in-Ok-Some.ensures.tried in
    tried_reported a had c.report_of.result c.in-Ok-Some.error (took c.args.sink.now) one (took c.report_of.new.sink) before at (g.O.Write.contents c.report_of.new.out) tried c.report_of.ensures.took c.report_of.ensures.one c.report_of.ensures.failed c.report_of.ensures.out

pub returns-then-not-drop_kept-clause-choice : goal.returns-then-not-drop_kept-clause-choice
returns-then-not-drop_kept-clause-choice g c = c.drop_kept.ensures.choice (g.A.Answer.sections c.args.answer.now) c.put_chosen.ensures.choice

pub put_chosen-requires-in-Ok-Some-clause-choice : goal.put_chosen-requires-in-Ok-Some-clause-choice
put_chosen-requires-in-Ok-Some-clause-choice g c = c.drop_kept.ensures.choice (g.A.Answer.sections c.args.answer.now) c.put_chosen.ensures.choice

pub returns-in-Ok-Some-put_chosen-clause-put : goal.returns-in-Ok-Some-put_chosen-clause-put
returns-in-Ok-Some-put_chosen-clause-put g c =
    let form = g.S.Sink.form in
    let took = g.S.Sink.took in
    let s = g.A.Answer.sections c.args.answer.now in
    let had = g.A.Answer.had c.args.answer.now in
    let before = g.O.Write.contents c.args.out.now in
    let asked = asks g.C.Conditions.says g.C.Conditions.is_unread g.S.Sink.puts g.S.Sink.is_unread g.S.Sink.leaves in
    let conditions = c.args.choice.now.conditions.now in
    let a = asked conditions (form c.args.sink.now) s in
    let old = took c.args.sink.now in
    let at = g.O.Write.contents c.put_chosen.new.out in
    let one = took c.drop_kept.new.sink in
    let then = g.O.Write.contents c.put_chosen-in-Ok-Some.new.out in
    let two = took c.put_chosen-in-Ok-Some.new.sink in
    let r = c.report_of-in-Ok-Some-put_chosen.result in
    let new = took c.report_of-in-Ok-Some-put_chosen.new.sink in
    let after = g.O.Write.contents c.report_of-in-Ok-Some-put_chosen.new.out in
    let e = c.in-Ok-Some-put_chosen.error in
    let (cant, kept, none) = subst (λ u. IsTried a had u old (took c.put_chosen.new.sink) before at) c.in-Ok-Some.field-0-is c.in-Ok-Some.ensures.tried in
    let again = subst (λ u. IsTried (asked c.drop_kept.new.choice.conditions.now (form c.drop_kept.new.sink) s) had u one two at then) c.in-Ok-Some-put_chosen.field-0-is c.in-Ok-Some-put_chosen.ensures.tried in
    let again = subst (λ m. IsTried (asked m (form c.drop_kept.new.sink) s) had (Some e) one two at then) (c.drop_kept.ensures.same ∙ c.put_chosen.ensures.same) again in
    let again = subst (λ f. IsTried (asked conditions f s) had (Some e) one two at then) (c.drop_kept.ensures.form ∙ c.put_chosen.ensures.form) again in
    let reported = c.report_of-in-Ok-Some-put_chosen.ensures in
    let put = tried_reported a had r e one two new at then after again reported.took reported.one reported.failed reported.out in
    taken_after_none a had r old one new before at after (c.drop_kept.ensures.took ∙ kept) none put
