use Rattle.std.proofs.Common.{arith, subst, sym}
use Rattle.mmdb_layout.specs.Reading.{IsReadAs}
use Rattle.mmdb_cmd_enrich.proofs.RecordLaws.{answer_here, none_here}
use Rattle.mmdb_cmd_enrich.proofs.layers.read_numbered.Goals as goal

pub returns-then-number-answers : goal.returns-then-number-answers
returns-then-number-answers g c = sym (none_here c.args.answers.now c.args.number c.args.path.now (omega (arith, c.if-number-answers.true)))

pub returns : goal.returns
returns g c =
    subst (λ a. IsReadAs a c.read_answer.result)
    (answer_here c.args.answers.now c.args.number c.index-answers-number.result c.args.path.now (omega (arith, c.if-number-answers.false)) c.index-answers-number.is)
    c.read_answer.ensures
