use Rattle.mmdb_query.specs.Reading.{values_of}
use Rattle.mmdb_query_forms.proofs.AlongLaws.{read_alike}
use Rattle.mmdb_query_forms.proofs.along.AlongReadAlong.read_along.Goals as goal

pub returns : goal.returns
returns g c =
    let answer = c.args.self.now.answer.now in
    read_alike (values_of (g.A.Answer.sections answer) (g.A.Answer.had answer).offsets c.args.path.now) c.read_along.result c.read_along.ensures
