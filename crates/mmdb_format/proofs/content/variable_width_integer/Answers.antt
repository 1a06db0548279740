use Rattle.mmdb_format.proofs.Numbers.{short_enough}
use Rattle.mmdb_format.proofs.content.variable_width_integer.Goals as goal

pub returns-in-Some-clause-bound : goal.returns-in-Some-clause-bound
returns-in-Some-clause-bound c = short_enough c.in-Some.n c.args.header.size c.args.most c.in-Some.ensures.bound.0 c.if-header-most.false
