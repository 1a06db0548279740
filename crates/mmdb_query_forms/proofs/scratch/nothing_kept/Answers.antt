use Rattle.std.proofs.Common.{arith}
use Rattle.mmdb_query_forms.proofs.scratch.nothing_kept.Goals as goal

pub returns : goal.returns
returns c = record { many = omega (arith, c.loop.invariant.many); none = c.loop.invariant.none }
