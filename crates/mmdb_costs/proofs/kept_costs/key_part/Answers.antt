use Rattle.std.proofs.Common.{sym}
use Rattle.mmdb_costs.proofs.Adding.{key_costs}
use Rattle.mmdb_costs.proofs.kept_costs.key_part.Goals as goal

pub returns : goal.returns
returns c = key_costs c.args.section.now c.args.offset c.in-Ok.key.now _ (sym c.in-Ok.ensures.value) c.in_ok-of.ensures.cost
