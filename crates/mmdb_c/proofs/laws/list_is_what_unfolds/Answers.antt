use Rattle.mmdb_c.proofs.ListTreeLaws.{lists_what_unfolds}
use Rattle.mmdb_c.proofs.laws.list_is_what_unfolds.Goals as goal

pub returns : goal.returns
returns c = lists_what_unfolds
