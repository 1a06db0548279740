use Rattle.mmdb_format.proofs.UnfoldingLaws.{one_tree_unfolds}
use Rattle.mmdb_format.proofs.laws.one_tree_unfolds.Goals as goal

pub returns : goal.returns
returns c = one_tree_unfolds
