use Rattle.mmdb_c.proofs.ListTreeLaws.{each_tree_is_listed}
use Rattle.mmdb_c.proofs.laws.each_tree_is_listed.Goals as goal

pub returns : goal.returns
returns c = each_tree_is_listed
