use Rattle.std.proofs.Common.{ap}
use Rattle.std.proofs.lemmas.List.{get_or_default}
use Rattle.mmdb_net.specs.Address.{bits_of_address}
use Rattle.mmdb_tree.proofs.nodes.Nodes.go_on.Goals as goal
use Rattle.mmdb_tree.proofs.nodes.Nodes.go_on.Goals.{then-gain_side_by_side, else-gain_side_by_side}

pub returns : goal.returns
returns c i a d start h w = elim c.if-gain_side_by_side.branch [
  | then-gain_side_by_side way ↦ c.finish_all.ensures i a d start h (rw way.leaves-is (way.walk_by_size.ensures i d _ (h, λ b. ap bits_of_address (get_or_default c.args.addresses.now i a b h)) start w))
  | else-gain_side_by_side way ↦ c.finish_all.ensures i a d start h (rw way.leaves-is w)
]
