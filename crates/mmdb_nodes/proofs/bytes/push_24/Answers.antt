use Rattle.mmdb_nodes.specs.Working.{AddsNode}
use Rattle.mmdb_nodes.proofs.ByteLemmas.{node_24, if_put}
use Rattle.mmdb_nodes.proofs.bytes.push_24.Goals as goal

pub returns : goal.returns
returns c =
    if_put c.extend_from_slice.result (AddsNode 24 c.args.left c.args.right c.args.bytes.now.items) _ _ _ c.extend_from_slice.ensures.items
    (node_24 c.args.left c.args.right _ _ c.args.bytes.now.items c.to_be_bytes.ensures c.to_be_bytes-2.ensures c.requires.left c.requires.right)
