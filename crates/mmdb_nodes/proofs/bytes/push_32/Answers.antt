use Rattle.std.proofs.Common.{rules}
use Rattle.mmdb_nodes.specs.Working.{AddsNode}
use Rattle.mmdb_nodes.proofs.ByteLemmas.{node_32, if_put}
use Rattle.mmdb_nodes.proofs.bytes.push_32.Goals as goal

pub returns : goal.returns
returns c =
    if_put c.extend_from_slice.result (AddsNode 32 c.args.left c.args.right c.args.bytes.now.items) _ _ _ c.extend_from_slice.ensures.items
    (node_32 c.args.left c.args.right _ _ c.args.bytes.now.items c.to_be_bytes.ensures c.to_be_bytes-2.ensures (search rules) (search rules))
