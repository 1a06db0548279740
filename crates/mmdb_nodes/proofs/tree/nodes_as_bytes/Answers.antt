use Rattle.std.proofs.Common.{arith, ◌≡◌, ℕ, subst, length, get_or, Some, true, false}
use Rattle.std.specs.List.{slice_get}
use Rattle.std.proofs.lemmas.Option.{slice_get-get_or}
use Rattle.mmdb_nodes.specs.declared.node.Node.{Node as SpecNode}
use Rattle.mmdb_nodes.specs.declared.node.NodeRecord.TheVariants.{Node}
use Rattle.mmdb_nodes.specs.Working.{side, IsBelow, AddsNode, number_in}
use Rattle.mmdb_nodes.specs.Trees.{bits_in}
use Rattle.mmdb_nodes.proofs.ByteLemmas.{number_fits, one_more_node, is_size}
use Rattle.mmdb_nodes.proofs.tree.nodes_as_bytes.Goals as goal

abbrev none : SpecNode
none = record { left = Node 0; right = Node 0 }

pub number_of-left-requires-clause-below : goal.number_of-left-requires-clause-below
number_of-left-requires-clause-below c =
    let at = slice_get-get_or c.args.nodes.now c.loop-node.node-index none c.loop-node-test.true in
    subst (λ o. IsBelow (length c.args.nodes.now) c.args.data_len (side o false)) at (c.requires.sound c.loop-node.node-index false (omega arith) c.loop-node-test.true)

pub number_of-right-requires-clause-below : goal.number_of-right-requires-clause-below
number_of-right-requires-clause-below c =
    let at = slice_get-get_or c.args.nodes.now c.loop-node.node-index none c.loop-node-test.true in
    subst (λ o. IsBelow (length c.args.nodes.now) c.args.data_len (side o true)) at (c.requires.sound c.loop-node.node-index true (omega arith) c.loop-node-test.true)

pub push_node-requires-clause-left : goal.push_node-requires-clause-left
push_node-requires-clause-left c =
    let at = slice_get-get_or c.args.nodes.now c.loop-node.node-index none c.loop-node-test.true in
    let below = subst (λ o. IsBelow (length c.args.nodes.now) c.args.data_len (side o false)) at (c.requires.sound c.loop-node.node-index false (omega arith) c.loop-node-test.true) in
    let fits = number_fits (length c.args.nodes.now) c.args.data_len (bits_in c.args.size) _ c.requires.room below in
    let is = c.number_of-left.ensures in
    omega arith

pub push_node-requires-clause-right : goal.push_node-requires-clause-right
push_node-requires-clause-right c =
    let at = slice_get-get_or c.args.nodes.now c.loop-node.node-index none c.loop-node-test.true in
    let below = subst (λ o. IsBelow (length c.args.nodes.now) c.args.data_len (side o true)) at (c.requires.sound c.loop-node.node-index true (omega arith) c.loop-node-test.true) in
    let fits = number_fits (length c.args.nodes.now) c.args.data_len (bits_in c.args.size) _ c.requires.room below in
    let is = c.number_of-right.ensures in
    omega arith

pub loop-node-preserved : goal.loop-node-preserved
loop-node-preserved c =
    let node : SpecNode = get_or c.args.nodes.now c.loop-node.node-index none in
    let at : slice_get c.args.nodes.now c.loop-node.node-index ≡ Some node = slice_get-get_or c.args.nodes.now c.loop-node.node-index none c.loop-node-test.true in
    let added : AddsNode (bits_in c.args.size) (number_in (length c.args.nodes.now) node.left) (number_in (length c.args.nodes.now) node.right) c.loop-node.bytes.items c.push_node.new.bytes.items =
    subst (λ (n : ℕ). AddsNode (bits_in c.args.size) n (number_in (length c.args.nodes.now) node.right) c.loop-node.bytes.items c.push_node.new.bytes.items) c.number_of-left.ensures
    (subst (λ (n : ℕ). AddsNode (bits_in c.args.size) c.number_of-left.result n c.loop-node.bytes.items c.push_node.new.bytes.items) c.number_of-right.ensures c.in_ok-push_node.ensures) in
    one_more_node (bits_in c.args.size) c.loop-node.node-index c.args.nodes.now node c.loop-node.bytes.items c.push_node.new.bytes.items (is_size c.args.size) at c.loop-node.invariant added
