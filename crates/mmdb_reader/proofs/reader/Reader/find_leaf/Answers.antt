use Rattle.std.proofs.Common.{◌≡◌, ◌<◌, ◌≤◌, ap, sym, ◌∙◌, arith, refl, subst}
use Rattle.std.specs.declared.net.ip_addr.IpAddr.TheVariants.{V4, V6}
use Rattle.mmdb_reader.specs.Counting.{CountsNodes}
use Rattle.mmdb_reader.specs.Working.{IsLeafAt}
use Rattle.mmdb_reader.proofs.NumberedLemmas.{short_width, short_fields, short_at, long_width, long_fields, long_at}
use Rattle.std.proofs.lemmas.Bool.{eq-eqb}
use Rattle.mmdb_net.specs.Bits.{bits_of}
use Rattle.mmdb_reader.specs.File.{tree_of}
use Rattle.mmdb_tree.proofs.TableLemmas.{walked-from, read-from, taken-le}
use Rattle.mmdb_reader.proofs.CountLemmas.{CountsNodes-v4, CountsNodes-v6, CountsNodes-none}
use Rattle.mmdb_reader.proofs.LeafLemmas.{reader_of, depth-le, IsLeafAt-v4, IsLeafAt-v6, IsLeafAt-none, shown-none, shown-node, ipv6_bits-unspecified}
use Rattle.mmdb_reader.proofs.reader.Reader.find_leaf.Goals as goal

pub invariant_of-result : goal.invariant_of-result
invariant_of-result g c =
    let known = reader_of c.args.self.now _ c.self.inside.data_start c.self.inside.ipv4_start c.self.inside.ipv4_depth c.self.inside.ipv4_table c.self.inside.ipv6_table c.self.view_is c.self.invariant in
    let few = depth-le c.args.self.now c.self.inside.ipv4_start c.self.inside.ipv4_depth known.ipv4 in
    let fields = long_fields c.ipv6.result 0 c.self.inside.ipv4_depth c.ipv6.ensures (omega arith) (omega arith) in
    record { is_width = fields.0; fits = fields.1.0; is_prefix = subst (λ n. n ≤ c.ipv6.result.width) (sym c.from.ensures) fields.1.1 }

pub returns-in-V4-clause-found : goal.returns-in-V4-clause-found
returns-in-V4-clause-found g c =
    let known = reader_of c.args.self.now _ c.self.inside.data_start c.self.inside.ipv4_start c.self.inside.ipv4_depth c.self.inside.ipv4_table c.self.inside.ipv6_table c.self.view_is c.self.invariant in
    let off : c.args.self.now.metadata.node_count ≤ c.self.inside.ipv4_start = omega (arith, ap (λ t. t.node_count) c.nodes-nodes.ensures.tree, c.if-self-nodes.true) in
    rw (c.in-V4.is, c.from.ensures) (long_at c.ipv6.result 0 c.self.inside.ipv4_depth c.ipv6.ensures c.args.self.now (λ bits. IsLeafAt c.args.self.now (V4 c.in-V4.field-0) bits c.self.inside.ipv4_start) _ (sym ipv6_bits-unspecified) (IsLeafAt-none c.args.self.now c.self.inside.ipv4_start c.self.inside.ipv4_depth known.ipv4 c.in-V4.field-0 _ off ipv6_bits-unspecified))

pub returns-in-V4-clause-shown : goal.returns-in-V4-clause-shown
returns-in-V4-clause-shown g c =
    let known = reader_of c.args.self.now _ c.self.inside.data_start c.self.inside.ipv4_start c.self.inside.ipv4_depth c.self.inside.ipv4_table c.self.inside.ipv6_table c.self.view_is c.self.invariant in
    let off : c.args.self.now.metadata.node_count ≤ c.self.inside.ipv4_start = omega (arith, ap (λ t. t.node_count) c.nodes-nodes.ensures.tree, c.if-self-nodes.true) in
    long_width c.ipv6.result 0 0 c.ipv6.ensures ∙ sym (shown-none c.args.self.now c.args.address.now c.self.inside.ipv4_start c.self.inside.ipv4_depth known.ipv4 known.accepted.supported.some_node off)

pub returns-in-V4-clause-counted : goal.returns-in-V4-clause-counted
returns-in-V4-clause-counted g c =
    let known = reader_of c.args.self.now _ c.self.inside.data_start c.self.inside.ipv4_start c.self.inside.ipv4_depth c.self.inside.ipv4_table c.self.inside.ipv6_table c.self.view_is c.self.invariant in
    let off : c.args.self.now.metadata.node_count ≤ c.self.inside.ipv4_start = omega (arith, ap (λ t. t.node_count) c.nodes-nodes.ensures.tree, c.if-self-nodes.true) in
    rw c.in-V4.is (CountsNodes-none c.args.self.now c.in-V4.field-0 _ c.self.inside.ipv4_start c.self.inside.ipv4_depth _ _ known.ipv4 off refl)

pub add-requires : goal.add-requires
add-requires g c =
    let known = reader_of c.args.self.now _ c.self.inside.data_start c.self.inside.ipv4_start c.self.inside.ipv4_depth c.self.inside.ipv4_table c.self.inside.ipv6_table c.self.view_is c.self.invariant in
    let on : c.self.inside.ipv4_start < c.args.self.now.metadata.node_count = omega (arith, ap (λ t. t.node_count) c.nodes-nodes.ensures.tree, c.if-self-nodes.false) in
    let full = known.ipv4_table.on_node on in
    let walked = walked-from (tree_of c.args.self.now) _ c.self.inside.ipv4_start c.self.inside.ipv4_table.numbers.items c.self.inside.ipv4_table.depths.items c.deref.result.now c.deref-in-V4-2.result.now c.nodes-nodes.ensures.tree c.deref.ensures.value c.deref-in-V4-2.ensures.value full _ _ c.descend_ipv4-descent.result.taken _ (ap (bits_of 32) c.to_bits-bits.ensures) c.descend_ipv4-descent.ensures.reached in
    let few = taken-le _ _ 32 _ _ _ walked in
    let past = read-from (tree_of c.args.self.now) _ c.self.inside.ipv4_start c.self.inside.ipv4_table.numbers.items c.self.inside.ipv4_table.depths.items c.deref.result.now c.deref-in-V4-2.result.now c.nodes-nodes.ensures.tree c.deref.ensures.value c.deref-in-V4-2.ensures.value full _ c.descend_ipv4-descent.result.taken c.descend_ipv4-descent.ensures.read in
    let room = c.requires.room in
    omega arith

pub invariant_of-result-in-V4-2 : goal.invariant_of-result-in-V4-2
invariant_of-result-in-V4-2 g c =
    let known = reader_of c.args.self.now _ c.self.inside.data_start c.self.inside.ipv4_start c.self.inside.ipv4_depth c.self.inside.ipv4_table c.self.inside.ipv6_table c.self.view_is c.self.invariant in
    let on : c.self.inside.ipv4_start < c.args.self.now.metadata.node_count = omega (arith, ap (λ t. t.node_count) c.nodes-nodes.ensures.tree, c.if-self-nodes.false) in
    let full = known.ipv4_table.on_node on in
    let walked = walked-from (tree_of c.args.self.now) _ c.self.inside.ipv4_start c.self.inside.ipv4_table.numbers.items c.self.inside.ipv4_table.depths.items c.deref.result.now c.deref-in-V4-2.result.now c.nodes-nodes.ensures.tree c.deref.ensures.value c.deref-in-V4-2.ensures.value full _ _ c.descend_ipv4-descent.result.taken _ (ap (bits_of 32) c.to_bits-bits.ensures) c.descend_ipv4-descent.ensures.reached in
    let few = taken-le _ _ 32 _ _ _ walked in
    let past = read-from (tree_of c.args.self.now) _ c.self.inside.ipv4_start c.self.inside.ipv4_table.numbers.items c.self.inside.ipv4_table.depths.items c.deref.result.now c.deref-in-V4-2.result.now c.nodes-nodes.ensures.tree c.deref.ensures.value c.deref-in-V4-2.ensures.value full _ c.descend_ipv4-descent.result.taken c.descend_ipv4-descent.ensures.read in
    let fields = short_fields c.ipv4.result _ c.descend_ipv4-descent.result.taken c.ipv4.ensures (omega (arith, c.to_bits-bits.type_inv)) (omega arith) in
    record { is_width = fields.0; fits = fields.1.0; is_prefix = fields.1.1 }

pub returns-in-V4-2-clause-found : goal.returns-in-V4-2-clause-found
returns-in-V4-2-clause-found g c =
    let known = reader_of c.args.self.now _ c.self.inside.data_start c.self.inside.ipv4_start c.self.inside.ipv4_depth c.self.inside.ipv4_table c.self.inside.ipv6_table c.self.view_is c.self.invariant in
    let on : c.self.inside.ipv4_start < c.args.self.now.metadata.node_count = omega (arith, ap (λ t. t.node_count) c.nodes-nodes.ensures.tree, c.if-self-nodes.false) in
    let full = known.ipv4_table.on_node on in
    let walked = walked-from (tree_of c.args.self.now) _ c.self.inside.ipv4_start c.self.inside.ipv4_table.numbers.items c.self.inside.ipv4_table.depths.items c.deref.result.now c.deref-in-V4-2.result.now c.nodes-nodes.ensures.tree c.deref.ensures.value c.deref-in-V4-2.ensures.value full _ _ c.descend_ipv4-descent.result.taken _ (ap (bits_of 32) c.to_bits-bits.ensures) c.descend_ipv4-descent.ensures.reached in
    let few = taken-le _ _ 32 _ _ _ walked in
    let past = read-from (tree_of c.args.self.now) _ c.self.inside.ipv4_start c.self.inside.ipv4_table.numbers.items c.self.inside.ipv4_table.depths.items c.deref.result.now c.deref-in-V4-2.result.now c.nodes-nodes.ensures.tree c.deref.ensures.value c.deref-in-V4-2.ensures.value full _ c.descend_ipv4-descent.result.taken c.descend_ipv4-descent.ensures.read in
    rw c.in-V4-2.is (short_at c.ipv4.result _ c.descend_ipv4-descent.result.taken c.ipv4.ensures c.args.self.now (λ bits. IsLeafAt c.args.self.now (V4 c.in-V4-2.v4) bits c.descend_ipv4-descent.result.number) c.in-V4-2.v4 c.to_bits-bits.ensures
    (IsLeafAt-v4 c.args.self.now c.self.inside.ipv4_start c.self.inside.ipv4_depth known.ipv4 c.in-V4-2.v4 _ _ on walked))

pub returns-in-V4-2-clause-shown : goal.returns-in-V4-2-clause-shown
returns-in-V4-2-clause-shown g c =
    let known = reader_of c.args.self.now _ c.self.inside.data_start c.self.inside.ipv4_start c.self.inside.ipv4_depth c.self.inside.ipv4_table c.self.inside.ipv6_table c.self.view_is c.self.invariant in
    let on : c.self.inside.ipv4_start < c.args.self.now.metadata.node_count = omega (arith, ap (λ t. t.node_count) c.nodes-nodes.ensures.tree, c.if-self-nodes.false) in
    rw c.in-V4-2.is (short_width c.ipv4.result _ 0 c.ipv4.ensures ∙ sym (shown-node c.args.self.now c.in-V4-2.v4 c.self.inside.ipv4_start c.self.inside.ipv4_depth known.ipv4 on))

pub returns-in-V4-2-clause-counted : goal.returns-in-V4-2-clause-counted
returns-in-V4-2-clause-counted g c =
    let known = reader_of c.args.self.now _ c.self.inside.data_start c.self.inside.ipv4_start c.self.inside.ipv4_depth c.self.inside.ipv4_table c.self.inside.ipv6_table c.self.view_is c.self.invariant in
    let on : c.self.inside.ipv4_start < c.args.self.now.metadata.node_count = omega (arith, ap (λ t. t.node_count) c.nodes-nodes.ensures.tree, c.if-self-nodes.false) in
    let full = known.ipv4_table.on_node on in
    let walked = walked-from (tree_of c.args.self.now) _ c.self.inside.ipv4_start c.self.inside.ipv4_table.numbers.items c.self.inside.ipv4_table.depths.items c.deref.result.now c.deref-in-V4-2.result.now c.nodes-nodes.ensures.tree c.deref.ensures.value c.deref-in-V4-2.ensures.value full _ _ c.descend_ipv4-descent.result.taken _ (ap (bits_of 32) c.to_bits-bits.ensures) c.descend_ipv4-descent.ensures.reached in
    let few = taken-le _ _ 32 _ _ _ walked in
    let past = read-from (tree_of c.args.self.now) _ c.self.inside.ipv4_start c.self.inside.ipv4_table.numbers.items c.self.inside.ipv4_table.depths.items c.deref.result.now c.deref-in-V4-2.result.now c.nodes-nodes.ensures.tree c.deref.ensures.value c.deref-in-V4-2.ensures.value full _ c.descend_ipv4-descent.result.taken c.descend_ipv4-descent.ensures.read in
    rw c.in-V4-2.is (short_at c.ipv4.result _ c.descend_ipv4-descent.result.taken c.ipv4.ensures c.args.self.now (λ bits. CountsNodes c.args.self.now (V4 c.in-V4-2.v4) bits c.args.steps.now c.add.new.self) c.in-V4-2.v4 c.to_bits-bits.ensures
    (CountsNodes-v4 c.args.self.now c.in-V4-2.v4 _ _ _ _ few past c.add.ensures))

pub add-requires-in-V6-2 : goal.add-requires-in-V6-2
add-requires-in-V6-2 g c =
    let known = reader_of c.args.self.now _ c.self.inside.data_start c.self.inside.ipv4_start c.self.inside.ipv4_depth c.self.inside.ipv4_table c.self.inside.ipv6_table c.self.view_is c.self.invariant in
    let six : c.args.self.now.metadata.ip_version ≡ 6 = omega (arith, ap (λ d. d.metadata.ip_version) c.self.view_is, c.if-self-ne6.false) in
    let full = known.ipv6_table (eq-eqb _ _ six) in
    let walked = walked-from (tree_of c.args.self.now) _ 0 c.self.inside.ipv6_table.numbers.items c.self.inside.ipv6_table.depths.items c.deref-in-V6-2.result.now c.deref-in-V6-2-2.result.now c.nodes-nodes.ensures.tree c.deref-in-V6-2.ensures.value c.deref-in-V6-2-2.ensures.value full _ _ c.descend_ipv6-descent.result.taken _ (ap (bits_of 128) c.to_bits-bits-in-V6-2.ensures) c.descend_ipv6-descent.ensures.reached in
    let few = taken-le _ _ 128 _ _ _ walked in
    let past = read-from (tree_of c.args.self.now) _ 0 c.self.inside.ipv6_table.numbers.items c.self.inside.ipv6_table.depths.items c.deref-in-V6-2.result.now c.deref-in-V6-2-2.result.now c.nodes-nodes.ensures.tree c.deref-in-V6-2.ensures.value c.deref-in-V6-2-2.ensures.value full _ c.descend_ipv6-descent.result.taken c.descend_ipv6-descent.ensures.read in
    let room = c.requires.room in
    omega arith

pub invariant_of-result-in-V6-2 : goal.invariant_of-result-in-V6-2
invariant_of-result-in-V6-2 g c =
    let known = reader_of c.args.self.now _ c.self.inside.data_start c.self.inside.ipv4_start c.self.inside.ipv4_depth c.self.inside.ipv4_table c.self.inside.ipv6_table c.self.view_is c.self.invariant in
    let six : c.args.self.now.metadata.ip_version ≡ 6 = omega (arith, ap (λ d. d.metadata.ip_version) c.self.view_is, c.if-self-ne6.false) in
    let full = known.ipv6_table (eq-eqb _ _ six) in
    let walked = walked-from (tree_of c.args.self.now) _ 0 c.self.inside.ipv6_table.numbers.items c.self.inside.ipv6_table.depths.items c.deref-in-V6-2.result.now c.deref-in-V6-2-2.result.now c.nodes-nodes.ensures.tree c.deref-in-V6-2.ensures.value c.deref-in-V6-2-2.ensures.value full _ _ c.descend_ipv6-descent.result.taken _ (ap (bits_of 128) c.to_bits-bits-in-V6-2.ensures) c.descend_ipv6-descent.ensures.reached in
    let few = taken-le _ _ 128 _ _ _ walked in
    let past = read-from (tree_of c.args.self.now) _ 0 c.self.inside.ipv6_table.numbers.items c.self.inside.ipv6_table.depths.items c.deref-in-V6-2.result.now c.deref-in-V6-2-2.result.now c.nodes-nodes.ensures.tree c.deref-in-V6-2.ensures.value c.deref-in-V6-2-2.ensures.value full _ c.descend_ipv6-descent.result.taken c.descend_ipv6-descent.ensures.read in
    let fields = long_fields c.ipv6-in-V6-2.result _ c.descend_ipv6-descent.result.taken c.ipv6-in-V6-2.ensures (omega (arith, c.to_bits-bits-in-V6-2.type_inv)) (omega arith) in
    record { is_width = fields.0; fits = fields.1.0; is_prefix = fields.1.1 }

pub returns-in-V6-2-clause-found : goal.returns-in-V6-2-clause-found
returns-in-V6-2-clause-found g c =
    let known = reader_of c.args.self.now _ c.self.inside.data_start c.self.inside.ipv4_start c.self.inside.ipv4_depth c.self.inside.ipv4_table c.self.inside.ipv6_table c.self.view_is c.self.invariant in
    let six : c.args.self.now.metadata.ip_version ≡ 6 = omega (arith, ap (λ d. d.metadata.ip_version) c.self.view_is, c.if-self-ne6.false) in
    let full = known.ipv6_table (eq-eqb _ _ six) in
    let walked = walked-from (tree_of c.args.self.now) _ 0 c.self.inside.ipv6_table.numbers.items c.self.inside.ipv6_table.depths.items c.deref-in-V6-2.result.now c.deref-in-V6-2-2.result.now c.nodes-nodes.ensures.tree c.deref-in-V6-2.ensures.value c.deref-in-V6-2-2.ensures.value full _ _ c.descend_ipv6-descent.result.taken _ (ap (bits_of 128) c.to_bits-bits-in-V6-2.ensures) c.descend_ipv6-descent.ensures.reached in
    let few = taken-le _ _ 128 _ _ _ walked in
    let past = read-from (tree_of c.args.self.now) _ 0 c.self.inside.ipv6_table.numbers.items c.self.inside.ipv6_table.depths.items c.deref-in-V6-2.result.now c.deref-in-V6-2-2.result.now c.nodes-nodes.ensures.tree c.deref-in-V6-2.ensures.value c.deref-in-V6-2-2.ensures.value full _ c.descend_ipv6-descent.result.taken c.descend_ipv6-descent.ensures.read in
    rw c.in-V6-2.is (long_at c.ipv6-in-V6-2.result _ c.descend_ipv6-descent.result.taken c.ipv6-in-V6-2.ensures c.args.self.now (λ bits. IsLeafAt c.args.self.now (V6 c.in-V6-2.v6) bits c.descend_ipv6-descent.result.number) c.in-V6-2.v6 c.to_bits-bits-in-V6-2.ensures
    (IsLeafAt-v6 c.args.self.now c.in-V6-2.v6 _ _ six walked))

pub returns-in-V6-2-clause-counted : goal.returns-in-V6-2-clause-counted
returns-in-V6-2-clause-counted g c =
    let known = reader_of c.args.self.now _ c.self.inside.data_start c.self.inside.ipv4_start c.self.inside.ipv4_depth c.self.inside.ipv4_table c.self.inside.ipv6_table c.self.view_is c.self.invariant in
    let six : c.args.self.now.metadata.ip_version ≡ 6 = omega (arith, ap (λ d. d.metadata.ip_version) c.self.view_is, c.if-self-ne6.false) in
    let full = known.ipv6_table (eq-eqb _ _ six) in
    let walked = walked-from (tree_of c.args.self.now) _ 0 c.self.inside.ipv6_table.numbers.items c.self.inside.ipv6_table.depths.items c.deref-in-V6-2.result.now c.deref-in-V6-2-2.result.now c.nodes-nodes.ensures.tree c.deref-in-V6-2.ensures.value c.deref-in-V6-2-2.ensures.value full _ _ c.descend_ipv6-descent.result.taken _ (ap (bits_of 128) c.to_bits-bits-in-V6-2.ensures) c.descend_ipv6-descent.ensures.reached in
    let few = taken-le _ _ 128 _ _ _ walked in
    let past = read-from (tree_of c.args.self.now) _ 0 c.self.inside.ipv6_table.numbers.items c.self.inside.ipv6_table.depths.items c.deref-in-V6-2.result.now c.deref-in-V6-2-2.result.now c.nodes-nodes.ensures.tree c.deref-in-V6-2.ensures.value c.deref-in-V6-2-2.ensures.value full _ c.descend_ipv6-descent.result.taken c.descend_ipv6-descent.ensures.read in
    rw c.in-V6-2.is (long_at c.ipv6-in-V6-2.result _ c.descend_ipv6-descent.result.taken c.ipv6-in-V6-2.ensures c.args.self.now (λ bits. CountsNodes c.args.self.now (V6 c.in-V6-2.v6) bits c.args.steps.now c.add-in-V6-2.new.self) c.in-V6-2.v6 c.to_bits-bits-in-V6-2.ensures
    (CountsNodes-v6 c.args.self.now c.in-V6-2.v6 _ _ _ _ few past c.add-in-V6-2.ensures))
