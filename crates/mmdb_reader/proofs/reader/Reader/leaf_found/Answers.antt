use Rattle.std.proofs.Common.{◌≡◌, ℕ, ◌<◌, ◌≤◌, ap, sym, ◌∙◌, arith, subst}
use Rattle.std.specs.Net.Addr.{ipv4_bits}
use Rattle.std.specs.declared.net.ip_addr.IpAddr.{IpAddr}
use Rattle.std.specs.declared.net.ip_addr.IpAddr.TheVariants.{V4, V6}
use Rattle.mmdb_net.specs.Bits.{bits_of}
use Rattle.mmdb_reader.specs.File.{tree_of}
use Rattle.mmdb_reader.specs.Working.{IsLeafAt}
use Rattle.mmdb_tree.specs.Descents.{Descends}
use Rattle.mmdb_reader.specs.Many.{IsFoundFor}
use Rattle.mmdb_tree.proofs.TableLemmas.{taken-le}
use Rattle.mmdb_reader.proofs.NumberedLemmas.{short_width, short_fields, short_at, long_width, long_fields, long_at}
use Rattle.mmdb_reader.proofs.LeafLemmas.{reader_of, depth-le, start-is, IsLeafAt-v4, IsLeafAt-v6, IsLeafAt-none, shown-none, shown-node, ipv6_bits-unspecified}
use Rattle.mmdb_reader.proofs.reader.Reader.leaf_found.Goals as goal

pub invariant_of-result : goal.invariant_of-result
invariant_of-result g c =
    let known = reader_of c.args.self.now _ c.self.inside.data_start c.self.inside.ipv4_start c.self.inside.ipv4_depth c.self.inside.ipv4_table c.self.inside.ipv6_table c.self.view_is c.self.invariant in
    let few = depth-le c.args.self.now c.self.inside.ipv4_start c.self.inside.ipv4_depth known.ipv4 in
    let fields = long_fields c.ipv6.result 0 c.self.inside.ipv4_depth c.ipv6.ensures (omega arith) (omega arith) in
    record { is_width = fields.0; fits = fields.1.0; is_prefix = subst (λ n. n ≤ c.ipv6.result.width) (sym c.from.ensures) fields.1.1 }

pub returns-in-V4-clause-found : goal.returns-in-V4-clause-found
returns-in-V4-clause-found g c =
    let known = reader_of c.args.self.now _ c.self.inside.data_start c.self.inside.ipv4_start c.self.inside.ipv4_depth c.self.inside.ipv4_table c.self.inside.ipv6_table c.self.view_is c.self.invariant in
    let off : c.args.self.now.metadata.node_count ≤ c.self.inside.ipv4_start = omega (arith, ap (λ t. t.node_count) c.nodes-nodes.ensures.tree, c.if-self-nodes.true) in
    rw (c.in-V4.is, c.from.ensures) (long_at c.ipv6.result 0 c.self.inside.ipv4_depth c.ipv6.ensures c.args.self.now (λ bits. IsLeafAt c.args.self.now (V4 c.in-V4.field-0) bits c.self.inside.ipv4_start) _ (sym ipv6_bits-unspecified) (IsLeafAt-none c.args.self.now c.self.inside.ipv4_start c.self.inside.ipv4_depth known.ipv4 c.in-V4.field-0 _ off ipv6_bits-unspecified))

pub returns-in-V4-clause-shown : goal.returns-in-V4-clause-shown
returns-in-V4-clause-shown g c =
    let known = reader_of c.args.self.now _ c.self.inside.data_start c.self.inside.ipv4_start c.self.inside.ipv4_depth c.self.inside.ipv4_table c.self.inside.ipv6_table c.self.view_is c.self.invariant in
    let off : c.args.self.now.metadata.node_count ≤ c.self.inside.ipv4_start = omega (arith, ap (λ t. t.node_count) c.nodes-nodes.ensures.tree, c.if-self-nodes.true) in
    long_width c.ipv6.result 0 0 c.ipv6.ensures ∙ sym (shown-none c.args.self.now c.args.address.now c.self.inside.ipv4_start c.self.inside.ipv4_depth known.ipv4 known.accepted.supported.some_node off)

pub invariant_of-result-in-V4-2 : goal.invariant_of-result-in-V4-2
invariant_of-result-in-V4-2 g c =
    let db = c.args.self.now in
    let known = reader_of c.args.self.now _ c.self.inside.data_start c.self.inside.ipv4_start c.self.inside.ipv4_depth c.self.inside.ipv4_table c.self.inside.ipv6_table c.self.view_is c.self.invariant in
    let F : IpAddr → Type 0 = λ a. IsFoundFor db a (record { number = c.args.found.number; taken = c.args.found.taken }) in
    let same = start-is db c.self.inside.ipv4_start c.self.inside.ipv4_depth known.ipv4 in
    let few = taken-le _ _ 32 _ _ _ (subst F c.in-V4-2.is c.requires.found (omega (arith, same, ap (λ t. t.node_count) c.nodes-nodes.ensures.tree, c.if-self-nodes.false))) in
    let fields = short_fields c.ipv4.result _ c.args.found.taken c.ipv4.ensures (omega (arith, c.to_bits.type_inv)) (omega (arith, few)) in
    record { is_width = fields.0; fits = fields.1.0; is_prefix = fields.1.1 }

pub returns-in-V4-2-clause-found : goal.returns-in-V4-2-clause-found
returns-in-V4-2-clause-found g c =
    let db = c.args.self.now in
    let start = c.self.inside.ipv4_start in
    let known = reader_of c.args.self.now _ c.self.inside.data_start c.self.inside.ipv4_start c.self.inside.ipv4_depth c.self.inside.ipv4_table c.self.inside.ipv6_table c.self.view_is c.self.invariant in
    let F : IpAddr → Type 0 = λ a. IsFoundFor db a (record { number = c.args.found.number; taken = c.args.found.taken }) in
    let same = start-is db start c.self.inside.ipv4_depth known.ipv4 in
    let on : start < db.metadata.node_count = omega (arith, ap (λ t. t.node_count) c.nodes-nodes.ensures.tree, c.if-self-nodes.false) in
    let P : ℕ → Type 0 = λ s. Descends (tree_of db) s (bits_of 32 (ipv4_bits c.in-V4-2.v4)) c.args.found.taken c.args.found.number in
    rw c.in-V4-2.is (short_at c.ipv4.result _ c.args.found.taken c.ipv4.ensures db (λ bits. IsLeafAt db (V4 c.in-V4-2.v4) bits c.args.found.number) c.in-V4-2.v4 c.to_bits.ensures
    (IsLeafAt-v4 db start c.self.inside.ipv4_depth known.ipv4 c.in-V4-2.v4 _ _ on (subst P (sym same) (subst F c.in-V4-2.is c.requires.found (omega (arith, same, on))))))

pub returns-in-V4-2-clause-shown : goal.returns-in-V4-2-clause-shown
returns-in-V4-2-clause-shown g c =
    let known = reader_of c.args.self.now _ c.self.inside.data_start c.self.inside.ipv4_start c.self.inside.ipv4_depth c.self.inside.ipv4_table c.self.inside.ipv6_table c.self.view_is c.self.invariant in
    let on : c.self.inside.ipv4_start < c.args.self.now.metadata.node_count = omega (arith, ap (λ t. t.node_count) c.nodes-nodes.ensures.tree, c.if-self-nodes.false) in
    rw c.in-V4-2.is (short_width c.ipv4.result _ 0 c.ipv4.ensures ∙ sym (shown-node c.args.self.now c.in-V4-2.v4 c.self.inside.ipv4_start c.self.inside.ipv4_depth known.ipv4 on))

pub invariant_of-result-in-V6-2 : goal.invariant_of-result-in-V6-2
invariant_of-result-in-V6-2 g c =
    let F : IpAddr → Type 0 = λ a. IsFoundFor c.args.self.now a (record { number = c.args.found.number; taken = c.args.found.taken }) in
    let few = taken-le _ _ 128 _ _ _ (subst F c.in-V6-2.is c.requires.found (omega (arith, ap (λ d. d.metadata.ip_version) c.self.view_is, c.if-self-ne6.false))) in
    let fields = long_fields c.ipv6-in-V6-2.result _ c.args.found.taken c.ipv6-in-V6-2.ensures (omega (arith, c.to_bits-in-V6-2.type_inv)) (omega (arith, few)) in
    record { is_width = fields.0; fits = fields.1.0; is_prefix = fields.1.1 }

pub returns-in-V6-2-clause-found : goal.returns-in-V6-2-clause-found
returns-in-V6-2-clause-found g c =
    let db = c.args.self.now in
    let F : IpAddr → Type 0 = λ a. IsFoundFor db a (record { number = c.args.found.number; taken = c.args.found.taken }) in
    let six : db.metadata.ip_version ≡ 6 = omega (arith, ap (λ d. d.metadata.ip_version) c.self.view_is, c.if-self-ne6.false) in
    rw c.in-V6-2.is (long_at c.ipv6-in-V6-2.result _ c.args.found.taken c.ipv6-in-V6-2.ensures db (λ bits. IsLeafAt db (V6 c.in-V6-2.v6) bits c.args.found.number) c.in-V6-2.v6 c.to_bits-in-V6-2.ensures
    (IsLeafAt-v6 db c.in-V6-2.v6 _ _ six (subst F c.in-V6-2.is c.requires.found six)))
