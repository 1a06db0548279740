use Rattle.std.proofs.Common.{◌≡◌, ◌<◌, ℕ, ap, arith, subst}
use Rattle.std.proofs.lemmas.Bool.{eq-eqb}
use Rattle.std.specs.Net.Addr.{ipv4_bits}
use Rattle.mmdb_net.specs.Bits.{bits_of}
use Rattle.mmdb_tree.specs.Descents.{Descends}
use Rattle.mmdb_reader.specs.File.{tree_of}
use Rattle.mmdb_tree.proofs.TableLemmas.{walked-from}
use Rattle.mmdb_reader.proofs.LeafLemmas.{reader_of, start-is}
use Rattle.mmdb_reader.proofs.reader.Reader.walk_one.Goals as goal

pub returns-in_default-clause-found : goal.returns-in_default-clause-found
returns-in_default-clause-found g c =
    let db = c.args.self.now in
    let known = reader_of db _ c.self.inside.data_start c.self.inside.ipv4_start c.self.inside.ipv4_depth c.self.inside.ipv4_table c.self.inside.ipv6_table c.self.view_is c.self.invariant in
    rw c.in-V4.is (λ walk. absurd (omega (arith, walk, start-is db c.self.inside.ipv4_start c.self.inside.ipv4_depth known.ipv4, ap (λ t. t.node_count) c.nodes-nodes.ensures.tree, c.if-self-nodes.false)))

pub returns-in-V4-clause-found : goal.returns-in-V4-clause-found
returns-in-V4-clause-found g c =
    let db = c.args.self.now in
    let start = c.self.inside.ipv4_start in
    let known = reader_of db _ c.self.inside.data_start start c.self.inside.ipv4_depth c.self.inside.ipv4_table c.self.inside.ipv6_table c.self.view_is c.self.invariant in
    let on : start < db.metadata.node_count = omega (arith, ap (λ t. t.node_count) c.nodes-nodes.ensures.tree, c.if-self-nodes.true) in
    let walked = walked-from (tree_of db) _ start c.self.inside.ipv4_table.numbers.items c.self.inside.ipv4_table.depths.items c.deref.result.now c.deref-in-V4.result.now c.nodes-nodes.ensures.tree c.deref.ensures.value c.deref-in-V4.ensures.value (known.ipv4_table.on_node on) _ _ c.descend_ipv4-walk.result.taken _ (ap (bits_of 32) c.to_bits.ensures) c.descend_ipv4-walk.ensures.reached in
    let P : ℕ → Type 0 = λ s. Descends (tree_of db) s (bits_of 32 (ipv4_bits c.in-V4.v4)) c.descend_ipv4-walk.result.taken c.descend_ipv4-walk.result.number in
    rw c.in-V4.is (λ _. subst P (start-is db start c.self.inside.ipv4_depth known.ipv4) walked)

pub returns-in-V6-clause-found : goal.returns-in-V6-clause-found
returns-in-V6-clause-found g c =
    let db = c.args.self.now in
    let known = reader_of db _ c.self.inside.data_start c.self.inside.ipv4_start c.self.inside.ipv4_depth c.self.inside.ipv4_table c.self.inside.ipv6_table c.self.view_is c.self.invariant in
    let six : db.metadata.ip_version ≡ 6 = omega (arith, ap (λ d. d.metadata.ip_version) c.self.view_is, c.if-self-eq6.true) in
    let walked = walked-from (tree_of db) _ 0 c.self.inside.ipv6_table.numbers.items c.self.inside.ipv6_table.depths.items c.deref-in-V6.result.now c.deref-in-V6-2.result.now c.nodes-nodes.ensures.tree c.deref-in-V6.ensures.value c.deref-in-V6-2.ensures.value (known.ipv6_table (eq-eqb _ _ six)) _ _ c.descend_ipv6-walk.result.taken _ (ap (bits_of 128) c.to_bits-in-V6.ensures) c.descend_ipv6-walk.ensures.reached in
    rw c.in-V6.is (λ _. walked)
