use Rattle.std.proofs.Common.{◌≡◌, true, false, eqb, refl}
use Rattle.std.proofs.lemmas.Bool.{eq-eqb, ne_eqb}
use Rattle.mmdb_net.specs.Bits.{bits_of}
use Rattle.mmdb_net.proofs.BitLaws.{bits_of-zero, bits_of-split}
use Rattle.mmdb_tree.specs.Tree.{search_tree}
use Rattle.mmdb_tree.proofs.DescentLemmas.{Descends-append}
use Rattle.mmdb_tree.proofs.nodes.Nodes.ipv4_start.Goals as goal

pub returns-then-ip_version-eq6-clause-reached : goal.returns-then-ip_version-eq6-clause-reached
returns-then-ip_version-eq6-clause-reached c =
    let six : eqb c.args.ip_version 6 ≡ true = eq-eqb _ _ c.if-ip_version-eq6.true in
    rw (six, ← bits_of-zero 96, bits_of-split 32 64 96 0 refl)
    (Descends-append (search_tree c.args.self.now.bytes.now c.args.self.now.node_count c.args.self.now.record_size) 0 (bits_of 32 0) (bits_of 64 0) _ _ _ _ c.descend-first.ensures.reached c.descend-then.ensures.reached)

pub returns-else-ip_version-eq6-clause-reached : goal.returns-else-ip_version-eq6-clause-reached
returns-else-ip_version-eq6-clause-reached c =
    let other : eqb c.args.ip_version 6 ≡ false = ne_eqb _ _ c.if-ip_version-eq6.false in
    rw (other, ← bits_of-zero 0) c.descend.ensures.reached
