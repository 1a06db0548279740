use Rattle.std.proofs.Common.{◌≡◌, ℕ, ◌/◌, ◌<◌, ◌^◌, Bool, List, ap, arith, refl, subst}
use Rattle.std.proofs.lemmas.Bool.{eq-eqb}
use Rattle.std.specs.Net.Addr.{ipv4_bits}
use Rattle.mmdb_net.specs.Bits.{bits_of}
use Rattle.mmdb_tree.specs.declared.group.FoundLeaf.{FoundLeaf}
use Rattle.mmdb_reader.specs.File.{tree_of}
use Rattle.mmdb_tree.specs.Descents.{Walks}
use Rattle.mmdb_reader.proofs.LeafLemmas.{reader_of, start-is}
use Rattle.mmdb_tree.proofs.TableLemmas.{IsFull-same}
use Rattle.mmdb_tree.proofs.GroupLemmas.{Walks-entry}
use Rattle.mmdb_reader.proofs.reader.Reader.begin.Goals as goal
use Rattle.mmdb_reader.proofs.reader.Reader.begin.Goals.{in_default-via-in-V4+else-self, in_default-via-in-V6+else-self-eq6}

pub returns-in_default : goal.returns-in_default
returns-in_default g c =
    let db = c.args.self.now in
    let known = reader_of db _ c.self.inside.data_start c.self.inside.ipv4_start c.self.inside.ipv4_depth c.self.inside.ipv4_table c.self.inside.ipv6_table c.self.view_is c.self.invariant in
    elim c.in_default.branch [
      | in_default-via-in-V4+else-self w ↦
          rw w.in-V4.is (λ walk. absurd (omega (arith, walk, start-is db c.self.inside.ipv4_start c.self.inside.ipv4_depth known.ipv4, ap (λ d. d.metadata.node_count) c.self.view_is, w.if-self.false)))
      | in_default-via-in-V6+else-self-eq6 w ↦ rw w.in-V6.is (λ six. absurd (omega (arith, six, ap (λ d. d.metadata.ip_version) c.self.view_is, w.if-self-eq6.false)))
    ]

pub returns-in-V4 : goal.returns-in-V4
returns-in-V4 g c =
    let db = c.args.self.now in
    let start = c.self.inside.ipv4_start in
    let known = reader_of db _ c.self.inside.data_start start c.self.inside.ipv4_depth c.self.inside.ipv4_table c.self.inside.ipv6_table c.self.view_is c.self.invariant in
    let on : start < db.metadata.node_count = omega (arith, ap (λ d. d.metadata.node_count) c.self.view_is, c.if-self.true) in
    let leaf : FoundLeaf = c.entered.result in
    let below : c.to_bits.result / 2 ^ 16 < 65536 = omega (arith, c.to_bits.type_inv) in
    let P : ℕ → Type 0 = λ s. Walks (tree_of db) s (bits_of 32 (ipv4_bits c.in-V4.v4)) leaf.taken leaf.number in
    let Q : List Bool → Type 0 = λ b. Walks (tree_of db) start b leaf.taken leaf.number in
    rw c.in-V4.is (λ _. subst P (start-is db start c.self.inside.ipv4_depth known.ipv4) (subst Q (ap (bits_of 32) c.to_bits.ensures)
    (Walks-entry (tree_of db) start c.to_bits.result 16 32 c.deref.result.now c.deref-in-V4.result.now leaf refl (IsFull-same (tree_of db) _ start _ _ _ _ refl c.deref.ensures.value c.deref-in-V4.ensures.value (known.ipv4_table.on_node on)) below c.entered.ensures.number c.entered.ensures.taken)))

pub returns-in-V6 : goal.returns-in-V6
returns-in-V6 g c =
    let db = c.args.self.now in
    let known = reader_of db _ c.self.inside.data_start c.self.inside.ipv4_start c.self.inside.ipv4_depth c.self.inside.ipv4_table c.self.inside.ipv6_table c.self.view_is c.self.invariant in
    let six : db.metadata.ip_version ≡ 6 = omega (arith, ap (λ d. d.metadata.ip_version) c.self.view_is, c.if-self-eq6.true) in
    let leaf : FoundLeaf = c.entered-in-V6.result in
    let below : c.to_bits-in-V6.result / 2 ^ 112 < 65536 = omega (arith, c.to_bits-in-V6.type_inv) in
    let Q : List Bool → Type 0 = λ b. Walks (tree_of db) 0 b leaf.taken leaf.number in
    rw c.in-V6.is (λ _. subst Q (ap (bits_of 128) c.to_bits-in-V6.ensures)
    (Walks-entry (tree_of db) 0 c.to_bits-in-V6.result 112 128 c.deref-in-V6.result.now c.deref-in-V6-2.result.now leaf refl (IsFull-same (tree_of db) _ 0 _ _ _ _ refl c.deref-in-V6.ensures.value c.deref-in-V6-2.ensures.value (known.ipv6_table (eq-eqb _ _ six))) below c.entered-in-V6.ensures.number c.entered-in-V6.ensures.taken))
