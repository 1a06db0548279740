use Rattle.std.proofs.Common.{ℕ, ◌+◌, ◌*◌, ap, sym, refl, ◌∙◌}
use Rattle.mmdb_tree.proofs.WalkLemmas.{step-child}
use Rattle.mmdb_tree.proofs.RecordLemmas.{record-24, record-28, record-32, child-24, child-28, child-32}
use Rattle.mmdb_tree.specs.Tree.{search_tree}
use Rattle.mmdb_tree.proofs.nodes.Nodes.child.Goals as goal
use Rattle.mmdb_tree.proofs.nodes.Nodes.child.Goals.{in-24, in-28, in-32}

pub returns-clause-value : goal.returns-clause-value
returns-clause-value c =
    let bytes = c.args.self.now.bytes.now in
    let node = c.args.node in
    let size = c.args.self.now.record_size in
    let on = step-child (search_tree bytes c.args.self.now.node_count size) node c.args.right c.requires in
    elim c.match-self.branch [
      | in-24 w ↦ w.number-is ∙ record-24 bytes (node * 6) _ _ c.args.right (ap (λ (s : ℕ). node * 6 + s * 3) c.from-side.ensures) w.word_at.ensures.value w.word_at.ensures.bytes ∙ sym (child-24 bytes size node c.args.right w.in-24.is) ∙ sym on
      | in-28 w ↦ record-28 bytes (node * 7) _ _ _ _ _ c.args.right (ap (λ (s : ℕ). node * 7 + s * 4) c.from-side.ensures) w.word_at-low.ensures.value w.word_at-low.ensures.bytes refl w.high_bits.ensures.right w.high_bits.ensures.left w.number-is ∙ sym (child-28 bytes size node c.args.right w.in-28.is) ∙ sym on
      | in-32 w ↦ w.number-is ∙ record-32 bytes (node * 8) _ _ c.args.right (ap (λ (s : ℕ). node * 8 + s * 4) c.from-side.ensures) w.word_at-number.ensures.value ∙ sym (child-32 bytes size node c.args.right w.in-32.is) ∙ sym on
    ]
