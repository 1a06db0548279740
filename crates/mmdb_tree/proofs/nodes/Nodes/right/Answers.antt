use Rattle.std.proofs.Common.{◌*◌, true, arith, sym, ◌∙◌}
use Rattle.mmdb_tree.proofs.WalkLemmas.{step-child}
use Rattle.mmdb_tree.proofs.RecordLemmas.{record-24, right-28, record-32, child-24, child-28, child-32}
use Rattle.mmdb_tree.specs.Tree.{search_tree}
use Rattle.mmdb_tree.proofs.nodes.Nodes.right.Goals as goal
use Rattle.mmdb_tree.proofs.nodes.Nodes.right.Goals.{in-24, in-28, in-32}

pub returns-clause-value : goal.returns-clause-value
returns-clause-value c =
    let bytes = c.args.self.now.bytes.now in
    let node = c.args.node in
    let size = c.args.self.now.record_size in
    let on = step-child (search_tree bytes c.args.self.now.node_count size) node true c.requires in
    elim c.match-self.branch [
      | in-24 w ↦ w.number-is ∙ record-24 bytes (node * 6) _ _ true (omega arith) w.word_at.ensures.value w.word_at.ensures.bytes ∙ sym (child-24 bytes size node true w.in-24.is) ∙ sym on
      | in-28 w ↦ w.number-is ∙ right-28 bytes (node * 7) _ w.word_at-in-28.ensures.value w.word_at-in-28.ensures.bytes ∙ sym (child-28 bytes size node true w.in-28.is) ∙ sym on
      | in-32 w ↦ w.number-is ∙ record-32 bytes (node * 8) _ _ true (omega arith) w.word_at-number.ensures.value ∙ sym (child-32 bytes size node true w.in-32.is) ∙ sym on
    ]
