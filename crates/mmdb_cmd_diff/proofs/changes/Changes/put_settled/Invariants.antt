use Rattle.std.proofs.Common.{◌≡◌, take}
use Rattle.mmdb_blocks.specs.Joining.{settled_of}
use Rattle.mmdb_cmd_diff.specs.Lines.{WritesBlocks}
use Rattle.mmdb_cmd_diff.proofs.changes.Changes.put_settled.Given as goal

abbrev pub invariant-loop-index : goal.invariant-loop-index
invariant-loop-index g l = record {
  run : l.self.run ≡ l.initial.self.run;
  joiner : l.self.joiner ≡ l.initial.self.joiner;
  shown : l.pairs.shown ≡ l.initial.pairs.shown;
  layout : l.pairs.layout ≡ l.initial.pairs.layout;
  kept : l.pairs.kept ≡ l.initial.pairs.kept;
  written : WritesBlocks l.initial.pairs.layout.now l.initial.self.run (take l.index (settled_of l.initial.self.joiner)) (g.O.Write.contents l.initial.out) (g.O.Write.contents l.out);
}
