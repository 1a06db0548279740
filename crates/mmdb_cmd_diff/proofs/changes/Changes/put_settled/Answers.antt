use Rattle.std.proofs.Common.{◌<◌, ◌∙◌, length, ap, arith}
use Rattle.mmdb_blocks.specs.Joining.{settled_of}
use Rattle.mmdb_cmd_diff.proofs.Telling.{writes-step}
use Rattle.mmdb_cmd_diff.proofs.changes.Changes.put_settled.Goals as goal

pub loop-index-preserved : goal.loop-index-preserved
loop-index-preserved g c =
    let kept = c.loop-index.invariant in
    let seen = c.settled.ensures.all ∙ ap (λ j. settled_of j) kept.joiner in
    let inside : c.loop-index.index < length (settled_of c.args.self.now.joiner) = omega (arith, ap length c.settled-index-end.ensures.all) in
    record {
      run = c.put_block.ensures.run ∙ kept.run;
      joiner = c.put_block.ensures.joiner ∙ kept.joiner;
      shown = c.put_block.ensures.shown ∙ kept.shown;
      layout = c.put_block.ensures.layout ∙ kept.layout;
      kept = c.put_block.ensures.kept ∙ kept.kept;
      written = writes-step c.args.pairs.now.layout.now c.loop-index.pairs.layout.now c.args.self.now.run c.loop-index.self.run (settled_of c.args.self.now.joiner) c.settled.result.now c.loop-index.index _ _ _ _
          inside seen (ap (λ l. l.now) kept.layout) kept.run kept.written c.in_ok-put_block.ensures.written;
    }
