use Rattle.mmdb_blocks.proofs.DeltaLaws.{ascends-behind, same-behind}
use Rattle.mmdb_blocks.proofs.delta.skip.Goals as goal

pub loop-block-preserved : goal.loop-block-preserved
loop-block-preserved c =
    let x = c.in-Some.block.now in
    record {
      ascends = ascends-behind x c.in-Some.behind.now c.loop-block.rest.now c.in-Some.ensures.cases.0 c.loop-block.invariant.ascends;
      same = λ b le. same-behind c.args.from b x c.in-Some.behind.now c.loop-block.rest.now c.args.others.now le c.in-Some.ensures.cases.0 c.if-block-from.false (c.loop-block.invariant.same b le);
    }
