use Rattle.std.proofs.Common.{◌<◌, ◌∙◌, length, ap, arith}
use Rattle.mmdb_blocks.specs.Joining.{settled_of}
use Rattle.mmdb_blocks.specs.Lists.{page_of}
use Rattle.mmdb_blocks.proofs.ListLaws.{page-step, text-step, step-fails}
use Rattle.mmdb_blocks.proofs.list.List.put_settled.Goals as goal

pub returns-in_err-put_block-clause-failed : goal.returns-in_err-put_block-clause-failed
returns-in_err-put_block-clause-failed g c =
    let seen = c.settled.ensures.all ∙ ap (λ j. settled_of j) c.loop-index.invariant.joiner in
    let inside : c.loop-index.index < length (settled_of c.args.self.now.joiner) = omega (arith, ap length c.settled-index-end.ensures.all) in
    step-fails c.from_residual.result _ (page_of c.args.self.now) (page_of c.loop-index.self) c.args.kind (settled_of c.args.self.now.joiner) c.settled.result.now c.loop-index.index _ _ _ _
    inside seen c.loop-index.invariant.page c.from_residual.ensures.1 c.loop-index.invariant.written c.in_err-put_block.ensures.failed

pub loop-index-preserved : goal.loop-index-preserved
loop-index-preserved g c =
    let seen = c.settled.ensures.all ∙ ap (λ j. settled_of j) c.loop-index.invariant.joiner in
    let inside : c.loop-index.index < length (settled_of c.args.self.now.joiner) = omega (arith, ap length c.settled-index-end.ensures.all) in
    record {
      joiner = c.put_block.ensures.joiner ∙ c.loop-index.invariant.joiner;
      kind = c.put_block.ensures.kind ∙ c.loop-index.invariant.kind;
      page = page-step (page_of c.args.self.now) (page_of c.loop-index.self) (page_of c.put_block.new.self) c.args.kind (settled_of c.args.self.now.joiner) c.settled.result.now c.loop-index.index _
          inside seen c.loop-index.invariant.page c.in_ok-put_block.ensures.page;
      written = text-step (page_of c.args.self.now) (page_of c.loop-index.self) c.args.kind (settled_of c.args.self.now.joiner) c.settled.result.now c.loop-index.index _ _ _ _
          inside seen c.loop-index.invariant.page c.loop-index.invariant.written c.in_ok-put_block.ensures.written;
    }
