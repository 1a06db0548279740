use Rattle.std.proofs.Common.{◌↔◌, List, subst, arith}
use Rattle.std.proofs.lemmas.List.{take_all}
use Rattle.mmdb_blocks.specs.Deltas.{IsListedIn}
use Rattle.mmdb_blocks.specs.declared.block.Block.{Block}
use Rattle.mmdb_blocks.proofs.RangeLaws.{both-ways, both-same, other-way}
use Rattle.mmdb_blocks.proofs.DeltaLaws.{kept-more, listed-taken}
use Rattle.mmdb_blocks.proofs.delta.blocks_without.Goals as goal

pub loop-block-preserved : goal.loop-block-preserved
loop-block-preserved c =
    let i = c.loop-block.invariant in
    record {
      ascends = c.skip-rest.ensures.ascends;
      same = λ b le. both-ways (c.skip-rest.ensures.same b le) (i.same b (omega (arith, le, c.if-block-from.false)));
      left = λ x. both-ways (c.in_ok-keep_unless.ensures x)
          (both-ways
          (kept-more x _ c.args.others.now (i.left x) (both-ways (c.skip-rest.ensures.same _ (omega arith)) (i.same _ (omega (arith, c.if-block-from.false)))))
          (both-same (other-way (listed-taken x c.args.blocks.now c.loop-block.block-index (record { first = 0; prefix = 0 }) c.loop-block-test.true))));
    }

pub returns : goal.returns
returns c = λ x.
    let P : List Block → Type 0 = λ ys. IsListedIn x c.loop-block.left.items ↔ (IsListedIn x ys × ¬ IsListedIn x c.args.others.now) in
    subst P (take_all c.loop-block.block-index c.args.blocks.now c.loop-block-test.false) (c.loop-block.invariant.left x)
