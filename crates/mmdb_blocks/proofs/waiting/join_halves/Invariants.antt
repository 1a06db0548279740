use Rattle.std.proofs.Common.{◌≡◌, List, vec_capacity}
use Rattle.mmdb_blocks.specs.Blocks.{IsBlock}
use Rattle.mmdb_blocks.specs.Joining.{IsReady}
use Rattle.mmdb_blocks.specs.Working.{IsPending}
use Rattle.mmdb_blocks.specs.declared.block.Block.{Block as SpecBlock}
use Rattle.mmdb_blocks.proofs.waiting.join_halves.Given as goal

abbrev pub invariant-loop-larger : goal.invariant-loop-larger
invariant-loop-larger l =
    IsReady l.waiting.items × IsBlock l.joined × (vec_capacity l.waiting ≡ vec_capacity l.fn.waiting)
    × ((pushed handed : List SpecBlock) → IsPending pushed handed l.fn.waiting.items l.fn.block → IsPending pushed handed l.waiting.items l.joined)

abbrev pub decreases-loop-larger : goal.decreases-loop-larger
decreases-loop-larger l = l.joined.prefix
