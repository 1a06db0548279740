use Rattle.std.proofs.Common.{◌≤◌, ◌↔◌, length}
use Rattle.mmdb_blocks.specs.Blocks.{AscendsFrom}
use Rattle.mmdb_blocks.specs.Deltas.{IsListedIn}
use Rattle.mmdb_blocks.specs.declared.block.Block.{Block}
use Rattle.mmdb_blocks.proofs.delta.skip.Given as goal

abbrev pub invariant-loop-block : goal.invariant-loop-block
invariant-loop-block l = record {
  ascends : AscendsFrom 0 l.rest;
  same : (block : Block) → l.from ≤ block.first → IsListedIn block l.rest ↔ IsListedIn block l.others;
}

abbrev pub decreases-loop-block : goal.decreases-loop-block
decreases-loop-block l = length l.rest
