use Rattle.std.proofs.Common.{◌≤◌, ◌↔◌, take}
use Rattle.mmdb_blocks.specs.Blocks.{AscendsFrom}
use Rattle.mmdb_blocks.specs.Deltas.{IsListedIn}
use Rattle.mmdb_blocks.specs.declared.block.Block.{Block}
use Rattle.mmdb_blocks.proofs.delta.blocks_without.Given as goal

abbrev pub invariant-loop-block : goal.invariant-loop-block
invariant-loop-block l = record {
  ascends : AscendsFrom 0 l.rest;
  same : (block : Block) → l.from ≤ block.first → IsListedIn block l.rest ↔ IsListedIn block l.others;
  left : (block : Block) → IsListedIn block l.left.items
      ↔ (IsListedIn block (take l.block-index l.blocks) × ¬ IsListedIn block l.others);
}
