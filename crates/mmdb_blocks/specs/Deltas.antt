-- What lists of blocks have that others have not.
use Rattle.std.specs.Prelude.{◌⊎◌, ◌≡◌, List, [], ◌∷◌}
use Rattle.mmdb_blocks.specs.declared.block.Block.{Block}

-- the block is one of the list
abbrev pub IsListedIn : Block → List Block → Type 0
IsListedIn block [] = ⊥
IsListedIn block (first ∷ blocks) = (block ≡ first) ⊎ IsListedIn block blocks
