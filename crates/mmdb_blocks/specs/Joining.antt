-- Where a joiner is: what was pushed, what was handed out, and what waits.
use Rattle.std.specs.Prelude.{◌≡◌, ℕ, suc, ◌<◌, ◌≤◌, List, [], ◌∷◌, ◌++◌}
use Rattle.std.specs.List.{AllByRecursion}
use Rattle.mmdb_blocks.specs.declared.block.Block.{Block}
use Rattle.mmdb_blocks.specs.Blocks.{IsBlock, IsIn, HasNoHalves, IsJoined}

-- What was handed out ends apart from whatever grows from the waiting blocks: no block that begins where they do is
-- the other half of its last one. Where none waits, none was handed out.
abbrev pub IsSealed : List Block → List Block → Type 0
IsSealed handed [] = handed ≡ []
IsSealed handed (block ∷ waiting) = (larger : Block) → larger.first ≡ block.first → HasNoHalves (handed ++ larger ∷ [])

-- what was handed out and what waits are together the joined form of what was pushed
pub record IsJoining (pushed handed waiting : List Block) : Type 0 where
  pub joined : IsJoined pushed (handed ++ waiting)
  pub sealed : IsSealed handed waiting

-- the waiting blocks of a joiner, and those that its last call handed out
abbrev pub waiting_of : List Block × List Block → List Block
waiting_of joiner = joiner.0

abbrev pub settled_of : List Block × List Block → List Block
settled_of joiner = joiner.1

-- the block begins after all addresses of the list
abbrev pub IsAfter : List Block → Block → Type 0
IsAfter blocks block = (address : ℕ) → IsIn address blocks → address < block.first

-- ---- inside a joiner

-- how many blocks wait at most: one of each prefix
abbrev pub most_waiting : ℕ
most_waiting = 129

-- each prefix is longer than the one before
abbrev pub DeepensFrom : ℕ → List Block → Type 0
DeepensFrom from [] = Unit {0}
DeepensFrom from (block ∷ blocks) = (from ≤ block.prefix) × DeepensFrom (suc block.prefix) blocks

pub record IsReady (waiting : List Block) : Type 0 where
  pub each : AllByRecursion IsBlock waiting
  pub deepens : DeepensFrom 0 waiting
