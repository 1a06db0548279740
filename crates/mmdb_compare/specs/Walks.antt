-- Where a walk is, and what it says.
use Rattle.std.specs.Prelude.{◌≡◌, ℕ, ◌+◌, ◌*◌, ◌^◌, length, ◌<◌, ◌≤◌, Bool, true, false, List, [], ◌∷◌, Option}
use Rattle.mmdb_blocks.specs.declared.block.Block.{Block}
use Rattle.mmdb_blocks.specs.Blocks.{IsBlock, end}
use Rattle.mmdb_reader.specs.File.{Database}
use Rattle.mmdb_compare.specs.declared.walk.Stand.{Stand}
use Rattle.mmdb_compare.specs.declared.walk.Stand.TheVariants.{Nowhere, AtNetwork, AtEnd}
use Rattle.mmdb_compare.specs.declared.walk.Here.{Here}
use Rattle.mmdb_compare.specs.declared.walk.Here.TheVariants.{Record as RecordHere, Nothing as NothingHere, Unknown as UnknownHere}
use Rattle.mmdb_compare.specs.Coming.{Leaf, Coming, Answer, coming, coming_from, answer_at}
use Rattle.mmdb_compare.specs.Coming.Leaf.{Network, Unread}
use Rattle.mmdb_compare.specs.Coming.Answer.{Record, Nothing, Unknown}

-- A walk: its database, where it is, the block and the offset of the network that it is at, the leaves after it, and whether it
-- is not known what comes before the network.
pub record Standing : Type 0 where
  pub database : Database
  pub stand : Stand
  pub block : Block
  pub offset : Option ℕ
  pub leaves : List Leaf
  pub is_unknown : Bool

abbrev pub standing : Database → Stand → ℕ → ℕ → Option ℕ → List Leaf → Bool → Standing
standing database stand first prefix offset leaves is_unknown =
    record { database = database; stand = stand; block = record { first = first; prefix = prefix }; offset = offset; leaves = leaves; is_unknown = is_unknown }

-- what comes with the network that it is at
abbrev pub left_at : Stand → Block → Option ℕ → List Leaf → Bool → Coming
left_at Nowhere block offset leaves is_unknown = coming leaves is_unknown
left_at AtNetwork block offset leaves is_unknown = coming (Network block offset ∷ leaves) is_unknown
left_at AtEnd block offset leaves is_unknown = coming leaves is_unknown

abbrev pub left_of : Standing → Coming
left_of s = left_at s.stand s.block s.offset s.leaves s.is_unknown

-- what comes after the network that it is at
abbrev pub behind_at : Stand → List Leaf → Bool → Coming
behind_at Nowhere leaves is_unknown = coming leaves is_unknown
behind_at AtNetwork leaves is_unknown = coming leaves false
behind_at AtEnd leaves is_unknown = coming leaves is_unknown

abbrev pub behind_of : Standing → Coming
behind_of s = behind_at s.stand s.leaves s.is_unknown

-- A leaf that can't be read came first, and the walk is after it.
pub record IsMet (before : Coming) (after : Standing) : Type 0 where
  pub is_unknown : Bool
  pub met : before ≡ coming (Unread ∷ after.leaves) is_unknown
  pub stands : after.stand ≡ Nowhere
  pub unknown : after.is_unknown ≡ true

abbrev pub IsTakenAt : Stand → List Leaf → Type 0
IsTakenAt Nowhere leaves = ⊥
IsTakenAt AtNetwork leaves = Unit {0}
IsTakenAt AtEnd leaves = leaves ≡ []

-- The next leaf was taken, or there is none.
pub record IsTaken (before : Coming) (after : Standing) : Type 0 where
  pub left : left_of after ≡ before
  pub stands : IsTakenAt after.stand after.leaves

-- No network ends at an address or before.
abbrev pub IsFromAt : Stand → ℕ → Block → List Leaf → Type 0
IsFromAt Nowhere at block leaves = ⊥
IsFromAt AtNetwork at block leaves = at < end block
IsFromAt AtEnd at block leaves = leaves ≡ []

abbrev pub IsFrom : ℕ → Standing → Type 0
IsFrom at s = IsFromAt s.stand at s.block s.leaves

-- The network ends at an address or before, or there is none yet.
abbrev pub IsBehindAt : Stand → ℕ → Block → Type 0
IsBehindAt Nowhere at block = Unit {0}
IsBehindAt AtNetwork at block = end block ≤ at
IsBehindAt AtEnd at block = ⊥

abbrev pub IsBehind : ℕ → Standing → Type 0
IsBehind at s = IsBehindAt s.stand at s.block

-- how many steps there are at most to the end of a walk
abbrev pub step_to_end : Stand → ℕ
step_to_end Nowhere = 1
step_to_end AtNetwork = 1
step_to_end AtEnd = 0

abbrev pub steps_left : Standing → ℕ
steps_left s = 2 * length s.leaves + step_to_end s.stand

-- the walk went on to an address
pub record IsGone (at : ℕ) (before after : Standing) : Type 0 where
  pub left : left_of after ≡ coming_from at (left_of before)
  pub «from» : IsFrom at after

-- What holds of each walk: it is in blocks, and after all networks none comes.
pub record IsStanding (range : Block) (s : Standing) : Type 0 where
  pub within : IsBlock range
  pub block : IsBlock s.block
  pub at_end : s.stand ≡ AtEnd → s.leaves ≡ []

-- the answer is the same from an address up to another one
pub record IsSaid (c : Coming) (at last : ℕ) (answer : Answer) : Type 0 where
  pub within : at ≤ last
  pub fits : last < 2 ^ 128
  pub each : (address : ℕ) → at ≤ address → address ≤ last → answer_at address c ≡ answer

abbrev pub IsHere : Standing → ℕ → Here → Type 0
IsHere s at (RecordHere last) = IsSaid (left_of s) at last (Record s.offset)
IsHere s at (NothingHere last) = IsSaid (left_of s) at last Nothing
IsHere s at (UnknownHere last) = IsSaid (left_of s) at last Unknown

abbrev pub last_here : Here → ℕ
last_here (RecordHere last) = last
last_here (NothingHere last) = last
last_here (UnknownHere last) = last

abbrev pub is_record_here : Here → Bool
is_record_here (RecordHere last) = true
is_record_here (NothingHere last) = false
is_record_here (UnknownHere last) = false

-- it is at a network in which a block begins, with no longer prefix
pub record StandsAround (s : Standing) (block : Block) : Type 0 where
  pub stands : s.stand ≡ AtNetwork
  pub first : s.block.first ≤ block.first
  pub prefix : s.block.prefix ≤ block.prefix
  pub is_block : IsBlock s.block

-- it is at a network of which nothing is left at an address
pub record IsDone (s : Standing) (at : ℕ) : Type 0 where
  pub stands : s.stand ≡ AtNetwork
  pub ends : end s.block ≤ at
