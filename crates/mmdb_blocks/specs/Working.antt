-- What contracts of private functions and proofs name.
use Rattle.std.specs.Prelude.{◌≡◌, ℕ, ◌+◌, ◌<◌, ◌≤◌, ◌⊎◌, ◌↔◌, List, [], ◌∷◌, ◌++◌, max}
use Rattle.std.specs.List.{AllByRecursion}
use Rattle.mmdb_blocks.specs.declared.block.Block.{Block}
use Rattle.mmdb_blocks.specs.declared.ranges.BlockRange.{BlockRange}
use Rattle.mmdb_blocks.specs.Blocks.{IsBlock, IsIn, SameAddresses, AscendsFrom, AreHalves, HasNoHalves, whole}
use Rattle.mmdb_blocks.specs.Joining.{IsSealed, IsJoining}
use Rattle.mmdb_blocks.specs.Ranges.{IsAmong}

-- it holds of the last block, if there is one
abbrev pub AtLast : (Block → Type 0) → List Block → Type 0
AtLast P [] = Unit {0}
AtLast P (block ∷ []) = P block
AtLast P (block ∷ next ∷ blocks) = AtLast P (next ∷ blocks)

-- the block is the last one
abbrev pub IsAtEnd : Block → List Block → Type 0
IsAtEnd block blocks = (front : List Block) × (blocks ≡ front ++ block ∷ [])

abbrev pub IsNoHalf : Block → Block → Type 0
IsNoHalf left right = AreHalves left right → ⊥

-- the last block was taken, as the left half of a larger one
pub record TakesHalf (old new : List Block) (right larger : Block) : Type 0 where
  pub left : Block
  pub old_is : old ≡ new ++ left ∷ []
  pub halves : AreHalves left right
  pub larger_is : larger ≡ whole left

-- a block is about to join those that wait
pub record IsPending (pushed handed waiting : List Block) (block : Block) : Type 0 where
  pub covers : SameAddresses pushed (handed ++ (waiting ++ block ∷ []))
  pub each : AllByRecursion IsBlock (handed ++ (waiting ++ block ∷ []))
  pub ascends : AscendsFrom 0 (handed ++ (waiting ++ block ∷ []))
  pub apart : HasNoHalves (handed ++ waiting)
  pub sealed : IsSealed handed (waiting ++ block ∷ [])

-- the range is the last one
abbrev pub EndsWith : BlockRange → List BlockRange → Type 0
EndsWith range ranges = (front : List BlockRange) × (ranges ≡ front ++ range ∷ [])

-- the last range was taken, with which another one makes one
pub record TakesReached (old new : List BlockRange) (range joined : BlockRange) : Type 0 where
  pub last : BlockRange
  pub old_is : old ≡ new ++ last ∷ []
  pub in_order : last.first ≤ range.first
  pub meets : range.first ≤ last.last + 1
  pub first_is : joined.first ≡ last.first
  pub last_is : joined.last ≡ max last.last range.last

-- ---- ranges that begin in order

-- each begins at an address or later
abbrev pub BeginFrom : ℕ → List BlockRange → Type 0
BeginFrom from [] = Unit {0}
BeginFrom from (range ∷ ranges) = (from ≤ range.first) × BeginFrom from ranges

-- none begins before one that comes before it
abbrev pub Begins : List BlockRange → Type 0
Begins [] = Unit {0}
Begins (range ∷ ranges) = BeginFrom range.first ranges × Begins ranges

-- the first one has an address from this one on
abbrev pub Reaches : ℕ → List BlockRange → Type 0
Reaches from [] = Unit {0}
Reaches from (range ∷ ranges) = (from ≤ range.last) × (range.first ≤ range.last)

-- the first one begins after an address
abbrev pub BeginsAfter : ℕ → List BlockRange → Type 0
BeginsAfter last [] = Unit {0}
BeginsAfter last (range ∷ ranges) = last < range.first

-- the first one is this one
abbrev pub BeginsWith : BlockRange → List BlockRange → Type 0
BeginsWith first [] = ⊥
BeginsWith first (range ∷ ranges) = first ≡ range

-- What was added is what the addresses from one to another have that no range has; the rest of the ranges has what they
-- have from the last address on.
pub record HasRest (first last : ℕ) (others old new rest : List BlockRange) : Type 0 where
  pub begins : Begins rest
  pub later : (address : ℕ) → last ≤ address → IsAmong address rest ↔ IsAmong address others
  pub left : (address : ℕ) → IsAmong address new
      ↔ (IsAmong address old ⊎ ((first ≤ address) × (address ≤ last) × ¬ IsAmong address others))

-- ---- blocks that a joiner takes

-- what was handed out and what waits is joined
abbrev pub IsKept : List Block → List Block → Type 0
IsKept handed waiting = IsJoining (handed ++ waiting) handed waiting

-- it stays so, with what else they have
pub record Takes (handed waiting newly later : List Block) (has : ℕ → Type 0) : Type 0 where
  pub kept : IsKept newly later
  pub covers : (address : ℕ) → IsIn address (newly ++ later) ↔ (IsIn address (handed ++ waiting) ⊎ has address)

-- the first of some blocks begins at an address or later
abbrev pub Starts : ℕ → List Block → Type 0
Starts from [] = Unit {0}
Starts from (block ∷ blocks) = from ≤ block.first
