-- Blocks of addresses, the addresses in a list of them, and the list that joins them. Addresses are numbers below
-- 2 ^ 128. A block has the addresses that begin with the same `prefix` bits, from `first` on.
use Rattle.std.specs.Prelude.{◌≡◌, ℕ, ◌+◌, ◌-◌, ◌%◌, ◌^◌, ◌<◌, ◌≤◌, ◌⊎◌, ◌↔◌, List, [], ◌∷◌}
use Rattle.std.specs.List.{AllByRecursion}
use Rattle.mmdb_blocks.specs.declared.block.Block.{Block}

-- how many addresses a block has
abbrev pub size : Block → ℕ
size block = 2 ^ (128 - block.prefix)

-- the address after its last one
abbrev pub end : Block → ℕ
end block = block.first + size block

-- it begins where a block of its size may
pub record IsBlock (block : Block) : Type 0 where
  pub prefix : block.prefix ≤ 128
  pub first : block.first < 2 ^ 128
  pub aligned : block.first % size block ≡ 0

abbrev pub IsWithin : ℕ → Block → Type 0
IsWithin address block = (block.first ≤ address) × (address < end block)

-- the address is in a block of the list
abbrev pub IsIn : ℕ → List Block → Type 0
IsIn address [] = ⊥
IsIn address (block ∷ blocks) = IsWithin address block ⊎ IsIn address blocks

-- the same addresses are in both lists
abbrev pub SameAddresses : List Block → List Block → Type 0
SameAddresses some others = (address : ℕ) → IsIn address some ↔ IsIn address others

-- each block begins where the one before it ends, or later; the first one at `from` or later
abbrev pub AscendsFrom : ℕ → List Block → Type 0
AscendsFrom from [] = Unit {0}
AscendsFrom from (block ∷ blocks) = (from ≤ block.first) × AscendsFrom (end block) blocks

-- the block that has one bit less of prefix and begins where this one does
abbrev pub whole : Block → Block
whole left = record { first = left.first; prefix = left.prefix - 1 }

-- the two are the halves of one block, which begins where the left one does
pub record AreHalves (left right : Block) : Type 0 where
  pub prefix : left.prefix ≡ right.prefix
  pub is_half : 0 < left.prefix
  pub aligned : left.first % size (whole left) ≡ 0
  pub next : right.first ≡ end left

abbrev pub IsApart : Block → List Block → Type 0
IsApart block [] = Unit {0}
IsApart block (next ∷ blocks) = AreHalves block next → ⊥

-- no two neighbours are the halves of one block
abbrev pub HasNoHalves : List Block → Type 0
HasNoHalves [] = Unit {0}
HasNoHalves (block ∷ blocks) = IsApart block blocks × HasNoHalves blocks

-- The list has the addresses of these blocks, ascends without overlap, and no neighbours in it could be one.
pub record IsJoined (blocks joined : List Block) : Type 0 where
  pub covers : SameAddresses blocks joined
  pub each : AllByRecursion IsBlock joined
  pub ascends : AscendsFrom 0 joined
  pub apart : HasNoHalves joined
