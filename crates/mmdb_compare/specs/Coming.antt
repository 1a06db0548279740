-- What is still to come of a database in a range, and what it answers for an address.
use Rattle.std.specs.Prelude.{ℕ, length, Bool, false, List, [], ◌∷◌, Option, if◌then◌else◌, nat_lt}
use Rattle.mmdb_blocks.specs.declared.block.Block.{Block}
use Rattle.mmdb_blocks.specs.Blocks.{end}
use Rattle.mmdb_net.specs.Bits.{number_of}

-- A leaf: a network, as much of it as lies in the range, with where its record is; or one that can't be read.
pub data Leaf : Type 0 where
  Network : Block → Option ℕ → Leaf
  Unread : Leaf

-- The leaves that are still to come, ascending, and whether one that can't be read came before them: then it is not
-- known what the database has up to the first of them.
pub record Coming : Type 0 where
  pub leaves : List Leaf
  pub is_unknown : Bool

abbrev pub coming : List Leaf → Bool → Coming
coming leaves is_unknown = record { leaves = leaves; is_unknown = is_unknown }

-- without the networks that end at an address or before
abbrev pub passed : ℕ → List Leaf → Bool → Coming
passed at [] is_unknown = coming [] is_unknown
passed at (Unread ∷ leaves) is_unknown = coming (Unread ∷ leaves) is_unknown
passed at (Network block offset ∷ leaves) is_unknown =
    if nat_lt at (end block) then coming (Network block offset ∷ leaves) is_unknown else passed at leaves false

-- what is left to come from an address on
abbrev pub coming_from : ℕ → Coming → Coming
coming_from at c = passed at c.leaves c.is_unknown

-- What a database answers for an address: a record, and where it is; none; what is not known, after a leaf that can't
-- be read; or such a leaf comes first.
pub data Answer : Type 0 where
  Record : Option ℕ → Answer
  Nothing : Answer
  Unknown : Answer
  Unreadable : Answer

-- between networks
abbrev pub between : Bool → Answer
between is_unknown = if is_unknown then Unknown else Nothing

-- by the first leaf, where no network ends at the address or before
abbrev pub answer_of : ℕ → List Leaf → Bool → Answer
answer_of at [] is_unknown = between is_unknown
answer_of at (Unread ∷ leaves) is_unknown = Unreadable
answer_of at (Network block offset ∷ leaves) is_unknown =
    if nat_lt at block.first then between is_unknown else Record offset

abbrev pub answer_at : ℕ → Coming → Answer
answer_at at c = let left = coming_from at c in answer_of at left.leaves left.is_unknown

-- The block of the addresses that begin with these of 128 bits.
abbrev pub block_of_bits : List Bool → Block
block_of_bits bits = record { first = number_of 128 bits; prefix = length bits }
