-- Where the walks of any number of databases are, and what they say.
use Rattle.std.specs.Prelude.{◌≡◌, ℕ, ◌^◌, ◌<◌, ◌≤◌, Bool, true, false, List, length, map, get_or, set, take, drop, Option, if◌then◌else◌, nat_lt}
use Rattle.std.specs.List.{list_all, list_any, All}
use Rattle.mmdb_blocks.specs.declared.block.Block.{Block}
use Rattle.mmdb_blocks.specs.Blocks.{IsBlock, IsWithin, end}
use Rattle.mmdb_reader.specs.File.{Database}
use Rattle.mmdb_compare.specs.declared.walk.Stand.{Stand}
use Rattle.mmdb_compare.specs.declared.walk.Stand.TheVariants.{Nowhere, AtNetwork, AtEnd}
use Rattle.mmdb_compare.specs.declared.walk.Here.{Here}
use Rattle.mmdb_compare.specs.declared.walk.Here.TheVariants.{Record as RecordHere, Nothing as NothingHere, Unknown as UnknownHere}
use Rattle.mmdb_compare.specs.declared.walk_list.AllHere.{AllHere}
use Rattle.mmdb_compare.specs.declared.walk_list.AllAt.{AllAt}
use Rattle.mmdb_compare.specs.declared.walk_list.AllAt.TheVariants.{Shown, Passed}
use Rattle.mmdb_compare.specs.Coming.{Coming, Answer, coming_from, answer_at}
use Rattle.mmdb_compare.specs.Coming.Answer.{Record, Nothing}
use Rattle.mmdb_compare.specs.Parts.{start_of}
use Rattle.mmdb_compare.specs.Walks.{Standing, left_of, IsFrom, IsMet, IsDone, StandsAround}
use Rattle.mmdb_compare.specs.Together.{Abreast, all_from, is_readable, is_known, is_record, are_shown, ArePassed, ArePassedTo}

abbrev pub is_known_here : Here → Bool
is_known_here (RecordHere last) = true
is_known_here (NothingHere last) = true
is_known_here (UnknownHere last) = false

-- the databases of walks
abbrev pub databases_of : List Standing → List Database
databases_of walks = map (λ s. s.database) walks

-- what is left of a walk from an address on
abbrev pub left_from : ℕ → Standing → Coming
left_from at s = coming_from at (left_of s)

abbrev pub said_at : ℕ → Standing → Answer
said_at address s = answer_at address (left_of s)

-- all walks are at networks of which nothing is left at an address
abbrev pub AreDone : ℕ → List Standing → Type 0
AreDone at walks = All (λ s. IsDone s at) walks

-- it is at the network that is a block
abbrev pub IsAtBlock : Block → Standing → Type 0
IsAtBlock block s = (s.stand ≡ AtNetwork) × (s.block ≡ block)

-- the block of an address and a prefix
abbrev pub block_at : ℕ → ℕ → Block
block_at at prefix = record { first = at; prefix = prefix }

-- what each walk says of an address
abbrev pub all_said : ℕ → List Standing → List Answer
all_said address walks = map (said_at address) walks

-- what the network that a walk is at is to an address
abbrev pub held_by : Stand → Block → Option ℕ → ℕ → Answer
held_by Nowhere block offset address = Nothing
held_by AtNetwork block offset address = if nat_lt address block.first then Nothing else Record offset
held_by AtEnd block offset address = Nothing

abbrev pub held_at : ℕ → Standing → Answer
held_at address s = held_by s.stand s.block s.offset address

-- nothing is left out of any walk from an address on
abbrev pub AllPassed : ℕ → List Standing → List Standing → Type 0
AllPassed at before after = map (left_from at) after ≡ map (left_from at) before

-- all walks went on to an address, and nothing is left out of any
pub record AllGone (at : ℕ) (before after : List Standing) : Type 0 where
  pub left : map (left_from at) after ≡ map (left_from at) before
  pub stand : All (IsFrom at) after

-- a leaf of the walk at a place can't be read on the way to an address, and nothing is left out of the others
pub record IsMetOf (place at : ℕ) (before after : List Standing) : Type 0 where
  pub one : Coming
  pub walk : Standing
  pub within : place < length before
  pub there : one ≡ get_or (map (left_from at) before) place one
  pub met : IsMet one walk
  pub others : map (left_from at) after ≡ set (map (left_from at) before) place (left_from at walk)

-- What all walks have at an address: the same up to another one, each known or not, one of them a record or none.
pub record AreHere (walks : List Standing) (at : ℕ) (here : AllHere) : Type 0 where
  pub within : at ≤ here.last
  pub fits : here.last < 2 ^ 128
  pub each : (address : ℕ) → at ≤ address → address ≤ here.last → all_said address walks ≡ all_said at walks
  pub readable : list_all is_readable (all_said at walks) ≡ true
  pub known : here.is_known ≡ list_all is_known (all_said at walks)
  pub some : here.has_record ≡ list_any is_record (all_said at walks)

-- At an address a block begins that is handed out: at each of its addresses the walks say the same.
pub record AreShownAt (walks : List Standing) (at : ℕ) (block : Block) (are_even : Bool) : Type 0 where
  pub is_block : IsBlock block
  pub begins : block.first ≡ at
  pub said : (address : ℕ) → IsWithin address block → all_said address walks ≡ map (held_at at) walks
  pub shown : are_shown (map (held_at at) walks) ≡ true
  pub even : are_even ≡ true → AreDone (end block) walks

-- from an address to another one nothing is handed out
pub record ArePassedAt (walks : List Standing) (at last : ℕ) : Type 0 where
  pub within : at ≤ last
  pub fits : last < 2 ^ 128
  pub each : (address : ℕ) → at ≤ address → address ≤ last → ArePassed (all_said address walks)

abbrev pub AreAt : List Standing → ℕ → AllAt → Type 0
AreAt walks at (Shown block are_even) = AreShownAt walks at block are_even
AreAt walks at (Passed last) = ArePassedAt walks at last

-- the block begins at an address, each network holds it, and none is left after it where all have its prefix
pub record AreNarrowest (walks : List Standing) (at : ℕ) (block : Block) (are_even : Bool) : Type 0 where
  pub is_block : IsBlock block
  pub begins : block.first ≡ at
  pub some : 0 < length walks
  pub around : All (λ s. StandsAround s block) walks
  pub even : are_even ≡ true → All (λ s. s.block.prefix ≡ block.prefix) walks

-- so of the walks before a place, wherever the block begins
pub record AreNarrowestUpTo (place : ℕ) (walks : List Standing) (at : ℕ) (block : Block) (are_even : Bool) : Type 0 where
  pub is_block : IsBlock block
  pub around : All (λ s. StandsAround s (block_at at block.prefix)) (take place walks)
  pub even : are_even ≡ true → All (λ s. s.block.prefix ≡ block.prefix) (take place walks)

-- all are at the network that is the block, at an address or after it
pub record AreShared (walks : List Standing) (at : ℕ) (block : Block) : Type 0 where
  pub is_block : IsBlock block
  pub behind : at ≤ block.first
  pub some : 0 < length walks
  pub each : All (IsAtBlock block) walks

abbrev pub abreast : Option ℕ → ℕ → List Standing → Abreast
abreast at shown_at walks = record {
  databases = databases_of walks;
  at = start_of at;
  left = map (left_from (start_of at)) walks;
  answers = map (held_at shown_at) walks;
}

-- What holds of databases side by side.
abbrev pub AreAbreast : Option ℕ → Bool → List Standing → Type 0
AreAbreast at are_even walks = are_even ≡ true → AreDone (start_of at) walks

-- no part was handed out, and none is left out
pub record AreSameLeft (before after : Abreast) : Type 0 where
  pub at : after.at ≡ before.at
  pub left : after.left ≡ before.left

-- from one address to another one all is passed, and after it nothing is left out
pub record AreReached (before after : Abreast) : Type 0 where
  pub behind : before.at ≤ after.at
  pub skipped : ArePassedTo after.at before
  pub left : after.left ≡ all_from after.at before.left
  pub databases : after.databases ≡ before.databases

-- The walks before a place went on to an address, and nothing is left out of any.
pub record GoneUpTo (place at : ℕ) (before after : List Standing) : Type 0 where
  pub databases : databases_of after ≡ databases_of before
  pub left : map (left_from at) after ≡ map (left_from at) before
  pub stand : All (IsFrom at) (take place after)

-- so on the way to the next part
pub record AreOnWay (before after : Abreast) (are_even : Bool) : Type 0 where
  pub reached : AreReached before after
  pub is_odd : are_even ≡ false

-- The walks before a place were passed, and where all had ended at an address, nothing is left out of any from there on.
pub record PassedUpTo (place : ℕ) (before after : List Standing) : Type 0 where
  pub databases : databases_of after ≡ databases_of before
  pub rest : drop place after ≡ drop place before
  pub many : length after ≡ length before
  pub left : (at : ℕ) → AreDone at before → AllPassed at before after
