-- Any number of databases side by side, and their parts, each of which is exactly the next one.
use Rattle.std.specs.Prelude.{ℕ, ◌^◌, ◌<◌, ◌≤◌, ◌≡◌, Bool, true, false, ◌&&◌, List, length, map, get_or, set, Option, None}
use Rattle.std.specs.List.{list_all, list_any}
use Rattle.mmdb_blocks.specs.declared.block.Block.{Block}
use Rattle.mmdb_blocks.specs.Blocks.{IsBlock, IsWithin, end}
use Rattle.mmdb_reader.specs.File.{Database}
use Rattle.mmdb_compare.specs.Coming.{Coming, Answer, coming_from, answer_at}
use Rattle.mmdb_compare.specs.Coming.Answer.{Record, Nothing, Unknown, Unreadable}
use Rattle.mmdb_compare.specs.Parts.{IsPast}
use Rattle.mmdb_compare.specs.declared.together.TogetherPart.{TogetherPart}
use Rattle.mmdb_compare.specs.declared.together.TogetherPart.TheVariants.{Stretch as StretchPart, Unread as UnreadPart}

-- Databases, side by side: which they are; the address up to which all was handed out, or 2 ^ 128 where that is each address; what is left to come of each
-- database from there on; and what each has in the last stretch that was handed out.
pub record Abreast : Type 0 where
  pub databases : List Database
  pub at : ℕ
  pub left : List Coming
  pub answers : List Answer

-- what each database answers for an address
abbrev pub answers_at : ℕ → List Coming → List Answer
answers_at address left = map (answer_at address) left

-- what is left of each from an address on
abbrev pub all_from : ℕ → List Coming → List Coming
all_from at left = map (coming_from at) left

abbrev pub is_readable : Answer → Bool
is_readable (Record offset) = true
is_readable Nothing = true
is_readable Unknown = true
is_readable Unreadable = false

abbrev pub is_known : Answer → Bool
is_known (Record offset) = true
is_known Nothing = true
is_known Unknown = false
is_known Unreadable = false

abbrev pub is_record : Answer → Bool
is_record (Record offset) = true
is_record Nothing = false
is_record Unknown = false
is_record Unreadable = false

-- where the record is, if there is one
abbrev pub offset_of : Answer → Option ℕ
offset_of (Record offset) = offset
offset_of Nothing = None
offset_of Unknown = None
offset_of Unreadable = None

-- where the record of the database at a place is, by these answers
abbrev pub offset_in : List Answer → ℕ → Option ℕ
offset_in answers place = offset_of (get_or answers place Nothing)

-- What is handed out: what each database has is known, and one of them has a record.
abbrev pub are_shown : List Answer → Bool
are_shown answers = list_all is_known answers && list_any is_record answers

-- At an address nothing is handed out, and nothing is to be said: no database has a record, or what one of them has is not
-- known.
pub record ArePassed (answers : List Answer) : Type 0 where
  pub readable : list_all is_readable answers ≡ true
  pub hidden : are_shown answers ≡ false

-- so at each address from the one where the databases are to another one
abbrev pub ArePassedTo : ℕ → Abreast → Type 0
ArePassedTo to t = (address : ℕ) → t.at ≤ address → address < to → ArePassed (answers_at address t.left)

-- The next stretch is a block after addresses that are passed, in which each database has one answer, each of them is known,
-- and one is a record. The call goes past its last address, and after it nothing is left out of any database.
pub record IsNextBlock (before after : Abreast) (next : Block) : Type 0 where
  pub block : IsBlock next
  pub behind : before.at ≤ next.first
  pub skipped : ArePassedTo next.first before
  pub answered : (address : ℕ) → IsWithin address next → answers_at address before.left ≡ after.answers
  pub shown : are_shown after.answers ≡ true
  pub at : after.at ≡ end next
  pub left : after.left ≡ all_from after.at before.left

-- At an address a leaf of the database at a place came first that can't be read, and is no longer to come. Of the others
-- nothing is left out.
pub record IsPastOf (place at : ℕ) (before after : List Coming) : Type 0 where
  pub one : Coming
  pub left : Coming
  pub within : place < length before
  pub there : one ≡ get_or before place one
  pub past : IsPast at one left
  pub others : after ≡ set (all_from at before) place left

-- The next leaf that can't be read comes after addresses that are passed.
pub record IsNextUnreadOf (before after : Abreast) (place : ℕ) : Type 0 where
  pub behind : before.at ≤ after.at
  pub skipped : ArePassedTo after.at before
  pub past : IsPastOf place after.at before.left after.left

abbrev pub IsNextOfAll : Abreast → Abreast → TogetherPart → Type 0
IsNextOfAll before after (StretchPart stretch) = IsNextBlock before after stretch.block
IsNextOfAll before after (UnreadPart place) = IsNextUnreadOf before after place

-- nothing is handed out yet, and this is to come
pub record AreBegun (all : List Coming) (t : Abreast) : Type 0 where
  pub at : t.at ≡ 0
  pub left : t.left ≡ all

-- no part is left: all addresses are passed
pub record AreOver (before after : Abreast) : Type 0 where
  pub skipped : ArePassedTo (2 ^ 128) before
  pub at : after.at ≡ 2 ^ 128
