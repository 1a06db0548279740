-- Where a comparison of two databases is, and what is left out of its lines.
use Rattle.std.specs.Prelude.{◌≡◌, ◌≤◌, ◌⊎◌, ℕ, Bool, true, false, List, [], ◌∷◌, length, get_or, slice_get, Option, is_some, IsSomeAnd}
use Rattle.std.specs.Option.{ForSome}
use Rattle.std.specs.Io.KnownBytes.{Appends}
use Rattle.mmdb_blocks.specs.Blocks.{IsWithin}
use Rattle.mmdb_blocks.specs.Kinds.{IsWanted}
use Rattle.mmdb_blocks.specs.declared.kind.Kinds.{Kinds}
use Rattle.mmdb_layout.specs.declared.layout.Layout.{Layout}
use Rattle.mmdb_compare.specs.Coming.{Coming, Answer}
use Rattle.mmdb_compare.specs.Kept.{AreKeptAs, IsIn}
use Rattle.mmdb_compare.specs.Together.{offset_in}
use Rattle.mmdb_compare.specs.declared.pairs.KnownPairs.{KnownPairs}
use Rattle.mmdb_compare.specs.declared.pairs.Offsets.{Offsets}
use Rattle.mmdb_compare.specs.declared.side.Side.{Side}
use Rattle.mmdb_compare.specs.declared.side.Side.TheVariants.{Old, New}
use Rattle.mmdb_compare.specs.declared.together.TogetherPart.{TogetherPart}
use Rattle.mmdb_compare.specs.declared.together.TogetherPart.TheVariants.{Stretch as StretchPart, Unread as UnreadPart}
use Rattle.mmdb_compare.specs.declared.together.TogetherStretch.{TogetherStretch}
use Rattle.mmdb_cmd_diff.specs.Alike.{AreAlike, AreKeptAlike, IsUnread}
use Rattle.mmdb_cmd_diff.specs.Lines.{Both, Line, AreTrueLines, IsInBlock, IsInLines, Tells, AreWaiting, kind_of, waiting_in, with_stretch}
use Rattle.mmdb_cmd_diff.specs.Showing.{Showing}
use Rattle.mmdb_cmd_diff.specs.Walked.{all_at, both_of}
use Rattle.mmdb_cmd_diff.specs.declared.changes.Changes.{Changes}
use Rattle.mmdb_cmd_diff.specs.declared.counts.Presence.{Presence}
use Rattle.mmdb_cmd_diff.specs.declared.comparison.SoFar.{SoFar}
use Rattle.mmdb_cmd_diff.specs.declared.comparison.Stretch.{Stretch}

-- An address is left out of the lines: its kind is not wanted, both databases show the same there, or a record can't be read.
abbrev pub IsLeftOut : Kinds → Showing → Both → Bool → ℕ → Type 0
IsLeftOut kinds showing both is_ipv4 address =
    let old = (both is_ipv4 address).0 in
    let new = (both is_ipv4 address).1 in
    (¬ IsWanted kinds (kind_of is_ipv4)) ⊎ (AreAlike showing old new ⊎ ((side : Side) × IsUnread showing old new side))

-- Known output grows by true lines. Each address that is due is in one of them, or still waits.
abbrev pub TellsAll : Layout → Showing → Both → (ℕ → Type 0) → (Bool → ℕ → Type 0) → Option (List ℕ) → Option (List ℕ) → Type 0
TellsAll layout showing both due waiting before after =
    (lines : List Line) × (text : List ℕ) × AreTrueLines layout showing both lines text × Appends before after text
    × ((address : ℕ) → due address → (is_ipv4 : Bool) × (IsInLines lines is_ipv4 address ⊎ waiting is_ipv4 address))

-- ---- stretches that wait

-- both databases have these answers at each address of a stretch
abbrev pub IsTaken : List Coming → TogetherStretch → List Answer → Type 0
IsTaken left part answers = (address : ℕ) → IsWithin address part.block → all_at left address ≡ answers

abbrev pub IsTakenPart : List Coming → TogetherPart → List Answer → Type 0
IsTakenPart left (StretchPart part) answers = IsTaken left part answers
IsTakenPart left (UnreadPart place) answers = Unit {0}

-- with the addresses of a part, of which one that can't be read has none
abbrev pub with_part : TogetherPart → (Bool → ℕ → Type 0) → Bool → ℕ → Type 0
with_part (StretchPart part) others = with_stretch part others
with_part (UnreadPart place) others = others

-- so of a stretch that waits with the pair of its records
pub record IsWaiting (left : List Coming) (stretch : Stretch) (pair : Option Offsets) : Type 0 where
  pub answers : List Answer
  pub is_taken : IsTaken left stretch.part answers
  pub in_old : stretch.presence.in_old ≡ is_some (offset_in answers 0)
  pub in_new : stretch.presence.in_new ≡ is_some (offset_in answers 1)
  pub is_pair : ForSome pair (AreKeptAs (offset_in answers 0) (offset_in answers 1))

abbrev pub AreAllWaiting : List Coming → List Stretch → List (Option Offsets) → Type 0
AreAllWaiting left [] pairs = pairs ≡ []
AreAllWaiting left (stretch ∷ stretches) [] = ⊥
AreAllWaiting left (stretch ∷ stretches) (pair ∷ pairs) = IsWaiting left stretch pair × AreAllWaiting left stretches pairs

-- which of the databases has a record in a stretch
abbrev pub has_record : Presence → Side → Bool
has_record presence Old = presence.in_old
has_record presence New = presence.in_new

-- each pair that is marked is kept to be the same
abbrev pub AreMarked : KnownPairs → List (Option Offsets) → List Bool → Type 0
AreMarked kept pairs marks =
    (index : ℕ) → get_or marks index false ≡ true → IsSomeAnd (slice_get pairs index) (IsIn kept.same)

-- their addresses
abbrev pub in_stretches : List Stretch → Bool → ℕ → Type 0
in_stretches [] is_ipv4 address = ⊥
in_stretches (stretch ∷ stretches) is_ipv4 address =
    IsInBlock stretch.part.is_ipv4 stretch.part.block is_ipv4 address ⊎ in_stretches stretches is_ipv4 address

-- ---- where a comparison is

-- addresses that are in no line: they wait for one, or to be compared, or are left out
abbrev pub untold : Kinds → Showing → Both → Changes → List Stretch → Bool → ℕ → Type 0
untold kinds showing both changes stretches is_ipv4 address =
    waiting_in changes is_ipv4 address ⊎ (in_stretches stretches is_ipv4 address ⊎ IsLeftOut kinds showing both is_ipv4 address)

abbrev pub untold_by : List Coming → SoFar → Bool → ℕ → Type 0
untold_by left s = untold s.kinds s.pairs.shown (both_of left) s.changes s.waiting.stretches.items

-- what waits for a line is of both databases, and all that is kept as the same is
pub record IsReady (both : Both) (s : SoFar) : Type 0 where
  pub changes : AreWaiting s.pairs.shown both s.changes
  pub kept : AreKeptAlike s.pairs.shown s.pairs.kept

-- and what waits to be compared
pub record AreSoFar (left : List Coming) (s : SoFar) : Type 0 where
  pub ready : IsReady (both_of left) s
  pub waiting : AreAllWaiting left s.waiting.stretches.items s.waiting.offsets.items
  pub few : length s.waiting.stretches.items ≤ 64

-- what is shown, how, and of which kinds
pub record ShowTheSame (before after : SoFar) : Type 0 where
  pub shown : after.pairs.shown ≡ before.pairs.shown
  pub layout : after.pairs.layout ≡ before.pairs.layout
  pub kinds : after.kinds ≡ before.kinds

-- A comparison goes on: what is due is told, or is not yet.
pub record GoesOn (left : List Coming) (due : Bool → ℕ → Type 0) (before after : SoFar) (a b : Option (List ℕ)) : Type 0 where
  pub told : Tells before.pairs.layout.now before.pairs.shown (both_of left) due (untold_by left after) a b
  pub so_far : AreSoFar left after
