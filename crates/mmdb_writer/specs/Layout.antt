-- A data section in which values that are used once stand in line, with the entries of its values.
use Rattle.std.specs.Prelude.{◌≡◌, ◌<◌, ◌⊎◌, ℕ, List, length, Option, Some, None}
use Rattle.std.specs.List.{AllByRecursion, AllZip}
use Rattle.mmdb_nodes.specs.declared.entry.NodeEntry.{NodeEntry}
use Rattle.mmdb_section.specs.declared.moved.MovedSection.{MovedSection}
use Rattle.mmdb_section.specs.Moved.{MovesTo, IsMoved}
use Rattle.mmdb_section.specs.Sections.{Tile, AreTiles}

-- the value at an offset stands by itself now
abbrev pub HasMoved : MovedSection → ℕ → Type 0
HasMoved moved from = (to : ℕ) × MovesTo moved from to

-- where the value is now, or that it does not stand by itself
abbrev pub IsMovedOffset : MovedSection → Option ℕ → Option ℕ → Type 0
IsMovedOffset moved None found = found ≡ None
IsMovedOffset moved (Some from) (Some to) = MovesTo moved from to
IsMovedOffset moved (Some from) None = (tiles : List Tile) → IsMoved tiles moved → ¬ HasMoved moved from

-- the entry has the same addresses
pub record IsMovedEntry (moved : MovedSection) (old new : NodeEntry) : Type 0 where
  pub first : new.first ≡ old.first
  pub prefix : new.prefix ≡ old.prefix
  pub offset : IsMovedOffset moved old.offset new.offset

-- The section is shorter than it was; the values at the offsets and of the entries are where they moved to.
pub record IsShortened (section : List ℕ) (offsets : List ℕ) (given : List NodeEntry) (bytes : List ℕ) (entries : List NodeEntry) : Type 0 where
  pub moved : MovedSection
  pub are : bytes ≡ moved.bytes.items
  pub is : (tiles : List Tile) → AreTiles tiles section → IsMoved tiles moved
  pub shorter : length bytes < length section
  pub all : AllByRecursion (HasMoved moved) offsets
  pub entries_are : AllZip (IsMovedEntry moved) given entries

-- it is so, or as it was
abbrev pub IsLaidOut : List ℕ → List ℕ → List NodeEntry → List ℕ → List NodeEntry → Type 0
IsLaidOut section offsets given bytes entries = IsShortened section offsets given bytes entries ⊎ ((bytes ≡ section) × (entries ≡ given))
