-- What contracts of private functions and proofs name of a section that is moved.
use Rattle.std.specs.Prelude.{◌≡◌, ◌<◌, ◌⊎◌, ℕ, List, ◌++◌, length, true, Some}
use Rattle.mmdb_format.specs.declared.header.Header.{Header}
use Rattle.mmdb_format.specs.Contents.{Scalar, content_at, content_end}
use Rattle.mmdb_format.specs.Unfolding.{Tree, Trees, Pairs, Unfolds, AllUnfold, PairsUnfold, has_texts, trees_texts, pairs_texts, without_pointers, trees_without, pairs_without}
use Rattle.mmdb_section.specs.declared.moved.Moved.{Moved}
use Rattle.mmdb_section.specs.declared.moved.MovedSection.{MovedSection}
use Rattle.mmdb_section.specs.declared.moved.Place.{Place}
use Rattle.mmdb_section.specs.declared.moved.Place.TheVariants as places
use Rattle.mmdb_section.specs.declared.value.SectionPart.TheVariants.{At}
use Rattle.mmdb_section.specs.Encoding.{IsScalar}
use Rattle.mmdb_section.specs.Moved.{HasPlace, AreInOrder, ComesFrom}
use Rattle.mmdb_section.specs.Sections.{Tile, IsTile, is_start, AreTiles, IsPart}
use Rattle.mmdb_section.specs.Working.{IsWritten, IsWrittenDirect, AreWritten, ArePairsWritten}

-- the tree is at a place beside these values: it begins there, or its bytes are those that are to stand in line
abbrev pub IsAt : List Tile → List ℕ → Place → Tree → Type 0
IsAt now bytes (places.At to) v = IsPart now (At to) v
IsAt now bytes (places.InLine line) v = IsWrittenDirect now bytes v line.items

-- whatever unfolds in the section where a value began is at the place to which that value went
abbrev pub ArePlaced : List ℕ → List Moved → List Tile → List ℕ → Type 0
ArePlaced section moved now bytes = (from : ℕ) (place : Place) → HasPlace moved from place → (t : Tree) (q : ℕ) → Unfolds section from t q → has_texts t ≡ true → IsAt now bytes place (without_pointers t)

-- ---- bytes that stand for what unfolds in the section

-- where a pointer leads there
abbrev pub Replaces : List Moved → ℕ → List ℕ → Type 0
Replaces moved from xs = (section : List ℕ) (now : List Tile) (bytes : List ℕ) → AreTiles now bytes → ArePlaced section moved now bytes
    → (t : Tree) (q : ℕ) → Unfolds section from t q → has_texts t ≡ true → IsWritten now bytes (without_pointers t) xs

-- what is behind a header there, which holds no others
pub record MovesScalar (section : List ℕ) (header : Header) (end : ℕ) (xs : List ℕ) : Type 0 where
  pub content : Scalar
  pub there : content_at section header ≡ Some content
  pub ends : end ≡ content_end header
  pub is : IsScalar content xs

-- what is from one offset to another
abbrev pub MovesPart : List ℕ → List Moved → ℕ → ℕ → List ℕ → Type 0
MovesPart section moved at end xs = (now : List Tile) (bytes : List ℕ) → AreTiles now bytes → ArePlaced section moved now bytes
    → (t : Tree) (q : ℕ) → Unfolds section at t q → has_texts t ≡ true → (end ≡ q) × IsWritten now bytes (without_pointers t) xs

-- a number of values, or of pairs
abbrev pub MovesParts : List ℕ → List Moved → ℕ → ℕ → ℕ → List ℕ → Type 0
MovesParts section moved at n end xs = (now : List Tile) (bytes : List ℕ) → AreTiles now bytes → ArePlaced section moved now bytes
    → (ts : Trees) (q : ℕ) → AllUnfold section at n ts q → trees_texts ts ≡ true → (end ≡ q) × AreWritten now bytes n (trees_without ts) xs

abbrev pub MovesPairs : List ℕ → List Moved → ℕ → ℕ → ℕ → List ℕ → Type 0
MovesPairs section moved at n end xs = (now : List Tile) (bytes : List ℕ) → AreTiles now bytes → ArePlaced section moved now bytes
    → (ps : Pairs) (q : ℕ) → PairsUnfold section at n ps q → pairs_texts ps ≡ true → (end ≡ q) × ArePairsWritten now bytes n (pairs_without ps) xs

-- a value that begins with no pointer
abbrev pub MovesValue : List ℕ → List Moved → ℕ → ℕ → List ℕ → Type 0
MovesValue section moved at end xs = (now : List Tile) (bytes : List ℕ) → AreTiles now bytes → ArePlaced section moved now bytes
    → (t : Tree) (q : ℕ) → Unfolds section at t q → has_texts t ≡ true → (end ≡ q) × IsWrittenDirect now bytes (without_pointers t) xs

-- ---- a section that is moved value by value

-- the bytes of a value were put at the end, or not yet
abbrev pub Places : List ℕ → MovedSection → MovedSection → Place → Type 0
Places xs old new (places.At to) = (to ≡ length old.bytes.items) × (new.bytes.items ≡ old.bytes.items ++ xs) × (new.moved ≡ old.moved)
Places xs old new (places.InLine line) = (line.items ≡ xs) × (new ≡ old)

-- The values before an offset, at which a value begins or the section ends, were moved.
pub record IsMovedTo (tiles : List Tile) (section : List ℕ) (at : ℕ) (moved : MovedSection) : Type 0 where
  pub now : List Tile
  pub are : AreTiles now moved.bytes.items
  pub placed : ArePlaced section moved.moved.items now moved.bytes.items
  pub only : (u : Tile) → IsTile u now → ComesFrom tiles moved u
  pub starts : (from : ℕ) (place : Place) → HasPlace moved.moved.items from place → is_start tiles from ≡ true
  pub before : (from : ℕ) (place : Place) → HasPlace moved.moved.items from place → from < at
  pub one : (from : ℕ) (p q : Place) → HasPlace moved.moved.items from p → HasPlace moved.moved.items from q → p ≡ q
  pub ordered : AreInOrder moved.moved.items
  pub next : (is_start tiles at ≡ true) ⊎ (at ≡ length section)

abbrev pub IsMovedBefore : List ℕ → ℕ → MovedSection → Type 0
IsMovedBefore section at moved = (tiles : List Tile) → AreTiles tiles section → IsMovedTo tiles section at moved

-- so were now those before another
abbrev pub TakesValue : List ℕ → ℕ → MovedSection → MovedSection → ℕ → Type 0
TakesValue section at old new end = at < length section → IsMovedBefore section at old → IsMovedBefore section end new
