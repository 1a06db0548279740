-- A section in which values that are used once stand in line, and what became of the values of the section that it was made from.
use Rattle.std.specs.Prelude.{◌≡◌, ℕ, List, Some, slice_get}
use Rattle.mmdb_format.specs.Unfolding.{without_pointers}
use Rattle.std.specs.List.Sorted.{IsNonDecreasingBy}
use Rattle.mmdb_section.specs.declared.moved.Moved.{Moved}
use Rattle.mmdb_section.specs.declared.moved.MovedSection.{MovedSection}
use Rattle.mmdb_section.specs.declared.moved.Place.{Place}
use Rattle.mmdb_section.specs.declared.moved.Place.TheVariants as places
use Rattle.mmdb_section.specs.declared.value.SectionPart.TheVariants.{At}
use Rattle.mmdb_section.specs.Sections.{Tile, IsTile, AreTiles, IsPart}

-- the value that began at an offset went to this place
abbrev pub HasPlace : List Moved → ℕ → Place → Type 0
HasPlace moved from place = (i : ℕ) × (slice_get moved i ≡ Some (record { from = from; place = place }))

-- it stands by itself, and begins at another offset now
abbrev pub MovesTo : MovedSection → ℕ → ℕ → Type 0
MovesTo moved from to = HasPlace moved.moved.items from (places.At to)

-- the value begins now where one of those values moved to, and is that one, pointers dropped
abbrev pub ComesFrom : List Tile → MovedSection → Tile → Type 0
ComesFrom tiles moved u = (t : Tile) × IsTile t tiles × MovesTo moved t.start u.start × (without_pointers u.tree ≡ without_pointers t.tree)

-- they are in the order in which they began
abbrev pub AreInOrder : List Moved → Type 0
AreInOrder moved = IsNonDecreasingBy (λ (m : Moved). m.from) moved

-- What moved are values of the section: each that stands by itself now is there, pointers dropped, and there are no others; each
-- went to one place.
pub record IsMoved (tiles : List Tile) (moved : MovedSection) : Type 0 where
  pub now : List Tile
  pub are : AreTiles now moved.bytes.items
  pub each : (from to : ℕ) → MovesTo moved from to → (t : Tile) × IsTile t tiles × (t.start ≡ from) × IsPart now (At to) (without_pointers t.tree)
  pub only : (u : Tile) → IsTile u now → ComesFrom tiles moved u
  pub one : (from : ℕ) (p q : Place) → HasPlace moved.moved.items from p → HasPlace moved.moved.items from q → p ≡ q
  pub ordered : AreInOrder moved.moved.items

-- no two of the values are the same, pointers dropped
abbrev pub NoneTwice : List Tile → Type 0
NoneTwice tiles = (t u : Tile) → IsTile t tiles → IsTile u tiles → without_pointers t.tree ≡ without_pointers u.tree → t.start ≡ u.start
