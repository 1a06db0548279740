-- Which values were added to a section, and where they begin: each at one offset, and so each is written once.
use Rattle.std.specs.Prelude.{◌≡◌, ℕ, List, [], ◌∷◌, Some}
use Rattle.std.specs.List.{AllByRecursion}
use Rattle.mmdb_format.specs.Unfolding.{Tree, scalar, array, table, pointer, Trees, no_trees, tree, Pairs, no_pairs, pair, without_pointers}
use Rattle.mmdb_section.specs.declared.value.Number.{Number as SpecNumber}
use Rattle.mmdb_section.specs.declared.value.SectionPart.{SectionPart}
use Rattle.mmdb_section.specs.declared.value.SectionPart.TheVariants.{Number, At}
use Rattle.mmdb_section.specs.Sections.{Tile, IsTile, SectionView, start_of, Shape, plain, elements, entries, scalar_of, IsSection}

abbrev pub IsNumber : Tree → Type 0
IsNumber v = (n : SpecNumber) × (v ≡ scalar (scalar_of n))

-- a number is in its place, and any other value where it begins
abbrev pub IsDirect : Tree → (ℕ → Type 0) → SectionPart → Type 0
IsDirect v Begins (Number n) = v ≡ scalar (scalar_of n)
IsDirect v Begins (At offset) = Begins offset × ¬ IsNumber v

-- The tree was added, its parts too, and begins at the offset.
abbrev mutual
  pub IsKnown : SectionView → Tree → ℕ → Type 0
  IsKnown section (scalar c) offset = start_of section (plain c) ≡ Some offset
  IsKnown section (array vs) offset = (parts : List SectionPart) × AreKnown section vs parts × (start_of section (elements parts) ≡ Some offset)
  IsKnown section (table vs) offset = (pairs : List (SectionPart × SectionPart)) × PairsAreKnown section vs pairs × (start_of section (entries pairs) ≡ Some offset)
  IsKnown section (pointer a v) offset = ⊥

  pub AreKnown : SectionView → Trees → List SectionPart → Type 0
  AreKnown section no_trees [] = Unit {0}
  AreKnown section no_trees (p ∷ ps) = ⊥
  AreKnown section (tree v vs) [] = ⊥
  AreKnown section (tree v vs) (p ∷ ps) = IsDirect v (λ offset. IsKnown section v offset) p × AreKnown section vs ps

  pub PairsAreKnown : SectionView → Pairs → List (SectionPart × SectionPart) → Type 0
  PairsAreKnown section no_pairs [] = Unit {0}
  PairsAreKnown section no_pairs (p ∷ ps) = ⊥
  PairsAreKnown section (pair k v vs) [] = ⊥
  PairsAreKnown section (pair k v vs) (p ∷ ps) =
      IsDirect k (λ offset. IsKnown section k offset) p.0 × IsDirect v (λ offset. IsKnown section v offset) p.1 × PairsAreKnown section vs ps

abbrev pub IsKnownPart : SectionView → Tree → SectionPart → Type 0
IsKnownPart section v part = IsDirect v (λ offset. IsKnown section v offset) part

-- what the one knows, the other knows too
abbrev pub KnowsAll : SectionView → SectionView → Type 0
KnowsAll old new = (shape : Shape) (offset : ℕ) → start_of old shape ≡ Some offset → start_of new shape ≡ Some offset

-- the value of the section is known where it begins
abbrev pub IsKnownTile : SectionView → Tile → Type 0
IsKnownTile section t = IsKnown section (without_pointers t.tree) t.start

-- The section has these values, and each is known where it begins.
pub record HasEachOnce (tiles : List Tile) (section : SectionView) : Type 0 where
  pub has : IsSection tiles section
  pub each : AllByRecursion (IsKnownTile section) tiles

-- A value is known at one offset.
abbrev pub KnownAtOneOffset : Type 0
KnownAtOneOffset = (section : SectionView) (v : Tree) (one other : ℕ) → IsKnown section v one → IsKnown section v other → one ≡ other

-- Of such a section no two values are the same, pointers dropped.
abbrev pub NoneStandsTwice : Type 0
NoneStandsTwice = (tiles : List Tile) (section : SectionView) (t u : Tile) → HasEachOnce tiles section → IsTile t tiles → IsTile u tiles
    → without_pointers t.tree ≡ without_pointers u.tree → t.start ≡ u.start
