-- What a check says of a section that was made.
use Rattle.std.specs.Prelude.{ℕ, ◌*◌, ◌≤◌, List, map}
use Rattle.std.specs.List.{AllByRecursion}
use Rattle.mmdb_format.specs.Unfolding.{levels, without_pointers}
use Rattle.mmdb_check.specs.Checking.{most_checked_levels, none, CanAddAll}
use Rattle.mmdb_section.specs.Sections.{Tile, IsTile, AreTiles}

-- a value of the section that is not too deep
abbrev pub IsShallow : List Tile → Tile → Type 0
IsShallow tiles t = IsTile t tiles × (levels t.tree ≤ most_checked_levels)

-- A value of a section is with its pointers at most twice as deep as without.
abbrev pub AtMostTwiceAsDeep : Type 0
AtMostTwiceAsDeep = (tiles : List Tile) (bytes : List ℕ) (t : Tile) → AreTiles tiles bytes → IsTile t tiles → levels t.tree ≤ 2 * levels (without_pointers t.tree)

-- Any values of a section, if none is too deep, can be found good together: what they reach keeps the allowance.
abbrev pub SectionsAreGood : Type 0
SectionsAreGood = (tiles : List Tile) (bytes : List ℕ) (ts : List Tile) → AreTiles tiles bytes → AllByRecursion (IsShallow tiles) ts
    → CanAddAll bytes none (map (λ t. t.start) ts)
