-- The old and the new one of two databases.
use Rattle.std.specs.Prelude.{ℕ, zero, suc}
use Rattle.mmdb_compare.specs.declared.side.Side.{Side}
use Rattle.mmdb_compare.specs.declared.side.Side.TheVariants.{Old, New}

-- the place of a side's database, where the old one comes first
abbrev pub place_of : Side → ℕ
place_of Old = 0
place_of New = 1

-- the side of the database at a place
abbrev pub side_at : ℕ → Side
side_at zero = Old
side_at (suc n) = New
