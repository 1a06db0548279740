-- Ranges of addresses, sets of addresses that are made of them, and the addresses that a list has.
use Rattle.std.specs.Prelude.{ℕ, ◌≤◌, ◌⊎◌, List, [], ◌∷◌}
use Rattle.mmdb_blocks.specs.declared.ranges.BlockRange.{BlockRange}

-- from the first address to the last one, both with it
abbrev pub IsOfRange : ℕ → BlockRange → Type 0
IsOfRange address range = (range.first ≤ address) × (address ≤ range.last)

-- the address is in a range of the list
abbrev pub IsAmong : ℕ → List BlockRange → Type 0
IsAmong address [] = ⊥
IsAmong address (range ∷ ranges) = IsOfRange address range ⊎ IsAmong address ranges

-- a list has the addresses that are chosen or in `also`, less those in `except`
abbrev pub IsListed : ℕ → List BlockRange → List BlockRange → List BlockRange → Type 0
IsListed address chosen also except = (IsAmong address chosen ⊎ IsAmong address also) × ¬ IsAmong address except
