-- The number of records, by which something is kept that is made of them.
use Rattle.std.specs.Prelude.{◌≡◌, ◌<◌, ℕ, ◌+◌, ◌*◌, List, [], ◌∷◌, length, Option, Some, None}

-- the digit that says where a database has its record
abbrev pub digit_of : Option ℕ → ℕ
digit_of None = 0
digit_of (Some offset) = offset + 1

-- what a digit is below, by the data section
abbrev pub radix_of : List ℕ → ℕ
radix_of section = length section + 1

-- the number of the digits of all databases, the first one's the highest, after a number before them
abbrev pub IsKeyFrom : ℕ → List (List ℕ) → List (Option ℕ) → ℕ → Type 0
IsKeyFrom before [] [] key = key ≡ before
IsKeyFrom before [] (offset ∷ offsets) key = ⊥
IsKeyFrom before (section ∷ sections) [] key = ⊥
IsKeyFrom before (section ∷ sections) (offset ∷ offsets) key =
    (digit_of offset < radix_of section) × IsKeyFrom (before * radix_of section + digit_of offset) sections offsets key

-- The number of the records at these offsets of data sections. No others have the same. The first digit may be any.
abbrev pub IsKey : List (List ℕ) → List (Option ℕ) → ℕ → Type 0
IsKey [] [] key = key ≡ 0
IsKey [] (offset ∷ offsets) key = ⊥
IsKey (section ∷ sections) [] key = ⊥
IsKey (section ∷ sections) (offset ∷ offsets) key = IsKeyFrom (digit_of offset) sections offsets key
