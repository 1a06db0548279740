-- Cells of CSV.
use Rattle.std.specs.Prelude.{ℕ, List, [], ◌∷◌, ◌++◌, Bool, false, ◌||◌, ◌==◌, if◌then◌else◌}

-- a cell of CSV is quoted where it has the delimiter, a quote or a line break
unfoldable pub is_special : ℕ → List ℕ → Bool
is_special delimiter [] = false
is_special delimiter (x ∷ xs) = (x == delimiter) || (x == 34) || (x == 10) || (x == 13) || is_special delimiter xs

-- each quote twice
unfoldable pub doubled : List ℕ → List ℕ
doubled [] = []
doubled (x ∷ xs) = if x == 34 then 34 ∷ (34 ∷ doubled xs) else x ∷ doubled xs

abbrev pub csv_cell : ℕ → List ℕ → List ℕ
csv_cell delimiter value = if is_special delimiter value then 34 ∷ (doubled value ++ (34 ∷ [])) else value
