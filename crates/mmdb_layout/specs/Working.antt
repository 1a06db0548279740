-- What contracts of private functions and proofs name.
use Rattle.std.specs.Prelude.{◌≡◌, ℕ, List, Bool, true, false}
use Rattle.std.specs.Str.Parse.{AllDigits}
use Rattle.mmdb_format.specs.Contents.{signed32, number16, number32, number64, number128}
use Rattle.mmdb_format.specs.Unfolding.{Tree, scalar, array, table}

-- a value is an array or a map
abbrev pub is_container : Tree → Bool
is_container (array _) = true
is_container (table _) = true
is_container _ = false

-- a value is a whole number by its type
abbrev pub is_whole : Tree → Bool
is_whole (scalar (signed32 _)) = true
is_whole (scalar (number16 _)) = true
is_whole (scalar (number32 _)) = true
is_whole (scalar (number64 _)) = true
is_whole (scalar (number128 _)) = true
is_whole _ = false

-- it is, and its JSON is digits alone
abbrev pub IsOfDigits : Tree → List ℕ → Type 0
IsOfDigits v json = (is_whole v ≡ true) × AllDigits 10 json
