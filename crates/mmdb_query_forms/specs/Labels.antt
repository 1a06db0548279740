-- The names of members.
use Rattle.std.specs.Prelude.{ℕ, List, [], ◌∷◌, ◌++◌}
use Rattle.json.specs.Print.{quoted}

-- what comes before the value of a name in an object, behind other members: a comma, the name as JSON, and a colon
abbrev pub member_label : List ℕ → List ℕ
member_label name = 44 ∷ (quoted name ++ 58 ∷ [])
