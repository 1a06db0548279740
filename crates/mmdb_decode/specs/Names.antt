-- The names of fields.
use Rattle.std.specs.Prelude.{ℕ, List, Bool}
use Rattle.std.specs.Str.{bytes_eq}

-- whether a name has these bytes
unfoldable pub named : List ℕ → List ℕ → Bool
named name text = bytes_eq name text
