-- What contracts of private functions and proofs name.
use Rattle.std.specs.Prelude.{◌≡◌, List, ◌++◌}
use Rattle.json.specs.Token.{Token}
use Rattle.json.specs.Json.{Json}
use Rattle.json.specs.Tree.{json_tokens}
use Rattle.mmdb_format.specs.Contents.{Scalar}
use Rattle.mmdb_json.specs.Shown.{ShowsScalar}

-- the same of a value that holds no other
abbrev pub WritesScalar : Scalar → List Token → List Token → Type 0
WritesScalar c old new = (j : Json) × ShowsScalar c j × (new ≡ old ++ json_tokens j)
