-- What is read along a path.
use Rattle.std.proofs.Common.{Option, Result, Ok, Err}
use Rattle.mmdb_format.specs.Unfolding.{Tree}
use Rattle.mmdb_format.specs.declared.error.MaxMindDbError.{MaxMindDbError}
use Rattle.mmdb_value.specs.declared.any_value.Value.{Value}
use Rattle.mmdb_query.specs.Reading.{IsReadAs}
use Rattle.mmdb_layout.specs.Reading.{IsReadAs as IsReadAlong}

-- what databases have is read as conditions read it
pub read_alike : (answer : Option (Option Tree)) (r : Result (Option Value) MaxMindDbError) → IsReadAs answer r → IsReadAlong answer r
read_alike answer (Ok value) is = is
read_alike answer (Err e) is = is
