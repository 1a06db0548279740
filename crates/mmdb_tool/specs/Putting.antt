-- What a sink holds after a text was put.
use Rattle.std.specs.Prelude.{◌≡◌, ℕ, List, ◌++◌, Option, Result, Ok, Err}
use Rattle.std.specs.Io.KnownBytes.{Appends}
use Rattle.mmdb_tool.specs.declared.sink.Fault.{Fault}
use Rattle.mmdb_tool.specs.declared.sink.Fault.TheVariants.{Free, Failed, Stalled}
use Rattle.mmdb_tool.specs.declared.sink.PutError.{PutError}
use Rattle.mmdb_tool.specs.declared.sink.PutError.TheVariants.{Write, Stopped}

-- known bytes grow by a beginning of the text
pub record AppendsFront (old new : Option (List ℕ)) (text : List ℕ) : Type 0 where
  pub front : List ℕ
  pub rest : List ℕ
  pub is_front : text ≡ front ++ rest
  pub appended : Appends old new front

-- a sink that came without a fault has the one that the answer names
abbrev pub TellsFault : {T : Type 0} → Fault → Fault → Result T PutError → Type 0
TellsFault old new (Ok _) = old ≡ Free → new ≡ Free
TellsFault old new (Err (Write _)) = old ≡ Free → new ≡ Failed
TellsFault old new (Err Stopped) = old ≡ Free → new ≡ Stalled
