-- The answers of several databases for an address.
use Rattle.std.specs.Prelude.{◌≡◌, ◌⊎◌, List, [], ◌∷◌, ◌++◌, ℕ, Bool, Option, Some, None, option_map, map}
use Rattle.std.specs.declared.net.ip_addr.IpAddr.{IpAddr}
use Rattle.mmdb_format.specs.Error.{MemoryApart}
use Rattle.mmdb_format.specs.declared.error.MaxMindDbError.{MaxMindDbError}
use Rattle.mmdb_value.specs.Values.{value_tree}
use Rattle.mmdb_reader.specs.File.{Database, data_section}
use Rattle.mmdb_reader.specs.Lookup.{Answers as AnswersAt, outcome_at}
use Rattle.mmdb_reader.specs.Shown.{ShowsAnswer}
use Rattle.mmdb_layout.specs.Asked.{Asks}
use Rattle.mmdb_layout.specs.Reading.{reads_in}
use Rattle.mmdb_cmd_show.specs.Asked.{Reads, IsPassed}
use Rattle.mmdb_cmd_show.specs.declared.answer.DatabaseAnswer.{DatabaseAnswer}
use Rattle.mmdb_cmd_show.specs.declared.databases.Answers.{Answers as AllAnswers}
use Rattle.mmdb_cmd_show.specs.declared.databases.ShownDatabase.{ShownDatabase}

-- the network and the record, if there is one, that a lookup of an address finds
pub record IsAnswer (db : Database) (address : IpAddr) (answer : DatabaseAnswer) : Type 0 where
  pub asked : IpAddr
  pub asks : Asks db address asked
  pub leaf : List Bool
  pub offset : Option ℕ
  pub answers : AnswersAt db asked leaf (outcome_at offset)
  pub network : ShowsAnswer db asked leaf answer.network
  pub record_read : reads_in (data_section db) offset [] ≡ Some (option_map value_tree answer.record)

-- a database has no answer: it is passed over, or unless memory ran out its lookup fails or its record can't be read
abbrev pub FailsWith : List ShownDatabase → Database → IpAddr → MaxMindDbError → Type 0
FailsWith all db address error = (¬ IsPassed all db address) × MemoryApart error (Reads db address [] None)

-- what comes of one of the databases: its answer; or none, and an error with its name unless it is passed over
abbrev pub Comes : List ShownDatabase → ShownDatabase → IpAddr → Option DatabaseAnswer → List (List ℕ × MaxMindDbError) → Type 0
Comes all shown address (Some answer) errors =
    (¬ IsPassed all shown.database.now address) × IsAnswer shown.database.now address answer × (errors ≡ [])
Comes all shown address None errors =
    (IsPassed all shown.database.now address × (errors ≡ []))
    ⊎ ((error : MaxMindDbError) × FailsWith all shown.database.now address error × (errors ≡ (shown.name.now, error) ∷ []))

-- That of each of the databases, in their order.
abbrev pub AreAnswers : List ShownDatabase → List ShownDatabase → IpAddr → List (Option DatabaseAnswer) → List (List ℕ × MaxMindDbError) → Type 0
AreAnswers all [] address [] errors = errors ≡ []
AreAnswers all [] address (answer ∷ answers) errors = ⊥
AreAnswers all (shown ∷ others) address [] errors = ⊥
AreAnswers all (shown ∷ others) address (answer ∷ answers) errors =
    (first rest : List (List ℕ × MaxMindDbError)) × Comes all shown address answer first
    × AreAnswers all others address answers rest × (errors ≡ first ++ rest)

-- the errors with the names of their databases
abbrev pub named_errors : AllAnswers → List (List ℕ × MaxMindDbError)
named_errors all = map (λ e. (e.0.now, e.1)) all.errors.items

-- that of one of the databases is added
abbrev pub AddsAnswer : List ShownDatabase → ShownDatabase → IpAddr → AllAnswers → AllAnswers → Type 0
AddsAnswer all shown address old new =
    (answer : Option DatabaseAnswer) × (errors : List (List ℕ × MaxMindDbError)) × Comes all shown address answer errors
    × (new.answers.items ≡ old.answers.items ++ answer ∷ []) × (named_errors new ≡ named_errors old ++ errors)
