-- What is wanted of records: what a template adds of these databases. Records are known by the number of their offsets.
use Rattle.std.specs.Prelude.{◌≡◌, ℕ, List, Option, Some, None}
use Rattle.mmdb_net.specs.declared.network.IpNetwork.{IpNetwork}
use Rattle.mmdb_reader.specs.File.{Database}
use Rattle.mmdb_filter.specs.declared.counts.Outcome.{Outcome}
use Rattle.mmdb_cmd_enrich.specs.Added.{AddsAt}
use Rattle.mmdb_cmd_enrich.specs.Layers.{IsKey, IsFirstKey}
use Rattle.mmdb_cmd_enrich.specs.Template.{Template}
use Rattle.mmdb_cmd_enrich.specs.declared.cache.KeptBy.{KeptBy}
use Rattle.mmdb_cmd_enrich.specs.declared.cache.KeptBy.TheVariants.{Nothing, All, First}

pub record Wanted : Type 0 where
  pub template : Template
  pub databases : List Database

-- records have the number by which something is kept: all of them, or the first of them, whichever the others are
abbrev pub IsOf : List Database → List (Option ℕ) → KeptBy → Type 0
IsOf dbs offsets Nothing = ⊥
IsOf dbs offsets (All key) = IsKey dbs offsets key
IsOf dbs offsets (First key) = IsFirstKey offsets key

-- what is added for the records by whose number it is kept, in whichever network
abbrev pub AddsOf : Wanted → KeptBy → List ℕ → Outcome → Type 0
AddsOf wanted by text outcome =
    (shown : Option IpNetwork) (offsets : List (Option ℕ)) → IsOf wanted.databases offsets by → AddsAt wanted.template wanted.databases shown offsets text outcome

-- what is kept by the number of all records, where there is one
abbrev pub IsKeptByAll : Option ℕ → KeptBy → Type 0
IsKeptByAll None by = by ≡ Nothing
IsKeptByAll (Some key) by = by ≡ All key
