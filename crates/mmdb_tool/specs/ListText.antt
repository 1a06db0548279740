-- What a list writes to a sink.
use Rattle.std.specs.Prelude.{◌≡◌, ◌≤◌, ◌⊎◌, ℕ, List, length, Option, Result, Ok, Err}
use Rattle.std.specs.Io.KnownBytes.{Appends}
use Rattle.mmdb_format.specs.Error.{OfInput, OfMemory, kind_of}
use Rattle.mmdb_net.specs.declared.network.IpNetwork.{IpNetwork}
use Rattle.mmdb_reader.specs.File.{Database}
use Rattle.mmdb_reader.specs.Items.{items_of}
use Rattle.mmdb_reader.specs.Listing.{Listed, IsListing}
use Rattle.mmdb_reader.specs.Shown.{block_in}
use Rattle.mmdb_reader.specs.declared.options.WithinOptions.{WithinOptions}
use Rattle.mmdb_tool.specs.Lines.{lines_of}
use Rattle.mmdb_tool.specs.Putting.{AppendsFront}
use Rattle.mmdb_tool.specs.declared.sink.Fault.{Fault}
use Rattle.mmdb_tool.specs.declared.sink.Fault.TheVariants.{Free, Failed, Stalled}
use Rattle.mmdb_tool.specs.declared.list.ListError.{ListError}
use Rattle.mmdb_tool.specs.declared.list.ListError.TheVariants.{Database as database_error, Write, Stopped}

-- known bytes grow by the lines of the list of a range
pub record WritesList (db : Database) (options : WithinOptions) (range : IpNetwork) (old new : Option (List ℕ)) : Type 0 where
  pub list : List Listed
  pub is_listing : IsListing db options (block_in db range) list
  pub written : Appends old new (lines_of db (items_of db list))

-- known bytes grow by a beginning of those lines
pub record BeginsList (db : Database) (options : WithinOptions) (range : IpNetwork) (old new : Option (List ℕ)) : Type 0 where
  pub list : List Listed
  pub is_listing : IsListing db options (block_in db range) list
  pub written : AppendsFront old new (lines_of db (items_of db list))

-- The lines are put in chunks of at least this many bytes, but the last.
abbrev pub chunk_bytes : ℕ
chunk_bytes = 65472

-- known bytes grow by a beginning of those lines, of at least a chunk
pub record HasPutChunk (db : Database) (options : WithinOptions) (range : IpNetwork) (old new : Option (List ℕ)) : Type 0 where
  pub begun : BeginsList db options range old new
  pub chunk : chunk_bytes ≤ length begun.written.front

-- the database is named, and this holds; or it is not named
abbrev pub IfDatabase : {T : Type 0} → Result T ListError → Type 0 → Type 0
IfDatabase (Ok _) P = Unit {0}
IfDatabase (Err (database_error error)) P = P
IfDatabase (Err (Write error)) P = Unit {0}
IfDatabase (Err Stopped) P = Unit {0}

-- what makes a list fail: its range, memory, or the sink
abbrev pub IsOfRange : {T : Type 0} → Result T ListError → Type 0
IsOfRange (Ok _) = ⊥
IsOfRange (Err (database_error error)) = kind_of error ≡ OfInput
IsOfRange (Err (Write error)) = ⊥
IsOfRange (Err Stopped) = ⊥

-- the database is named for its range or for memory alone
abbrev pub NamesRangeOrMemory : {T : Type 0} → Result T ListError → Type 0
NamesRangeOrMemory (Ok _) = Unit {0}
NamesRangeOrMemory (Err (database_error error)) = (kind_of error ≡ OfInput) ⊎ (kind_of error ≡ OfMemory)
NamesRangeOrMemory (Err (Write error)) = Unit {0}
NamesRangeOrMemory (Err Stopped) = Unit {0}

-- a sink that came without a fault has the one that the answer names
abbrev pub TellsListFault : {T : Type 0} → Fault → Fault → Result T ListError → Type 0
TellsListFault old new (Ok _) = old ≡ Free → new ≡ Free
TellsListFault old new (Err (database_error _)) = old ≡ Free → new ≡ Free
TellsListFault old new (Err (Write _)) = old ≡ Free → new ≡ Failed
TellsListFault old new (Err Stopped) = old ≡ Free → new ≡ Stalled
