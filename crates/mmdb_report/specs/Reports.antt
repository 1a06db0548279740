-- What a report says of the list of a range, and what makes one fail.
use Rattle.std.specs.Prelude.{◌≡◌, ◌⊎◌, ℕ, ◌<◌, ◌≤◌, List, length, Result, Ok, Err}
use Rattle.mmdb_format.specs.Error.{OfInput, OfMemory, kind_of}
use Rattle.mmdb_net.specs.declared.network.IpNetwork.{IpNetwork}
use Rattle.mmdb_reader.specs.File.{Database}
use Rattle.mmdb_reader.specs.Items.{items_of}
use Rattle.mmdb_reader.specs.Listing.{Listed, IsListing}
use Rattle.mmdb_reader.specs.Shown.{block_in}
use Rattle.mmdb_reader.specs.declared.options.WithinOptions.{WithinOptions}
use Rattle.mmdb_report.specs.Counts.{Counts}
use Rattle.mmdb_report.specs.declared.report.Report.{Report}
use Rattle.mmdb_report.specs.declared.report.ReportError.{ReportError}
use Rattle.mmdb_report.specs.declared.report.ReportError.TheVariants.{Database as database_error, TooMany}

-- how many items a report counts at most
abbrev pub most_items : ℕ
most_items = 4294967295

-- The report has the counts of the list of a range, which has no more items than that.
pub record ReportsOn (db : Database) (options : WithinOptions) (range : IpNetwork) (report : Report) : Type 0 where
  pub list : List Listed
  pub is_listing : IsListing db options (block_in db range) list
  pub fits : length list ≤ most_items
  pub counts : Counts db (items_of db list) report

-- The list of a range has more items.
pub record HasTooMany (db : Database) (options : WithinOptions) (range : IpNetwork) : Type 0 where
  pub list : List Listed
  pub is_listing : IsListing db options (block_in db range) list
  pub exceeds : most_items < length list

-- what makes a report fail: its range, memory, or too many items
abbrev pub IsOfRange : {T : Type 0} → Result T ReportError → Type 0
IsOfRange (Ok _) = ⊥
IsOfRange (Err (database_error error)) = kind_of error ≡ OfInput
IsOfRange (Err TooMany) = ⊥

-- the database is named for its range or for memory alone
abbrev pub NamesRangeOrMemory : {T : Type 0} → Result T ReportError → Type 0
NamesRangeOrMemory (Ok _) = Unit {0}
NamesRangeOrMemory (Err (database_error error)) = (kind_of error ≡ OfInput) ⊎ (kind_of error ≡ OfMemory)
NamesRangeOrMemory (Err TooMany) = Unit {0}
