-- What contracts of private functions and proofs name.
use Rattle.std.specs.Prelude.{◌≡◌, ℕ, ◌+◌, ◌≤◌, nat_eq, Bool, ◌||◌, [], length, slice_index, if◌then◌else◌}
use Rattle.std.specs.Set.{is_member}
use Rattle.std.specs.List.{IsDistinct}
use Rattle.mmdb_format.specs.declared.error.MaxMindDbError.TheVariants.{Memory}
use Rattle.mmdb_reader.specs.File.{Database}
use Rattle.mmdb_reader.specs.Items.{Item}
use Rattle.mmdb_report.specs.Counts.{is_ipv4_of, is_ipv6_of, is_without_data, is_fault, offsets_at}
use Rattle.mmdb_report.specs.Reports.{most_items}
use Rattle.mmdb_report.specs.declared.report.Report.{Report}
use Rattle.mmdb_report.specs.declared.report.ReportError.{ReportError}
use Rattle.mmdb_report.specs.declared.report.ReportError.TheVariants.{Database as database_error, TooMany}
use Rattle.mmdb_report.specs.declared.tally.Tally.{Tally}

-- the offsets have this one
abbrev pub has_offset : Tally → ℕ → Bool
has_offset tally offset = is_member nat_eq tally.offsets.keys offset

-- nothing was counted
pub record IsEmpty (tally : Tally) : Type 0 where
  pub items : tally.items ≡ 0
  pub ipv4 : (prefix : ℕ) → slice_index tally.by_prefix_v4 prefix ≡ 0
  pub ipv6 : (prefix : ℕ) → slice_index tally.by_prefix_v6 prefix ≡ 0
  pub without_data : tally.without_data ≡ 0
  pub faults : tally.faults ≡ 0
  pub offsets : tally.offsets.keys ≡ []

abbrev pub one_if : Bool → ℕ
one_if counted = if counted then 1 else 0

-- one more item was counted
pub record Adds (db : Database) (item : Item) (old new : Tally) : Type 0 where
  pub items : new.items ≡ old.items + 1
  pub ipv4 : (prefix : ℕ) → prefix ≤ 32 → slice_index new.by_prefix_v4 prefix ≡ slice_index old.by_prefix_v4 prefix + one_if (is_ipv4_of db prefix item)
  pub ipv6 : (prefix : ℕ) → prefix ≤ 128 → slice_index new.by_prefix_v6 prefix ≡ slice_index old.by_prefix_v6 prefix + one_if (is_ipv6_of prefix item)
  pub without_data : new.without_data ≡ old.without_data + one_if (is_without_data item)
  pub faults : new.faults ≡ old.faults + one_if (is_fault item)
  pub offsets : (offset : ℕ) → has_offset new offset ≡ (has_offset old offset || is_member nat_eq (offsets_at item) offset)

-- no further item fits, or there was no memory
abbrev pub IsFullOrMemory : Tally → ReportError → Type 0
IsFullOrMemory tally TooMany = tally.items ≡ most_items
IsFullOrMemory tally (database_error error) = error ≡ Memory

-- the report has what was counted
pub record Makes (tally : Tally) (report : Report) : Type 0 where
  pub items : tally.items ≤ most_items
  pub ipv4 : report.by_prefix_v4 ≡ tally.by_prefix_v4
  pub ipv6 : report.by_prefix_v6 ≡ tally.by_prefix_v6
  pub without_data : report.without_data ≡ tally.without_data
  pub faults : report.faults ≡ tally.faults
  pub offsets : (report.distinct_offsets ≡ length tally.offsets.keys) × IsDistinct nat_eq tally.offsets.keys
