use Rattle.std.proofs.Common.{◌≡◌, map, take}
use Rattle.mmdb_reader.specs.File.{data_section}
use Rattle.mmdb_query_forms.specs.Fitting.{ScratchFits}
use Rattle.mmdb_cmd_export.proofs.rows.RowTask.scratch_of.Given as goal

-- the sections so far
abbrev pub invariant-loop-asked : goal.invariant-loop-asked
invariant-loop-asked l = record {
  texts : l.scratch.texts.items ≡ map (λ d. data_section d.reader.now) (take l.asked-index l.databases);
  fits : ScratchFits l.self.columns.now l.scratch.texts.items l.scratch;
}
