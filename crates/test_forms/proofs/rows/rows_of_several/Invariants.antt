use Rattle.std.proofs.Common.{◌≡◌, map}
use Rattle.mmdb_reader.specs.File.{data_section}
use Rattle.test_forms.proofs.rows.rows_of_several.Given as goal

-- the sections are those of the databases that are asked
abbrev pub invariant-loop-reader : goal.invariant-loop-reader
invariant-loop-reader l = map (λ d. data_section d.reader.now) l.asked.items ≡ map (λ s. s.now) l.sections.items
