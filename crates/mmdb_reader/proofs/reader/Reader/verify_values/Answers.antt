use Rattle.std.proofs.Common.{refl, ◌∙◌}
use Rattle.std.proofs.lemmas.Bool.{false≢true}
use Rattle.mmdb_check.specs.Checking.{CanAddAll, none}
use Rattle.mmdb_reader.specs.File.{data_section}
use Rattle.mmdb_tree.specs.Stops.{offsets}
use Rattle.mmdb_reader.specs.Stops.{stops}
use Rattle.mmdb_reader.proofs.WholeLemmas.{apart_from, values_checked}
use Rattle.mmdb_reader.proofs.reader.Reader.verify_values.Goals as goal

pub returns-in-Ok-clause-ok : goal.returns-in-Ok-clause-ok
returns-in-Ok-clause-ok g c =
    (values_checked c.args.self.now c.in_ok-checked.checked.section c.in_ok-checked.checked.good c.args.set.now (c.in_ok-checked.ensures.section ∙ c.data_section.ensures) c.in_ok-checked.ensures.none c.requires).0 (c.in-Ok.ensures.0 refl)

pub returns-clause-err : goal.returns-clause-err
returns-clause-err g c =
    let both = values_checked c.args.self.now c.in_ok-checked.checked.section c.in_ok-checked.checked.good c.args.set.now (c.in_ok-checked.ensures.section ∙ c.data_section.ensures) c.in_ok-checked.ensures.none c.requires in
    apart_from c.counted_from_start.result (CanAddAll (data_section c.args.self.now) none (offsets (stops c.args.self.now)) → ⊥) (λ w. false≢true (c.in-Err.ensures.1 (both.1 w)))
