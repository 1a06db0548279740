use Rattle.std.proofs.Common.{rules, ◌≡◌, [], ◌∷◌, ◌++◌, ap, ◌∙◌, sym, subst}
use Rattle.mmdb_reader.specs.File.{data_section}
use Rattle.mmdb_reader.specs.Enumeration.{database_walked}
use Rattle.mmdb_query_forms.specs.Fitting.{ScratchFits}
use Rattle.mmdb_cmd_export.proofs.rows.RowTask.write_one.Goals as goal

pub write-requires : goal.write-requires
write-requires g c =
    let walked : database_walked c.new-walk.result.within ≡ c.args.database.now = search rules in
    let section = c.data_section.ensures ∙ ap data_section (sym walked) in
    let columns = c.args.self.now.columns.now in
    let texts = c.in_ok-add_section.ensures.texts ∙ ap (λ t. t ++ c.data_section.result.now ∷ []) c.in_ok-scratch.ensures.texts ∙ ap (λ s. s ∷ []) section in
    subst (λ s. ScratchFits columns s c.add_section.new.self) texts (c.in_ok-add_section.ensures.fits columns [] (c.in_ok-scratch.ensures.fits []))
