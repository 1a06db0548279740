use Rattle.std.proofs.Common.{◌+◌, refl}
use Rattle.std.proofs.lemmas.List.{take_rest}
use Rattle.std.proofs.lemmas.Result.{err_from_is_err_and, IfErr-weaker}
use Rattle.mmdb_reader.proofs.Sources.{apart, apart_from_reading, no_marker, no_metadata, not_accepted}
use Rattle.mmdb_reader.specs.Metadata.{metadata_datum}
use Rattle.mmdb_reader.proofs.file_layout.FileLayout.of.Goals as goal

pub returns-in_default-clause-rejected : goal.returns-in_default-clause-rejected
returns-in_default-clause-rejected c = no_marker _ _ refl c.in_default.ensures

pub returns-in_err-metadata-clause-rejected : goal.returns-in_err-metadata-clause-rejected
returns-in_err-metadata-clause-rejected c =
    let p = err_from_is_err_and c.from_residual.result c.from_residual.ensures.1 in
    rw (p.1, p.2) (apart_from_reading c.in_err-metadata.field-0.0 _ _ (no_metadata _ _ c.in-Some.marker _ refl c.in-Some.ensures (take_rest c.args.file.now (c.in-Some.marker + 14))) c.in_err-metadata.ensures.err)

pub returns-clause-rejected : goal.returns-clause-rejected
returns-clause-rejected c =
    IfErr-weaker c.from_parts.result _ _
    (λ e. apart e _ _ (λ rejected. not_accepted _ _ c.in-Some.marker _ (metadata_datum c.in_ok-metadata.metadata) refl c.in-Some.ensures (take_rest c.args.file.now (c.in-Some.marker + 14)) c.in_ok-metadata.ensures.ok rejected.1))
    c.from_parts.ensures.rejected
