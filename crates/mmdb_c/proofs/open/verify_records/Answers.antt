use Rattle.std.proofs.Common.{◌≡◌, subst}
use Rattle.std.proofs.lemmas.Result.{IfErr-weaker}
use Rattle.mmdb_reader.specs.Whole.{IsWhole, HasReadableRecords}
use Rattle.mmdb_c.specs.Opened.{IsReadableFile}
use Rattle.mmdb_c.proofs.OpenedLemmas.{apart-map}
use Rattle.mmdb_c.proofs.open.verify_records.Goals as goal

pub returns-clause-not_readable : goal.returns-clause-not_readable
returns-clause-not_readable c =
    let database = c.in_ok-reader.reader in
    IfErr-weaker c.verify_records.result _ _
    (λ e rejected. apart-map (IsWhole database → ¬ HasReadableRecords database) (¬ IsReadableFile c.args.file.now) e
    (λ no file.
    let same : file.db ≡ database = c.source_decides.ensures c.args.file.now file.db database file.is c.in_ok-reader.ensures.accepted in
    no (subst IsWhole same file.whole) (subst HasReadableRecords same file.readable)) rejected)
    c.verify_records.ensures.rejected
