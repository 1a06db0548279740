use Rattle.std.proofs.Common.{rules, ◌≡◌, ℕ, ◌-◌, ◌≤◌, List, length, drop, ap, sym, ◌∙◌, subst, arith, length-drop}
use Rattle.std.proofs.lemmas.List.{length-take-le}
use Rattle.mmdb_format.specs.Error.{MemoryApart}
use Rattle.mmdb_reader.specs.File.{Database, data_start, data_section, data_length}
use Rattle.mmdb_reader.specs.Source.{IsDatabaseOf}
use Rattle.mmdb_reader.specs.Whole.{IsWhole}
use Rattle.mmdb_reader.proofs.Sources.{apart, one_database}
use Rattle.mmdb_writer.specs.Making.{IsCertified}
use Rattle.mmdb_writer.proofs.certify.certify.Goals as goal
use Rattle.mmdb_writer.proofs.certify.certify.Goals.{then-not-is_as_asked-via-then-not-is_as_asked, then-not-is_as_asked-via-else-not-is_as_asked+then-data_section-data_len}

section_length : (file : List ℕ) (db : Database) → IsDatabaseOf file db → length (data_section db) ≡ data_length db
section_length file db of =
    let ends = of.marker.stands.fits in
    let start : length (drop (data_start db) db.bytes) ≡ length db.bytes - data_start db = length-drop (data_start db) db.bytes in
    let same : length db.bytes ≡ length file = ap length of.bytes in
    let room : db.marker - data_start db ≤ length (drop (data_start db) db.bytes) = omega arith in
    length-take-le (db.marker - data_start db) (drop (data_start db) db.bytes) room

pub returns-then-not-is_as_asked-clause-rejected : goal.returns-then-not-is_as_asked-clause-rejected
returns-then-not-is_as_asked-clause-rejected c = λ is cert.
    let one : cert.db ≡ c.in_ok-reader.reader = one_database c.args.file.now cert.db c.in_ok-reader.reader cert.database c.in_ok-reader.ensures.accepted in
    elim c.then-not-is_as_asked.branch [
      | then-not-is_as_asked-via-then-not-is_as_asked w ↦
          let other = c.say_what_was_asked-is_as_asked.ensures.other (search rules) in
          other (c.metadata.ensures ∙ ap (λ (db : Database). db.metadata) (sym one) ∙ cert.metadata)
      | then-not-is_as_asked-via-else-not-is_as_asked+then-data_section-data_len w ↦
          let len : data_length c.in_ok-reader.reader ≡ length w.data_section.result.now = sym (ap length w.data_section.ensures ∙ section_length c.args.file.now c.in_ok-reader.reader c.in_ok-reader.ensures.accepted) in
          w.if-data_section-data_len.true (sym len ∙ ap data_length (sym one) ∙ cert.section_len)
    ]

pub returns-in_err-verify-clause-unread : goal.returns-in_err-verify-clause-unread
returns-in_err-verify-clause-unread c =
    let no : ¬ IsWhole c.in_ok-reader.reader → ¬ IsCertified c.args.file.now c.args.options.now c.args.tree.now c.args.data_len =
    λ not_whole cert. not_whole (subst IsWhole (one_database c.args.file.now cert.db c.in_ok-reader.reader cert.database c.in_ok-reader.ensures.accepted) cert.whole) in
    let unread : MemoryApart c.in_err-verify.field-0.0 (¬ IsCertified c.args.file.now c.args.options.now c.args.tree.now c.args.data_len) =
    apart c.in_err-verify.field-0.0 (¬ IsWhole c.in_ok-reader.reader) (¬ IsCertified c.args.file.now c.args.options.now c.args.tree.now c.args.data_len) no c.in_err-verify.ensures.rejected in
    search rules
