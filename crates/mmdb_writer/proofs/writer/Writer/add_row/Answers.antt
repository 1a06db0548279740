use Rattle.std.proofs.Common.{rules, ◌≡◌, ℕ, List, length, refl, subst}
use Rattle.mmdb_writer.specs.Errors.{IsWrongRow}
use Rattle.mmdb_writer.specs.Making.{IsEntryOf}
use Rattle.mmdb_writer.proofs.MakingLemmas.{row_added, row_error}
use Rattle.mmdb_writer.proofs.writer.Writer.add_row.Goals as goal

pub returns-in_ok-push-in-Ok-clause-added : goal.returns-in_ok-push-in-Ok-clause-added
returns-in_ok-push-in-Ok-clause-added c = λ values rows options made.
    let is : IsEntryOf c.args.self.now.offsets.items c.args.row c.in-Ok.entry = subst (λ (os : List ℕ). IsEntryOf os c.args.row c.in-Ok.entry) c.deref.ensures.value c.in-Ok.ensures.ok in
    row_added values rows options c.args.self.now made c.args.row _ c.in-Ok.entry is refl refl refl c.in_ok-push-in-Ok.ensures.items

pub returns-in-Err-clause-explained : goal.returns-in-Err-clause-explained
returns-in-Err-clause-explained c =
    let wrong = subst (λ (os : List ℕ). IsWrongRow c.args.self.now.options.ip_version (length os) c.args.row c.in-Err.error) c.deref.ensures.value c.in-Err.ensures.err in
    let next : c.len.result ≡ length c.args.self.now.entries.items = search rules in
    row_error c.args.row c.args.self.now c.len.result c.in-Err.error next wrong
