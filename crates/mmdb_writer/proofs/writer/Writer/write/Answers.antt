use Rattle.std.proofs.Common.{List, ℕ, sym, subst}
use Rattle.mmdb_writer.specs.Layout.{IsLaidOut}
use Rattle.mmdb_writer.proofs.MakingLemmas.{written_if, large_if, not_meant_if}
use Rattle.mmdb_writer.proofs.writer.Writer.write.Goals as goal
use Rattle.mmdb_writer.proofs.writer.Writer.write.Goals.{After-drop-options-4}

-- what was laid out
laid_out : (c : After-drop-options-4) → IsLaidOut c.args.self.section.bytes c.args.self.offsets.items c.args.self.entries.items c.deref-2.result.now c.lay_out.new.entries.items
laid_out c =
    subst (λ (b : List ℕ). IsLaidOut c.args.self.section.bytes c.args.self.offsets.items c.args.self.entries.items b c.lay_out.new.entries.items) (sym c.deref-2.ensures.value)
    (subst (λ (os : List ℕ). IsLaidOut c.args.self.section.bytes os c.args.self.entries.items c.in_ok-bytes.bytes.items c.lay_out.new.entries.items) c.deref.ensures.value c.in_ok-bytes.ensures)

pub returns-clause-written : goal.returns-clause-written
returns-clause-written c = written_if c.args.self c.deref-2.result.now c.lay_out.new.entries.items c.write_file.result (laid_out c) c.write_file.ensures.ok

pub returns-clause-too_large : goal.returns-clause-too_large
returns-clause-too_large c = large_if c.args.self c.deref-2.result.now c.lay_out.new.entries.items c.write_file.result (laid_out c) c.write_file.ensures.too_large

pub returns-clause-not_meant : goal.returns-clause-not_meant
returns-clause-not_meant c = not_meant_if c.args.self c.deref-2.result.now c.lay_out.new.entries.items c.write_file.result (laid_out c) c.write_file.ensures.not_meant
