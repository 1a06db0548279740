use Rattle.std.proofs.Common.{◌≡◌}
use Rattle.mmdb_query_forms.proofs.scratch.ColumnScratch.clear_texts.Given as goal

abbrev pub invariant-loop-place : goal.invariant-loop-place
invariant-loop-place l = (l.self.texts.items ≡ l.fn.self.texts.items) × (l.self.kept.items ≡ l.fn.self.kept.items)
