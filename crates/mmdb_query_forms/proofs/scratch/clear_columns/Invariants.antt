use Rattle.mmdb_query_forms.specs.Kept.{AreLeft}
use Rattle.mmdb_query_forms.proofs.scratch.clear_columns.Given as goal

abbrev pub invariant-loop-place : goal.invariant-loop-place
invariant-loop-place l = AreLeft l.fn.kept.items l.kept.items
