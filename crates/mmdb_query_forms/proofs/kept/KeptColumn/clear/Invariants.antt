use Rattle.std.proofs.Common.{◌≡◌, ℕ, List, length}
use Rattle.mmdb_reader.specs.declared.path.PathElement.{PathElement}
use Rattle.mmdb_query_forms.specs.Kept.{AreAllKept}
use Rattle.mmdb_query_forms.specs.declared.columns.RowForm.{RowForm}
use Rattle.mmdb_query_forms.proofs.kept.KeptColumn.clear.Given as goal

abbrev pub invariant-loop-place : goal.invariant-loop-place
invariant-loop-place l = record {
  many : length l.self-inside.caches.items ≡ length l.fn.self;
  kept : (form : RowForm) (path : List PathElement) (sections : List (List ℕ)) → AreAllKept form path sections l.fn.self → AreAllKept form path sections l.self-inside.caches.items;
}
