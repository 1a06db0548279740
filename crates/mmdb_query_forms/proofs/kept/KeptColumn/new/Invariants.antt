use Rattle.std.proofs.Common.{◌≡◌, [], length}
use Rattle.std.specs.List.{All}
use Rattle.mmdb_query_forms.proofs.kept.KeptColumn.new.Given as goal

abbrev pub invariant-loop : goal.invariant-loop
invariant-loop l = record {
  many : length l.caches.items ≡ l.counter;
  none : All (λ kept. kept ≡ []) l.caches.items;
}
