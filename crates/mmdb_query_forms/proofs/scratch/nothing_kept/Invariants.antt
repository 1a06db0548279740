use Rattle.std.proofs.Common.{◌≡◌, length}
use Rattle.std.specs.List.{All}
use Rattle.mmdb_query_forms.specs.Kept.{KeepNone}
use Rattle.mmdb_query_forms.proofs.scratch.nothing_kept.Given as goal

abbrev pub invariant-loop : goal.invariant-loop
invariant-loop l = record {
  many : length l.kept.items ≡ l.counter;
  none : All (KeepNone l.count) l.kept.items;
}
