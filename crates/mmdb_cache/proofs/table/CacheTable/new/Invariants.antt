use Rattle.std.specs.List.{All}
use Rattle.mmdb_cache.specs.Table.{IsKnown}
use Rattle.mmdb_cache.proofs.table.CacheTable.new.Given as goal

abbrev pub invariant-loop : goal.invariant-loop
invariant-loop g l = All (IsKnown l.known) l.kept.items

abbrev pub invariant-loop-2 : goal.invariant-loop-2
invariant-loop-2 g l = All (IsKnown l.known) l.kept.items
