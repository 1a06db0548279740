use Rattle.mmdb_cache.specs.Table.{IsKnownOr, AreKnownOr}
use Rattle.mmdb_cache.proofs.table.put_from.Given as goal

-- all that is kept, and what moves on, was kept before or is what is put
abbrev pub invariant-loop-place : goal.invariant-loop-place
invariant-loop-place g l = record {
  kept : AreKnownOr l.put l.fn.kept l.kept;
  moved : IsKnownOr l.put l.fn.kept l.moved;
}
