use Rattle.std.proofs.Common.{◌≡◌}
use Rattle.std.specs.List.{All, sum_by}
use Rattle.std.specs.Vec.{vec_len}
use Rattle.mmdb_cmd_enrich.specs.Kept.{heap_at}
use Rattle.mmdb_cmd_enrich.proofs.KeptLaws.{IsEmptyPlace}
use Rattle.mmdb_cmd_enrich.proofs.cache.AddedCache.new.Given as goal

abbrev pub invariant-loop : goal.invariant-loop
invariant-loop l = record {
  empty : All IsEmptyPlace l.buckets.items;
  count : vec_len l.buckets ≡ l.counter;
  heap : sum_by heap_at l.buckets.items ≡ 0;
}
