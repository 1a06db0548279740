use Rattle.std.proofs.Common.{◌<◌, ◌*◌}
use Rattle.mmdb_offsets.proofs.Words.{NoneIn}
use Rattle.mmdb_offsets.proofs.offset_set.OffsetSet.next_from.Given as goal

abbrev pub invariant-loop-index : goal.invariant-loop-index
invariant-loop-index l = record {
  after : l.first < l.index * 64;
  none : NoneIn l.self-inside.words.items l.first (l.index * 64);
}
