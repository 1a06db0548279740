use Rattle.std.proofs.Common.{◌≡◌, ℕ, ◌<◌, length, slice_index_or}
use Rattle.mmdb_tree.specs.declared.group.FoundLeaf.{FoundLeaf}
use Rattle.mmdb_reader.proofs.ManyLemmas.{Begins}
use Rattle.mmdb_reader.proofs.reader.Reader.walk_group.Given as goal

abbrev pub invariant-loop-i : goal.invariant-loop-i
invariant-loop-i g l = record {
  long : length l.leaves ≡ 64;
  done : (j : ℕ) (d : FoundLeaf) → j < l.i → Begins l.self l.addresses j (slice_index_or l.leaves j d);
}
