use Rattle.std.proofs.Common.{◌≡◌, ℕ, ◌<◌, length, slice_index_or}
use Rattle.mmdb_tree.specs.declared.group.FoundLeaf.{FoundLeaf}
use Rattle.mmdb_c.specs.declared.many.Address.{Address}
use Rattle.mmdb_c.specs.Working.{HasBegun}
use Rattle.mmdb_c.proofs.db.Db.begin_all.Given as goal

abbrev pub invariant-loop-i : goal.invariant-loop-i
invariant-loop-i l = record {
  long : length l.leaves ≡ 64;
  done : (j : ℕ) (d : FoundLeaf) → j < l.i → (a : Address) → HasBegun l.self.file.now l.self.facts (slice_index_or l.addresses j a) (slice_index_or l.leaves j d);
}
