use Rattle.std.proofs.Common.{◌≡◌, ℕ, ◌<◌, ◌≤◌, length, slice_index_or}
use Rattle.mmdb_tree.specs.declared.group.FoundLeaf.{FoundLeaf}
use Rattle.mmdb_tree.specs.Tree.{search_tree}
use Rattle.mmdb_tree.proofs.GroupLemmas.{Ends}
use Rattle.mmdb_tree.proofs.nodes.Nodes.finish_all.Given as goal

abbrev pub invariant-loop-i : goal.invariant-loop-i
invariant-loop-i l =
    let tree = search_tree l.self.bytes.now l.self.node_count l.self.record_size in
    record {
      was_long : length l.fn.leaves ≡ 64;
      long : length l.leaves ≡ 64;
      done : (j : ℕ) (d : FoundLeaf) → j < l.i → Ends tree l.addresses l.fn.leaves j (slice_index_or l.leaves j d);
      left : (j : ℕ) (d : FoundLeaf) → l.i ≤ j → slice_index_or l.leaves j d ≡ slice_index_or l.fn.leaves j d;
    }
