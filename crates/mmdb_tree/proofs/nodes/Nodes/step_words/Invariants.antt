use Rattle.std.proofs.Common.{◌≡◌, ◌≤◌, ℕ, List, Bool, length, slice_index}
use Rattle.mmdb_tree.specs.Tree.{search_tree}
use Rattle.mmdb_tree.specs.Working.{AllWalkOn, BeginsWith}
use Rattle.mmdb_tree.proofs.nodes.Nodes.step_words.Given as goal

abbrev pub invariant-loop-j : goal.invariant-loop-j
invariant-loop-j l =
    let tree = search_tree l.self.bytes.now l.self.node_count l.self.record_size in
    record {
      few : l.kept ≤ l.j;
      long : length l.leaves ≡ 64;
      goes : AllWalkOn (λ (i : ℕ) (bits : List Bool). BeginsWith (slice_index l.words i) bits) tree l.fn.leaves l.leaves;
    }
