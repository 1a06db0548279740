use Rattle.std.proofs.Common.{◌≡◌, ◌+◌, ◌-◌, ◌∷◌, ◌++◌, []}
use Rattle.std.specs.Vec.{vec_capacity}
use Rattle.mmdb_reader.specs.Working.{ListsSame}
use Rattle.mmdb_reader.proofs.walked.DatabaseWalker.go_down.Given as goal

abbrev pub invariant-loop-position : goal.invariant-loop-position
invariant-loop-position g l = record {
  on : ListsSame l.self.reader.now l.fn.options (vec_capacity l.fn.stack) (l.fn.stack.items ++ l.fn.start ∷ []) (l.stack.items ++ l.position ∷ []);
  capacity : vec_capacity l.stack ≡ vec_capacity l.fn.stack;
}

abbrev pub decreases-loop-position : goal.decreases-loop-position
decreases-loop-position g l = l.self.tree.width + 1 - l.position.prefix
