use Rattle.std.proofs.Common.{◌≡◌, ◌+◌, ◌-◌, ◌*◌, ◌≤◌, [], ◌∷◌, ◌++◌, length, vec_len}
use Rattle.std.specs.Vec.{vec_capacity}
use Rattle.mmdb_offsets.specs.OffsetSet.{holds}
use Rattle.mmdb_tree.specs.Stops.{most_stops_of}
use Rattle.mmdb_tree.specs.Walked.{walked_by}
use Rattle.mmdb_tree.specs.Working.{IsStack}
use Rattle.mmdb_tree.proofs.Progress.{IsProgress}
use Rattle.mmdb_tree.proofs.walked.Walker.walk.Given as goal

-- Each turn puts one point on the stack, or counts one stop and takes one off: so the positions taken are
-- those on the stack and twice the stops.
abbrev pub invariant-loop-stack : goal.invariant-loop-stack
invariant-loop-stack l = record {
  stops : l.stops ≤ most_stops_of (walked_by l.self);
  placed : IsStack (walked_by l.self) (l.stack.items ++ l.point ∷ []);
  room : l.self.width ≤ vec_capacity l.stack;
  taken : l.taken ≡ vec_len l.stack + 2 * l.stops;
  set : length l.set ≡ l.self.data_len;
  progress : IsProgress (walked_by l.self) (l.stack.items ++ l.point ∷ []) l.taken l.stops (holds l.set);
}

abbrev pub decreases-loop-stack : goal.decreases-loop-stack
decreases-loop-stack l = (6 * l.self.nodes.node_count + 140) - (vec_len l.stack + 2 * l.stops)
