use Rattle.std.proofs.Common.{◌≡◌, ◌<◌, length}
use Rattle.mmdb_cmd_diff.specs.Comparing.{AreSoFar, ShowTheSame}
use Rattle.mmdb_cmd_diff.specs.Walked.{AreCompared}
use Rattle.mmdb_cmd_diff.proofs.Gathering.{IsAlong}
use Rattle.mmdb_cmd_diff.proofs.comparison.take_all.Given as goal

abbrev pub invariant-loop : goal.invariant-loop
invariant-loop g l =
    let first = l.initial.so_far in
    let left = l.initial.together.left in
    record {
      databases : l.together.databases ≡ l.initial.together.databases;
      same : ShowTheSame first l.so_far;
      along : AreCompared first.pairs.shown.sections l.initial.together.databases left → AreSoFar left first → length first.waiting.stretches.items < 64 → l.initial.together.at ≡ 0
          → IsAlong left first l.so_far l.together (g.O.Write.contents l.initial.out) (g.O.Write.contents l.out);
    }
