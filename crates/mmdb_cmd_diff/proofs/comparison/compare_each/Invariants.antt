use Rattle.std.proofs.Common.{◌≡◌, List, drop}
use Rattle.mmdb_compare.specs.Coming.{Coming}
use Rattle.mmdb_cmd_diff.specs.Comparing.{AreSoFar, IsReady, ShowTheSame, untold, untold_by}
use Rattle.mmdb_cmd_diff.specs.Lines.{Tells}
use Rattle.mmdb_cmd_diff.specs.Walked.{AreCompared, both_of}
use Rattle.mmdb_cmd_diff.proofs.comparison.compare_each.Given as goal

-- what was compared so far is told
abbrev pub invariant-loop-index : goal.invariant-loop-index
invariant-loop-index g l =
    let first = l.initial.so_far in
    let showing = first.pairs.shown in
    record {
      same : ShowTheSame first l.so_far;
      waiting : l.so_far.waiting ≡ first.waiting;
      told : (left : List Coming) → AreCompared showing.sections l.together.databases left → AreSoFar left first
          → Tells first.pairs.layout.now showing (both_of left) (untold_by left first) (untold first.kinds showing (both_of left) l.so_far.changes (drop l.index first.waiting.stretches.items))
          (g.O.Write.contents l.initial.out) (g.O.Write.contents l.out);
      ready : (left : List Coming) → AreCompared showing.sections l.together.databases left → AreSoFar left first → IsReady (both_of left) l.so_far;
    }
