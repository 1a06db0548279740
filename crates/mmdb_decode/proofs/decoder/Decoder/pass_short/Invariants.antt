use Rattle.std.proofs.Common.{◌≡◌, ℕ, ◌≤◌, false}
use Rattle.mmdb_decode.specs.State.{decoded}
use Rattle.mmdb_decode.specs.Skipping.{skip_within, passes}
use Rattle.mmdb_decode.proofs.StepLaws.{state}
use Rattle.mmdb_decode.proofs.decoder.Decoder.pass_short.Given as goal

-- what is left to pass is the rest
abbrev pub invariant-loop-left : goal.invariant-loop-left
invariant-loop-left l = record {
  rest : (nested : ℕ) → decoded false (passes (skip_within nested) l.count) l.fn.self ≡ decoded false (passes (skip_within nested) l.left) (state l.fn.self.section l.offset l.fn.self.levels l.fn.self.budget);
  fewer : l.left ≤ l.count;
}

abbrev pub decreases-loop-left : goal.decreases-loop-left
decreases-loop-left l = l.left
