use Rattle.std.proofs.Common.{◌≡◌, ◌-◌, false}
use Rattle.mmdb_decode.specs.State.{decoded}
use Rattle.mmdb_decode.specs.Skipping.{skip_within, passes}
use Rattle.mmdb_decode.specs.Errors.{Kept}
use Rattle.mmdb_decode.proofs.decoder.Decoder.+pass.Given as goal

abbrev pub decreases-pass : goal.decreases-pass
decreases-pass l = l.nested

-- what is left to pass is the rest
abbrev pub invariant-loop-left : goal.invariant-loop-left
invariant-loop-left l = record {
  rest : decoded false (skip_within l.nested) l.fn.self ≡ decoded false (passes (skip_within (l.nested - 1)) l.left) l.self;
  kept : Kept l.fn.self l.self;
}

abbrev pub decreases-loop-left : goal.decreases-loop-left
decreases-loop-left l = l.left
