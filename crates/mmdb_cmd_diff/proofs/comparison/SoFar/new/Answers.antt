use Rattle.std.proofs.Common.{List, sym, subst, arith, ap, length}
use Rattle.mmdb_cmd_diff.specs.Comparing.{AreAllWaiting}
use Rattle.mmdb_cmd_diff.specs.Walked.{both_of}
use Rattle.mmdb_cmd_diff.specs.declared.comparison.Stretch.{Stretch}
use Rattle.mmdb_cmd_diff.proofs.comparison.SoFar.new.Goals as goal

pub returns-clause-so_far : goal.returns-clause-so_far
returns-clause-so_far c left =
    let waiting = c.in_ok-new-2.field-0 in
    let nothing = c.in_ok-new-2.ensures in
    record {
      ready = record { changes = c.in_ok-new-3.ensures c.in_ok-new.field-0.shown (both_of left); kept = c.in_ok-new.ensures.kept };
      waiting = subst (λ (xs : List Stretch). AreAllWaiting left xs waiting.offsets.items) (sym nothing.stretches) nothing.offsets;
      few = let none_waits = ap length nothing.stretches in omega (arith, none_waits);
    }
