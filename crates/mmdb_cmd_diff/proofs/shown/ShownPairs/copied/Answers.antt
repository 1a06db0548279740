use Rattle.std.proofs.Common.{subst}
use Rattle.mmdb_cmd_diff.specs.Showing.{Showing, IsShownFor}
use Rattle.mmdb_cmd_diff.proofs.Showing.{shown_same}
use Rattle.mmdb_cmd_diff.proofs.shown.ShownPairs.copied.Goals as goal

pub returns : goal.returns
returns c =
    let held = c.self.invariant.each (record { key = c.args.number; value = c.in-Some.shown.now; bytes = c.in-Some.ensures.0 }) c.in-Some.ensures.1 in
    subst (λ (z : Showing). IsShownFor z c.args.number c.in_ok-copy_of.field-0) c.self.view_is
    (shown_same _ c.args.number c.in-Some.shown.now c.in_ok-copy_of.field-0 c.in_ok-copy_of.ensures.old c.in_ok-copy_of.ensures.new held)
