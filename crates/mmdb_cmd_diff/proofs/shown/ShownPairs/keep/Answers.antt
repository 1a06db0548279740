use Rattle.std.proofs.Common.{sym, subst}
use Rattle.mmdb_cmd_diff.specs.Showing.{Showing, IsShownFor}
use Rattle.mmdb_cmd_diff.proofs.Showing.{more_kept, shown_same}
use Rattle.mmdb_cmd_diff.proofs.shown.ShownPairs.keep.Goals as goal

pub invariant_of-self : goal.invariant_of-self
invariant_of-self c =
    more_kept _ _ _ _ _ c.self.invariant c.put.ensures
    (subst (λ (z : Showing). IsShownFor z c.args.number c.in-Ok.copy) (sym c.self.view_is)
    (shown_same c.args.self.now c.args.number c.args.shown.now c.in-Ok.copy c.in-Ok.ensures.old c.in-Ok.ensures.new c.requires))
