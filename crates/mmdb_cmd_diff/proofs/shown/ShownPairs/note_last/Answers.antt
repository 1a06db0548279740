use Rattle.std.proofs.Common.{sym, subst}
use Rattle.mmdb_cmd_diff.specs.Showing.{Showing, IsShownFor}
use Rattle.mmdb_cmd_diff.proofs.Showing.{other_last}
use Rattle.mmdb_cmd_diff.proofs.shown.ShownPairs.note_last.Goals as goal

pub invariant_of-self : goal.invariant_of-self
invariant_of-self c =
    other_last _ _ _ c.args.number c.args.shown c.self.invariant (subst (λ (z : Showing). IsShownFor z c.args.number c.args.shown) (sym c.self.view_is) c.requires)
