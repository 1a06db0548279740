use Rattle.std.proofs.Common.{sym, subst}
use Rattle.mmdb_cmd_diff.specs.Showing.{Showing, IsShownFor}
use Rattle.mmdb_cmd_diff.proofs.shown.ShownPairs.kept.Goals as goal

pub keep-requires : goal.keep-requires
keep-requires c = subst (λ (z : Showing). IsShownFor z c.args.number c.in-Some.shown) (sym c.in-Some.ensures.same) c.in-Some.ensures.shown
