use Rattle.std.proofs.Common.{rules, subst}
use Rattle.mmdb_cmd_diff.specs.Showing.{Showing, IsShownFor}
use Rattle.mmdb_cmd_diff.proofs.shown.ShownPairs.take_last.Goals as goal

pub returns-then-last-number-clause-shown : goal.returns-then-last-number-clause-shown
returns-then-last-number-clause-shown c =
    let held = c.self.invariant.newest (c.in_ok-last.last, c.in_ok-last.shown) (search rules) in
    subst (λ n. IsShownFor c.args.self.now n c.in_ok-last.shown) c.if-last-number.true
    (subst (λ (z : Showing). IsShownFor z c.in_ok-last.last c.in_ok-last.shown) c.self.view_is held)
