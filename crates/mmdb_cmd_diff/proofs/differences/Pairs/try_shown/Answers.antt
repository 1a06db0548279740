use Rattle.std.proofs.Common.{IfSome, subst}
use Rattle.mmdb_cmd_diff.specs.declared.shown.ShownPair.{ShownPair}
use Rattle.std.specs.Prelude.{Option}
use Rattle.mmdb_cmd_diff.specs.Showing.{IsShownFor}
use Rattle.mmdb_cmd_diff.proofs.differences.Pairs.try_shown.Goals as goal

pub returns-in-Some-2-clause-pair : goal.returns-in-Some-2-clause-pair
returns-in-Some-2-clause-pair c =
    subst (λ (o : Option ShownPair). IfSome o (IsShownFor c.args.self.now.shown c.in-Some.number)) c.in-Some-2.is c.in_ok-shown.ensures.shown _ _ c.in-Some.ensures
