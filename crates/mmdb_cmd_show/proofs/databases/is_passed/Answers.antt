use Rattle.std.proofs.Common.{rules, tests}
use Rattle.std.proofs.lemmas.Iterator.{cases_from_any, YieldsList-from_slice}
use Rattle.mmdb_cmd_show.specs.Asked.{CanBeAsked}
use Rattle.mmdb_cmd_show.proofs.AskedLaws.{one_can, is_passed}
use Rattle.mmdb_cmd_show.proofs.databases.is_passed.Goals as goal

pub returns-then-not-can_be_asked : goal.returns-then-not-can_be_asked
returns-then-not-can_be_asked c =
    let all = c.args.others.now in
    let address = c.args.address in
    let said = cases_from_any _ _ _ (λ shown. CanBeAsked shown.database.now address) (λ shown. ¬ CanBeAsked shown.database.now address) c.any.ensures.ran (YieldsList-from_slice all cc) (λ x q k. search (rules, tests)) (λ x q k. search (rules, tests)) in
    is_passed c.args.database.now address all c.any.result c.if-not-can_be_asked.ensures (one_can address all c.any.result said)
