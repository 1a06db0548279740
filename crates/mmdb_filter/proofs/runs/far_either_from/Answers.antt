use Rattle.std.proofs.Common.{drop, arith}
use Rattle.std.proofs.lemmas.List.{length-drop, take_rest}
use Rattle.mmdb_filter.proofs.RunLaws.{far_found, far_missed}
use Rattle.mmdb_filter.proofs.runs.far_either_from.Goals as goal

pub returns-in-Some : goal.returns-in-Some
returns-in-Some c =
    let found = c.in-Some.ensures in
    omega (arith, far_found c.args.first c.args.second c.in-Some.at _ (drop c.args.from c.args.bytes.now) (take_rest c.args.bytes.now c.args.from) found.0.high (λ k l. found.0.before k (omega arith) l) found.1)

pub returns-in-None : goal.returns-in-None
returns-in-None c =
    omega (arith, far_missed c.args.first c.args.second _ (drop c.args.from c.args.bytes.now) (take_rest c.args.bytes.now c.args.from) (λ k l. c.in-None.ensures k (omega arith) l), length-drop c.args.from c.args.bytes.now)
