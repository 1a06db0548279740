use Rattle.std.proofs.Common.{IfErr}
use Rattle.mmdb_format.specs.Error.{MemoryApart}
use Rattle.mmdb_cmd_diff.specs.Alike.{IsUnreadableOn}
use Rattle.mmdb_cmd_diff.proofs.Liking.{both-found}
use Rattle.mmdb_cmd_diff.proofs.differences.are_same.Goals as goal

pub returns-in-Records-Some-Some-clause-failed : goal.returns-in-Records-Some-Some-clause-failed
returns-in-Records-Some-Some-clause-failed c s shows found =
    both-found s c.args.answers.old c.args.answers.new c.in-Records-Some-Some.old c.in-Records-Some-Some.new
    (λ o n. IfErr c.are_same_values.result (λ u. MemoryApart u.error (IsUnreadableOn s o n u.side)))
    c.in-Records-Some-Some.is-1 c.in-Records-Some-Some.is-2 (λ g h. c.are_same_values.ensures.failed s g h) found
