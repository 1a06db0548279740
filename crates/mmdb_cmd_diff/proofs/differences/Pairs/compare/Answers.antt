use Rattle.std.proofs.Common.{◌≡◌, ◌∙◌, true, IfOk, IfErr, subst}
use Rattle.mmdb_format.specs.Error.{MemoryApart}
use Rattle.mmdb_cmd_diff.specs.Alike.{AreAlike, AreFoundIn, IsUnread}
use Rattle.mmdb_cmd_diff.specs.Showing.{Showing, offset_at}
use Rattle.mmdb_cmd_diff.proofs.differences.Pairs.compare.Goals as goal

pub returns-in-None-clause-same : goal.returns-in-None-clause-same
returns-in-None-clause-same c =
    subst (λ (z : Showing). AreFoundIn z.sections c.args.answers.old c.args.answers.new → IfOk c.compare_values.result (λ b. b ≡ true → AreAlike z (offset_at c.args.answers.old) (offset_at c.args.answers.new)))
    (c.in-None.ensures.shown ∙ c.forget_last.ensures) c.compare_values.ensures.same

pub returns-in-None-clause-failed : goal.returns-in-None-clause-failed
returns-in-None-clause-failed c =
    subst (λ (z : Showing). AreFoundIn z.sections c.args.answers.old c.args.answers.new
    → IfErr c.compare_values.result (λ u. MemoryApart u.error (IsUnread z (offset_at c.args.answers.old) (offset_at c.args.answers.new) u.side)))
    (c.in-None.ensures.shown ∙ c.forget_last.ensures) c.compare_values.ensures.failed
