use Rattle.std.proofs.Common.{◌≡◌, ◌∙◌, true, IfOk, IfErr, subst}
use Rattle.mmdb_format.specs.Error.{MemoryApart}
use Rattle.mmdb_cmd_diff.specs.Alike.{AreAlike, AreFoundIn, IsUnread}
use Rattle.mmdb_cmd_diff.specs.Showing.{Showing, offset_at}
use Rattle.mmdb_cmd_diff.proofs.differences.Pairs.is_same.Goals as goal

pub returns-in-Err-clause-same : goal.returns-in-Err-clause-same
returns-in-Err-clause-same c found all =
    subst (λ (z : Showing). AreFoundIn z.sections c.args.answers.old c.args.answers.new → IfOk c.is_same_by_values.result (λ b. b ≡ true → AreAlike z (offset_at c.args.answers.old) (offset_at c.args.answers.new)))
    (c.let_go.ensures.shown ∙ c.in-Err.ensures.shown) c.is_same_by_values.ensures.same found

pub returns-in-Err-clause-failed : goal.returns-in-Err-clause-failed
returns-in-Err-clause-failed c =
    subst (λ (z : Showing). AreFoundIn z.sections c.args.answers.old c.args.answers.new
    → IfErr c.is_same_by_values.result (λ u. MemoryApart u.error (IsUnread z (offset_at c.args.answers.old) (offset_at c.args.answers.new) u.side)))
    (c.let_go.ensures.shown ∙ c.in-Err.ensures.shown) c.is_same_by_values.ensures.failed
