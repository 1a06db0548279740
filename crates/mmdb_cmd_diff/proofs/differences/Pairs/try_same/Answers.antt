use Rattle.std.proofs.Common.{◌≡◌, true, IfOk, IfErr, subst}
use Rattle.mmdb_format.specs.Error.{MemoryApart}
use Rattle.mmdb_cmd_diff.specs.Alike.{AreAlike, AreFoundIn, IsUnread}
use Rattle.mmdb_cmd_diff.specs.Showing.{Showing, offset_at}
use Rattle.mmdb_cmd_diff.proofs.Liking.{alike-for, alike-keep}
use Rattle.mmdb_cmd_diff.proofs.differences.Pairs.try_same.Goals as goal

pub returns-in_default-clause-same : goal.returns-in_default-clause-same
returns-in_default-clause-same c found all =
    subst (λ (z : Showing). AreFoundIn z.sections c.args.answers.old c.args.answers.new → IfOk c.compare.result (λ b. b ≡ true → AreAlike z (offset_at c.args.answers.old) (offset_at c.args.answers.new)))
    c.if-are_equal.ensures.shown c.compare.ensures.same found

pub returns-in_default-clause-failed : goal.returns-in_default-clause-failed
returns-in_default-clause-failed c =
    subst (λ (z : Showing). AreFoundIn z.sections c.args.answers.old c.args.answers.new
    → IfErr c.compare.result (λ u. MemoryApart u.error (IsUnread z (offset_at c.args.answers.old) (offset_at c.args.answers.new) u.side)))
    c.if-are_equal.ensures.shown c.compare.ensures.failed

pub returns-clause-kept : goal.returns-clause-kept
returns-clause-kept c found all =
    let now = c.args.self.now in
    let compared = c.in_ok-is_same.ensures in
    alike-keep now.shown c.in-Some.offsets c.in_ok-is_same.is_same now.kept _ c.keep.new.self compared.kept c.keep.ensures.same c.keep.ensures.as_same c.keep.ensures.last
    (λ is. alike-for now.shown _ _ c.in-Some.offsets c.in-Some.ensures (compared.same found is)) all
