use Rattle.std.proofs.Common.{◌∙◌, sym}
use Rattle.mmdb_cmd_diff.specs.Alike.{AreAlikeIn, IsUnreadableOn}
use Rattle.mmdb_cmd_diff.specs.Showing.{offset_at}
use Rattle.mmdb_cmd_diff.proofs.Liking.{ok-later, err-later}
use Rattle.mmdb_cmd_diff.proofs.differences.Pairs.compare_values.Goals as goal

pub returns-clause-same : goal.returns-clause-same
returns-clause-same c found =
    let now = c.args.self.now in
    ok-later c.are_same-is_same.result _ (AreAlikeIn now.shown.sections (offset_at c.args.answers.old) (offset_at c.args.answers.new))
    (λ whole. c.are_same-is_same.ensures.same now.shown.sections (sym now.are_whole ∙ whole) found)

pub returns-clause-failed : goal.returns-clause-failed
returns-clause-failed c found =
    let now = c.args.self.now in
    err-later c.are_same-is_same.result (λ u. u.error) _ (λ u. IsUnreadableOn now.shown.sections (offset_at c.args.answers.old) (offset_at c.args.answers.new) u.side)
    (λ whole. c.are_same-is_same.ensures.failed now.shown.sections (sym now.are_whole ∙ whole) found)
