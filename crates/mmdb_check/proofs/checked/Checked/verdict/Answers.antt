use Rattle.std.proofs.Common.{ap, sym, ◌∙◌}
use Rattle.mmdb_check.proofs.Several.{allowed_at}
use Rattle.mmdb_check.proofs.checked.Checked.verdict.Goals as goal

pub returns-else-self-clause-allowed : goal.returns-else-self-clause-allowed
returns-else-self-clause-allowed c =
    allowed_at c.self.inside.work.section.now c.self.inside.work.marks.items c.args.self.now.section c.args.self.now.good c.self.inside.work.left
    (ap (λ z. z.section) (sym c.self.view_is)) (ap (λ z. z.good) (sym c.self.view_is)) (c.self.invariant c.if-self.false)
