use Rattle.std.proofs.Common.{sym, ◌∙◌}
use Rattle.mmdb_reader.proofs.PositionLemmas.{hides-listed}
use Rattle.mmdb_reader.proofs.walked.DatabaseWalker.hidden_number.Goals as goal

pub returns-then-includes_aliased : goal.returns-then-includes_aliased
returns-then-includes_aliased g c =
    hides-listed c.args.self.now.reader.now c.args.options _ c.args.self.now.are.count (sym c.includes_aliased.ensures ∙ c.if-includes_aliased.true)
