use Rattle.std.proofs.Common.{IfOk, subst}
use Rattle.mmdb_query.specs.Parts.{ComesInPart}
use Rattle.mmdb_query.specs.Sets.{IsGathered}
use Rattle.mmdb_cmd_export.specs.Gathered.{gathered_of}
use Rattle.mmdb_cmd_export.proofs.gathering.Listed.gather_along.Goals as goal

pub returns : goal.returns
returns g c =
    let walk = c.args.walk in
    subst (λ conditions. IfOk c.gather_part.result (λ found. IsGathered (ComesInPart c.args.self.now.kinds c.args.range (g.W.Walk.comes walk))
    (gathered_of conditions (g.W.Walk.sections walk)) found.0 found.1)) c.as_slice.ensures.value c.gather_part.ensures
