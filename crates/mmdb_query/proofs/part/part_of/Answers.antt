use Rattle.mmdb_query.specs.Parts.{clipped}
use Rattle.mmdb_query.proofs.PartLaws.{handed_masked}
use Rattle.mmdb_query.proofs.part.part_of.Goals as goal

pub invariant_of-result : goal.invariant_of-result
invariant_of-result g c =
    let had = g.A.Answer.had c.args.whole in
    record { masked = handed_masked (clipped c.args.range had) had c.clip-part.result c.clip-part.ensures }
