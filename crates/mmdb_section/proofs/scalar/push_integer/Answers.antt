use Rattle.mmdb_section.specs.Working.{IsSized, IsInteger}
use Rattle.mmdb_section.proofs.StandLemmas.{weaker_put}
use Rattle.mmdb_section.proofs.scalar.push_integer.Goals as goal

pub returns-clause-says : goal.returns-clause-says
returns-clause-says c =
    let content = c.significant.result.now in
    weaker_put c.push_sized.result (IsSized c.args.kind content) (IsInteger c.args.kind c.args.bytes.now) _ _
    (λ xs sized. (content, sized, c.significant.ensures.value, c.significant.ensures.len)) c.push_sized.ensures.says
