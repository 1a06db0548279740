use Rattle.std.proofs.Common.{rules}
use Rattle.mmdb_layout.specs.Conditions.{texts_of}
use Rattle.mmdb_layout.proofs.ConditionLaws.{found_by}
use Rattle.mmdb_layout.proofs.condition.Condition.finds.Goals as goal

pub returns-in_ok-fits-in-Ok-Some-clause-found : goal.returns-in_ok-fits-in-Ok-Some-clause-found
returns-in_ok-fits-in-Ok-Some-clause-found g c =
    let condition = c.args.self.now in
    let reads = g.R.ReadAlong.outlines c.args.found.now in
    found_by condition.wanted c.as_slice.result.now condition.path.items (texts_of condition) reads c.in-Ok-Some.field-0 c.in-Ok-Some.value c.in_ok-fits-in-Ok-Some.field-0 c.as_slice.ensures.value c.in-Ok-Some.ensures (search rules) (search rules)
