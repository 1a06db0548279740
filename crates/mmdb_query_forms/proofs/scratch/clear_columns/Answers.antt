use Rattle.std.proofs.Common.{arith}
use Rattle.mmdb_query_forms.proofs.FittingLaws.{one_left}
use Rattle.mmdb_query_forms.proofs.scratch.clear_columns.Goals as goal

pub loop-place-preserved : goal.loop-place-preserved
loop-place-preserved c =
    let many = c.loop-place.invariant.many in
    one_left c.args.kept.now.items c.loop-place.kept.items c.loop-place.place c.index_mut.result.now c.clear.new.self c.loop-place.invariant (omega (arith, many)) c.index_mut.ensures.value c.clear.ensures
