use Rattle.std.proofs.Common.{arith}
use Rattle.mmdb_compare.specs.Kept.{IsIn}
use Rattle.mmdb_cmd_diff.proofs.Gathering.{marked-set, some-there}
use Rattle.mmdb_cmd_diff.proofs.comparison.known_of.Goals as goal

pub loop-index-init : goal.loop-index-init
loop-index-init c = λ index marked. let unmarked = c.none_known-known.ensures index in absurd (cc)

pub loop-index-preserved : goal.loop-index-preserved
loop-index-preserved c =
    let now = c.args.so_far.now in
    marked-set now.pairs.kept now.waiting.offsets.items c.loop-index.known c.loop-index.index c.keeps_same.result c.loop-index.invariant
    (λ is. some-there c.as_slice-offsets.result.now now.waiting.offsets.items c.loop-index.index _ (IsIn now.pairs.kept.same) c.as_slice-offsets.ensures.value (omega arith) (c.keeps_same.ensures is))
