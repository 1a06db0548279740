use Rattle.std.proofs.Common.{drop}
use Rattle.mmdb_query.specs.Segments.{sections_of, offsets_of}
use Rattle.mmdb_query.proofs.SegmentLaws.{KeyWay}
use Rattle.mmdb_query.proofs.segment.SegmentAnswer.key.Given as goal

abbrev pub invariant-loop-one : goal.invariant-loop-one
invariant-loop-one g l =
    let all = l.self.records.items in
    KeyWay (sections_of all) (offsets_of all) l.key (sections_of (drop l.one-index all)) (offsets_of (drop l.one-index all))
