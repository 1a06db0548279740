use Rattle.std.proofs.Common.{◌≡◌, drop}
use Rattle.mmdb_query.specs.Reading.{outlines_of}
use Rattle.mmdb_query.specs.Segments.{sections_of, offsets_of}
use Rattle.mmdb_query.proofs.segment.SegmentAnswer.outline_along.Given as goal

abbrev pub invariant-loop-one : goal.invariant-loop-one
invariant-loop-one g l =
    let all = l.self.records.items in
    let left = drop l.one-index all in
    outlines_of (sections_of all) (offsets_of all) l.path ≡ outlines_of (sections_of left) (offsets_of left) l.path
