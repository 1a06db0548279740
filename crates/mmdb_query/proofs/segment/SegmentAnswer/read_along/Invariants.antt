use Rattle.std.proofs.Common.{◌≡◌, drop}
use Rattle.mmdb_query.specs.Reading.{values_of}
use Rattle.mmdb_query.specs.Segments.{sections_of, offsets_of}
use Rattle.mmdb_query.proofs.segment.SegmentAnswer.read_along.Given as goal

abbrev pub invariant-loop-one : goal.invariant-loop-one
invariant-loop-one g l =
    let all = l.self.records.items in
    let left = drop l.one-index all in
    values_of (sections_of all) (offsets_of all) l.path ≡ values_of (sections_of left) (offsets_of left) l.path
