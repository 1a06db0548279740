use Rattle.std.proofs.Common.{◌≡◌, drop}
use Rattle.mmdb_query.specs.Had.{has_one}
use Rattle.mmdb_query.specs.Segments.{offsets_of}
use Rattle.mmdb_query.proofs.segment.SegmentAnswer.has_record.Given as goal

abbrev pub invariant-loop-one : goal.invariant-loop-one
invariant-loop-one g l = has_one (offsets_of l.self.records.items) ≡ has_one (offsets_of (drop l.one-index l.self.records.items))
