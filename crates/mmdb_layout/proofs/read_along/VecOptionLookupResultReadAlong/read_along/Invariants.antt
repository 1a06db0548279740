use Rattle.std.proofs.Common.{◌≡◌, drop}
use Rattle.mmdb_layout.specs.Reading.{first_read_of}
use Rattle.mmdb_layout.proofs.read_along.VecOptionLookupResultReadAlong.read_along.Given as goal

abbrev pub invariant-loop-answer : goal.invariant-loop-answer
invariant-loop-answer g l = first_read_of l.fn.self.items l.path ≡ first_read_of (drop l.answer-index l.fn.self.items) l.path
