use Rattle.std.proofs.Common.{◌≡◌, drop}
use Rattle.mmdb_layout.specs.Reading.{first_outline_of}
use Rattle.mmdb_layout.proofs.read_along.VecOptionLookupResultReadAlong.outline_along.Given as goal

abbrev pub invariant-loop-answer : goal.invariant-loop-answer
invariant-loop-answer g l = first_outline_of l.fn.self.items l.path ≡ first_outline_of (drop l.answer-index l.fn.self.items) l.path
