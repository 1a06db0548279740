use Rattle.std.proofs.Common.{◌-◌, take}
use Rattle.mmdb_net.specs.Bits.{bits_of}
use Rattle.mmdb_reader.specs.File.{width}
use Rattle.mmdb_reader.proofs.RangeLemmas.{IsOnWay}
use Rattle.mmdb_reader.proofs.walked.DatabaseWalker.start.Given as goal

abbrev pub invariant-loop-position : goal.invariant-loop-position
invariant-loop-position g l = IsOnWay l.self.reader.now l.fn.options (take l.range.prefix (bits_of (width l.self.reader.now) l.range.address)) l.position

abbrev pub decreases-loop-position : goal.decreases-loop-position
decreases-loop-position g l = l.range.prefix - l.position.prefix
