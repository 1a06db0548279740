use Rattle.std.proofs.Common.{arith}
use Rattle.mmdb_offsets.proofs.Words.{no-bit, lowest-bit}
use Rattle.mmdb_offsets.proofs.offset_set.lowest_bit.Goals as goal

pub returns-then-rest-eq0 : goal.returns-then-rest-eq0
returns-then-rest-eq0 c = no-bit c.args.word c.args.from c.if-rest-eq0.true

pub returns-else-rest-eq0 : goal.returns-else-rest-eq0
returns-else-rest-eq0 c = lowest-bit c.args.word c.args.from (omega (arith, c.ranges.word)) c.if-rest-eq0.false
