use Rattle.std.proofs.Common.{length, refl, ap, arith}
use Rattle.mmdb_offsets.proofs.Words.{length-set_of}
use Rattle.mmdb_offsets.proofs.offset_set.OffsetSet.within.Goals as goal

pub returns-then-offset-self-clause-offset : goal.returns-then-offset-self-clause-offset
returns-then-offset-self-clause-offset c = (refl, let long = ap length c.self.view_is in omega (arith, c.if-offset-self.true, long, length-set_of c.self.inside.words.items c.self.inside.len))

pub returns-else-offset-self-clause-offset : goal.returns-else-offset-self-clause-offset
returns-else-offset-self-clause-offset c = let long = ap length c.self.view_is in omega (arith, c.if-offset-self.false, long, length-set_of c.self.inside.words.items c.self.inside.len)

pub returns-then-offset-self-clause-within : goal.returns-then-offset-self-clause-within
returns-then-offset-self-clause-within c =
    let few = c.self.invariant.1 in
    let long = ap length c.self.view_is in
    (omega (arith, c.if-offset-self.true, long, length-set_of c.self.inside.words.items c.self.inside.len), omega (arith, c.if-offset-self.true, few))
