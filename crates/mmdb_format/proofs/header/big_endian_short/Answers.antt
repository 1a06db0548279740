use Rattle.std.proofs.Common.{◌<◌, ◌+◌, ◌*◌, ◌^◌, ◌∙◌, arith}
use Rattle.mmdb_format.proofs.Numbers.{step_fits_short, step_below, big_endian_step}
use Rattle.mmdb_format.proofs.header.big_endian_short.Goals as goal
use Rattle.mmdb_format.proofs.header.big_endian_short.Goals.{After-from}

next_byte : (c : After-from) → c.from.result < 256
next_byte c = omega (arith, c.from.ensures, c.type_inv.bytes c.loop-b.b-index)

pub overflow_mul-n : goal.overflow_mul-n
overflow_mul-n c = let h : c.loop-b.n * 256 + 0 < 2 ^ 64 = step_fits_short c.loop-b.n 0 c.loop-b.b-index c.loop-b.invariant.bound (omega arith) (omega arith) in omega arith

pub overflow_add-n : goal.overflow_add-n
overflow_add-n c = let h = step_fits_short c.loop-b.n c.from.result c.loop-b.b-index c.loop-b.invariant.bound (next_byte c) (omega arith) in omega arith

pub loop-b-preserved : goal.loop-b-preserved
loop-b-preserved c = record {
  value = rw c.from.ensures (big_endian_step c.args.bytes.now c.loop-b.n c.loop-b.b-index c.loop-b-test.true ∙ c.loop-b.invariant.value);
  bound = step_below c.loop-b.n c.from.result c.loop-b.b-index c.loop-b.invariant.bound (next_byte c);
}
