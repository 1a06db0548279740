use Rattle.std.proofs.Common.{◌≡◌, ◌-◌, refl, arith}
use Rattle.mmdb_decode.proofs.ShortLaws.{passes_one}
use Rattle.mmdb_decode.proofs.decoder.Decoder.pass_short.Goals as goal

pub loop-left-preserved : goal.loop-left-preserved
loop-left-preserved c =
    let section : c.self.inside.section.now ≡ c.args.self.now.section = rw (← c.self.view_is) refl in
    let short = rw section at c.in-Some.ensures in
    record {
      rest = λ nested. passes_one c.args.self.now _ c.loop-left.offset c.in-Some.next c.loop-left.left (c.loop-left.left - 1) nested c.stays_within.ensures (c.loop-left.invariant.rest nested) (omega (arith, c.loop-left-test.true)) short;
      fewer = omega (arith, c.loop-left.invariant.fewer);
    }
