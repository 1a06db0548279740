use Rattle.std.proofs.Common.{◌≡◌, ◌<◌, Some, length, slice_get, refl, sym, arith}
use Rattle.std.proofs.lemmas.Bool.{ltb-true}
use Rattle.std.proofs.lemmas.Option.{slice_get_read}
use Rattle.mmdb_decode.proofs.ShortLaws.{pointer_by, text_by, number_by}
use Rattle.mmdb_decode.proofs.decoder.skipping.short_end.Goals as goal
use Rattle.mmdb_decode.proofs.decoder.skipping.short_end.Goals.{in-1, in-2, in-6}

pub returns-then-len-section : goal.returns-then-len-section
returns-then-len-section c =
    let control = c.from-control.result in
    let read = c.in_ok-get.ensures.lookup in
    let inside : c.args.offset < length c.args.section.now = ltb-true _ _ (sym read.0) in
    let h : slice_get c.args.section.now c.args.offset ≡ Some control = rw c.from-control.ensures (slice_get_read c.args.section.now (length c.args.section.now) c.args.offset c.in_ok-get.field-0.now refl inside read.1) in
    elim c.match-control-div32.branch [
      | in-1 w ↦ rw w.len-is (pointer_by c.args.section.now c.args.offset control h (omega (arith, w.in-1)) (omega (arith, c.if-len-section.true, w.len-is)))
      | in-2 w ↦ rw w.len-is (text_by c.args.section.now c.args.offset control h (omega (arith, w.in-2)) (omega (arith, w.if-size-le28)) (omega (arith, c.if-len-section.true, w.len-is)))
      | in-6 w ↦ rw w.len-is (number_by c.args.section.now c.args.offset control h (omega (arith, w.in-6)) (omega (arith, w.if-size-le4)) (omega (arith, c.if-len-section.true, w.len-is)))
    ]
