use Rattle.std.proofs.Common.{rules, arith, ◌≤ℤ◌, ◌<ℤ◌}
use mir.Val.{SFits}
use mir.Syntax.{w128}
use Rattle.std.proofs.lemmas.Int.{to_z-of_z, ints}
use Rattle.std.proofs.lemmas.Result.{err_from_is_err_and}
use Rattle.mmdb_decode.proofs.SmallLaws.{small_unread, small_read, small_past, between_yes, below_low, above_high}
use Rattle.mmdb_record.proofs.decode.read_between.Goals.{else-low-number-via-then-low-number+else-number-high, else-low-number-via-else-low-number}
use Rattle.mmdb_record.proofs.decode.read_between.Goals as goal

pub returns-in_err-number-clause-read : goal.returns-in_err-number-clause-read
returns-in_err-number-clause-read c = let p = err_from_is_err_and c.from_residual.result c.from_residual.ensures.1 in rw p.1 (small_unread c.args.low c.args.high c.args.d.now c.read_small.new.self c.in_err-number.ensures)

pub returns-then-number-high-clause-read : goal.returns-then-number-high-clause-read
returns-then-number-high-clause-read c =
    let fits : SFits w128 c.in_ok-number.number = search rules in
    let low : c.args.low ≤ℤ c.in_ok-number.number = omega (arith, ints, c.if-low-number.true) in
    let high : c.in_ok-number.number ≤ℤ c.args.high = omega (arith, ints, c.if-number-high.true) in
    rw (to_z-of_z w128 c.in_ok-number.number fits) (small_read c.args.low c.args.high c.in_ok-number.number c.args.d.now c.read_small.new.self c.in_ok-number.ensures (between_yes c.args.low c.args.high c.in_ok-number.number low high))

pub returns-clause-read : goal.returns-clause-read
returns-clause-read c =
    let fits : SFits w128 c.in_ok-number.number = search rules in
    elim c.else-low-number.branch [
      | else-low-number-via-then-low-number+else-number-high w ↦
          let above : c.args.high <ℤ c.in_ok-number.number = omega (arith, ints, w.if-number-high.false) in
          small_past c.args.low c.args.high c.in_ok-number.number c.args.d.now c.read_small.new.self c.in_ok-number.ensures (above_high c.args.low c.args.high c.in_ok-number.number above)
      | else-low-number-via-else-low-number w ↦
          let below : c.in_ok-number.number <ℤ c.args.low = omega (arith, ints, w.if-low-number.false) in
          small_past c.args.low c.args.high c.in_ok-number.number c.args.d.now c.read_small.new.self c.in_ok-number.ensures (below_low c.args.low c.args.high c.in_ok-number.number below)
    ]
