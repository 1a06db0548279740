use Rattle.std.proofs.Common.{◌≡◌, ◌-◌, ◌+◌, true, false, nat_eq, sym, arith, rules}
use mir.Val.{SFits}
use mir.Syntax.{w128}
use Rattle.std.proofs.lemmas.Int.{to_z-of_z}
use Rattle.std.proofs.lemmas.Bool.Decides.{nat_tests}
use Rattle.std.proofs.lemmas.Result.{err_from_is_err_and}
use Rattle.mmdb_decode.proofs.SmallLaws.{whole_headless, whole_plain, whole_deep, whole_no_pointer, whole_no_target, whole_target}
use Rattle.mmdb_decode.proofs.whole.+whole_at.Goals as goal

pub returns-in_err-header : goal.returns-in_err-header
returns-in_err-header t c = let p = err_from_is_err_and c.from_residual.result c.from_residual.ensures.1 in rw p.1 (sym (whole_headless (512 - c.args.levels) c.args.section.now c.args.offset (sym c.in_err-header.ensures.value)))

pub returns-then-header-ne-POINTER : goal.returns-then-header-ne-POINTER
returns-then-header-ne-POINTER t c =
    let plain : nat_eq c.in_ok-header.header.kind 1 ≡ false = grind (arith, nat_tests, c.if-header-ne-POINTER.true) in
    rw c.whole_here.ensures (sym (whole_plain (512 - c.args.levels) c.args.section.now c.args.offset c.in_ok-header.header (sym c.in_ok-header.ensures.value) plain))

pub returns-then-levels-ge-MAX_LEVELS : goal.returns-then-levels-ge-MAX_LEVELS
returns-then-levels-ge-MAX_LEVELS t c =
    let one : nat_eq c.in_ok-header.header.kind 1 ≡ true = grind (arith, nat_tests, c.if-header-ne-POINTER.false) in
    sym (whole_deep (512 - c.args.levels) c.args.section.now c.args.offset c.in_ok-header.header (omega (arith, c.if-levels-ge-MAX_LEVELS.true)) (sym c.in_ok-header.ensures.value) one)

pub returns-in_err-pointer : goal.returns-in_err-pointer
returns-in_err-pointer t c =
    let one : nat_eq c.in_ok-header.header.kind 1 ≡ true = grind (arith, nat_tests, c.if-header-ne-POINTER.false) in
    let p = err_from_is_err_and c.from_residual-in_err-pointer.result c.from_residual-in_err-pointer.ensures.1 in
    rw p.1 (sym (whole_no_pointer (512 - c.args.levels) (512 - (c.args.levels + 1)) c.args.section.now c.args.offset c.in_ok-header.header (omega (arith, c.if-levels-ge-MAX_LEVELS.false)) (sym c.in_ok-header.ensures.value) one (sym c.in_err-pointer.ensures)))

pub returns-in_err-number : goal.returns-in_err-number
returns-in_err-number t c =
    let one : nat_eq c.in_ok-header.header.kind 1 ≡ true = grind (arith, nat_tests, c.if-header-ne-POINTER.false) in
    let p = err_from_is_err_and c.from_residual-in_err-number.result c.from_residual-in_err-number.ensures.1 in
    rw p.1 (sym (whole_no_target (512 - c.args.levels) (512 - (c.args.levels + 1)) c.args.section.now c.args.offset c.in_ok-header.header c.in_ok-pointer.pointer (omega (arith, c.if-levels-ge-MAX_LEVELS.false)) (sym c.in_ok-header.ensures.value) one (sym c.in_ok-pointer.ensures) (sym c.in_err-number.ensures)))

pub returns : goal.returns
returns t c =
    let one : nat_eq c.in_ok-header.header.kind 1 ≡ true = grind (arith, nat_tests, c.if-header-ne-POINTER.false) in
    let fits : SFits w128 c.in_ok-number.number = search rules in
    rw (to_z-of_z w128 c.in_ok-number.number fits) (sym (whole_target (512 - c.args.levels) (512 - (c.args.levels + 1)) c.args.section.now c.args.offset c.in_ok-header.header c.in_ok-pointer.pointer (c.in_ok-number.number, c.in_ok-number.field-0-1) (omega (arith, c.if-levels-ge-MAX_LEVELS.false)) (sym c.in_ok-header.ensures.value) one (sym c.in_ok-pointer.ensures) (sym c.in_ok-number.ensures)))
