use Rattle.std.proofs.Common.{rules, subst}
use Rattle.std.specs.Str.Parse.{AllDigits}
use Rattle.mmdb_layout.proofs.PlainLaws.{same_digits}
use Rattle.mmdb_layout.proofs.number.is_same_number.Goals as goal

pub returns-then-are_digits-2 : goal.returns-then-are_digits-2
returns-then-are_digits-2 c =
    let other : AllDigits 10 c.args.other.now = subst (AllDigits 10) c.as_bytes.ensures.value (c.are_digits.ensures.0 c.if-are_digits.true) in
    let own : AllDigits 10 c.args.own.now = subst (AllDigits 10) c.as_bytes-then-are_digits.ensures.value (c.are_digits-then-are_digits.ensures.0 c.if-are_digits-2.true) in
    same_digits c.args.own.now c.args.other.now c.if-eq.result own other (search rules) (search rules)
