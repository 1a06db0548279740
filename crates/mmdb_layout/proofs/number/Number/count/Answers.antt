use Rattle.std.proofs.Common.{subst, refl}
use Rattle.std.specs.Str.Parse.{AllDigits}
use Rattle.mmdb_layout.proofs.DigitLaws.{worth_below}
use Rattle.mmdb_layout.proofs.number.Number.count.Goals as goal

pub returns-clause-bound : goal.returns-clause-bound
returns-clause-bound c =
    let w = subst (AllDigits 10) c.whole.ensures.value c.whole.ensures.digits in
    let f = subst (AllDigits 10) c.fraction.ensures.value c.fraction.ensures.digits in
    worth_below c.args.self.now.numeral.whole c.args.self.now.numeral.fraction _ w f (rw (c.whole.ensures.value, c.fraction.ensures.value) refl)
