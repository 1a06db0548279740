use Rattle.std.proofs.Common.{arith}
use Rattle.std.proofs.lemmas.Bool.{false≢true}
use Rattle.mmdb_layout.proofs.DigitLaws.{one_zero_more, one_not_zero}
use Rattle.mmdb_layout.proofs.number.are_zeros.Goals as goal

pub returns-then-digit-ne48 : goal.returns-then-digit-ne48
returns-then-digit-ne48 c = (
  (λ t. absurd (false≢true t)),
  (λ none. absurd (one_not_zero c.args.digits.now c.loop-digit.digit-index (omega arith) c.requires c.if-digit-ne48.true none)),
)

pub loop-digit-preserved : goal.loop-digit-preserved
loop-digit-preserved c = one_zero_more c.args.digits.now c.loop-digit.digit-index (omega arith) c.if-digit-ne48.false c.loop-digit.invariant
