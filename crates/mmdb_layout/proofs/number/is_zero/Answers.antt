use Rattle.std.proofs.Common.{sym, ◌∙◌}
use Rattle.std.proofs.lemmas.Bool.{false≢true}
use Rattle.mmdb_layout.proofs.DigitLaws.{both_zero, first_zero}
use Rattle.mmdb_layout.proofs.number.is_zero.Goals as goal

pub returns-then-are_zeros : goal.returns-then-are_zeros
returns-then-are_zeros c =
    let parts = c.args.number.now.numeral in
    let whole = rw c.whole.ensures.value at c.are_zeros.ensures in
    let fraction = rw c.fraction.ensures.value at c.are_zeros-then-are_zeros.ensures in
    let both = both_zero parts.whole parts.fraction (whole.0 c.if-are_zeros.true) in
    (λ t. both.1 (fraction.0 t), λ none. fraction.1 (both.0 none))

pub returns-else-are_zeros : goal.returns-else-are_zeros
returns-else-are_zeros c =
    let parts = c.args.number.now.numeral in
    let whole = rw c.whole.ensures.value at c.are_zeros.ensures in
    (λ t. absurd (false≢true (sym c.if-are_zeros.false ∙ t)), λ none. whole.1 (first_zero parts.whole parts.fraction none))
