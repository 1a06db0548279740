use Rattle.std.proofs.Common.{refl, arith}
use Rattle.mmdb_format.proofs.ShortChars.{of_ascii, of_one, of_two, of_three}
use Rattle.mmdb_format.proofs.utf8.short_chars_len.Goals as goal

pub returns-then-first-lt128-clause-text : goal.returns-then-first-lt128-clause-text
returns-then-first-lt128-clause-text c = of_one c.args.bytes.now c.args.at c.requires c.if-first-lt128.true

pub returns-then-goes_on-clause-text : goal.returns-then-goes_on-clause-text
returns-then-goes_on-clause-text c = of_two c.args.bytes.now c.args.at (omega (arith, c.if-left-ge2.true)) (c.if-first-ge194.true, c.if-first-lt224.true) (c.if-goes_on.ensures refl)

pub returns-then-goes_on-3-clause-text : goal.returns-then-goes_on-3-clause-text
returns-then-goes_on-3-clause-text c =
    let one = c.if-goes_on-2.ensures refl in
    let two = c.if-goes_on-3.ensures refl in
    of_three c.args.bytes.now c.args.at (omega (arith, c.if-left-ge3.true)) (c.if-first-ge225.true, c.if-first-lt237.true) one two

pub returns-then-are_eight_ascii-clause-text : goal.returns-then-are_eight_ascii-clause-text
returns-then-are_eight_ascii-clause-text c = of_ascii c.args.bytes.now c.args.at 8 (c.if-are_eight_ascii.ensures refl)
