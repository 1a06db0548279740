use Rattle.std.proofs.Common.{rules, arith, get_or}
use Rattle.std.proofs.lemmas.Bool.{false≢true}
use Rattle.std.proofs.lemmas.Str.Parse.{digit_at}
use Rattle.std.specs.Int.{IsInRange}
use Rattle.mmdb_layout.proofs.PlainLaws.{one_digit_more, digit_of}
use Rattle.mmdb_layout.proofs.number.are_digits.Goals as goal

pub returns-then-not-is_ascii_digit : goal.returns-then-not-is_ascii_digit
returns-then-not-is_ascii_digit c = (
  (λ t. absurd (false≢true t)),
  (λ all. let digit = digit_at c.args.text.now c.loop-byte.byte-index all (omega arith) in search (rules, digit)),
)

pub loop-byte-preserved : goal.loop-byte-preserved
loop-byte-preserved c =
    let digit : IsInRange 48 57 (get_or c.args.text.now c.loop-byte.byte-index 0) = search rules in
    one_digit_more c.args.text.now c.loop-byte.byte-index (omega arith) c.loop-byte.invariant (digit_of (get_or c.args.text.now c.loop-byte.byte-index 0) digit)
