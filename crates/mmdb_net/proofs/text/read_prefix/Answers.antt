use Rattle.std.proofs.Common.{rules, arith, ◌≡◌, true, false, sym, ◌∙◌, true≢false}
use borrow.Author.Tests.{tests}
use Rattle.std.specs.Char.{is_ascii_digit}
use Rattle.std.proofs.lemmas.Iterator.{cases_from_all, YieldsList-from_slice}
use Rattle.std.proofs.lemmas.Str.Parse.{digit_at}
use Rattle.mmdb_net.proofs.SlashLaws.{digit_is_digit}
use Rattle.mmdb_net.proofs.text.read_prefix.Goals.{then-digits-gt-MAX_PREFIX_DIGITS-via-then-digits-gt-MAX_PREFIX_DIGITS, then-digits-gt-MAX_PREFIX_DIGITS-via-else-digits-gt-MAX_PREFIX_DIGITS+then-not-all}
use Rattle.mmdb_net.proofs.text.read_prefix.Goals as goal

pub returns-then-digits-gt-MAX_PREFIX_DIGITS-clause-none :
    goal.returns-then-digits-gt-MAX_PREFIX_DIGITS-clause-none
returns-then-digits-gt-MAX_PREFIX_DIGITS-clause-none c =
    rw c.in-Some.is (λ prefix small written. elim c.then-digits-gt-MAX_PREFIX_DIGITS.branch [
      | then-digits-gt-MAX_PREFIX_DIGITS-via-then-digits-gt-MAX_PREFIX_DIGITS w ↦ omega (arith, w.if-digits-gt-MAX_PREFIX_DIGITS, written.1)
      | then-digits-gt-MAX_PREFIX_DIGITS-via-else-digits-gt-MAX_PREFIX_DIGITS+then-not-all w ↦
          let met = cases_from_all _ _ _ (λ x. is_ascii_digit x ≡ true) (λ x. is_ascii_digit x ≡ false) w.all.ensures.ran (YieldsList-from_slice c.in-Some.digits.now cc) (λ x q k. search (rules, tests)) (λ x q k. search (rules, tests)) in
          let (k, within, other) = rw w.if-not-all.true at met in
          true≢false (sym (digit_is_digit _ (digit_at c.in-Some.digits.now k written.0.0.1 within)) ∙ other 0)
    ])
