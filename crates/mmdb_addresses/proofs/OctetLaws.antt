-- Octets of an address of IPv4 in a text.
use Rattle.std.proofs.Common.{◌≡◌, ℕ, ◌+◌, ◌*◌, ◌/◌, ◌%◌, ◌<◌, List, [], ◌∷◌, ◌++◌, length, drop, get_or, decimal, refl, sym, ap, ap₂, ◌∙◌, arith}
use Rattle.std.proofs.lemmas.Fmt.{decimal_digit, decimal_step}
use Rattle.std.proofs.lemmas.List.{drop_more}
use Rattle.mmdb_addresses.specs.Octets.{HasOctet}

two_digits : (a b n : ℕ) → 0 < a → a < 10 → b < 10 → n ≡ a * 10 + b → decimal n ≡ (48 + a) ∷ (48 + b) ∷ []
two_digits a b n some few less is =
    let front : n / 10 ≡ a = omega arith in
    let back : n % 10 ≡ b = omega arith in
    decimal_step n (omega arith) (omega arith) ∙ ap₂ (λ f d. f ++ ((48 + d) ∷ [])) (ap decimal front ∙ decimal_digit a few) back

three_digits : (a b c n : ℕ) → 0 < a → a < 10 → b < 10 → c < 10 → n ≡ (a * 10 + b) * 10 + c → decimal n ≡ (48 + a) ∷ (48 + b) ∷ (48 + c) ∷ []
three_digits a b c n some few less least is =
    let front : n / 10 ≡ a * 10 + b = omega arith in
    let back : n % 10 ≡ c = omega arith in
    decimal_step n (omega arith) (omega arith) ∙ ap₂ (λ f d. f ++ ((48 + d) ∷ [])) (ap decimal front ∙ two_digits a b (a * 10 + b) some few less refl) back

one_on : (text : List ℕ) (at d : ℕ) → at < length text → get_or text at 0 ≡ 48 + d → drop at text ≡ (48 + d) ∷ drop (at + 1) text
one_on text at d l is = drop_more text at 0 l ∙ ap (λ x. x ∷ drop (at + 1) text) is

pub octet_of_one : (text : List ℕ) (from a : ℕ) → from < length text → a < 10 → get_or text from 0 ≡ 48 + a → HasOctet text from (from + 1) a
octet_of_one text from a l few is = record {
  high = omega arith;
  fits = omega arith;
  reads = one_on text from a l is ∙ sym (ap (λ d. d ++ drop (from + 1) text) (decimal_digit a few));
}

second_on : (text : List ℕ) (from a b : ℕ) → from + 1 < length text → get_or text from 0 ≡ 48 + a → get_or text (from + 1) 0 ≡ 48 + b → drop from text ≡ (48 + a) ∷ (48 + b) ∷ drop (from + 2) text
second_on text from a b l first second =
    let same : from + 1 + 1 ≡ from + 2 = omega arith in
    one_on text from a (omega arith) first ∙ ap (λ r. (48 + a) ∷ r) (one_on text (from + 1) b l second ∙ ap (λ k. (48 + b) ∷ drop k text) same)

pub octet_of_two : (text : List ℕ) (from a b n : ℕ) → from + 1 < length text → 0 < a → a < 10 → b < 10 → get_or text from 0 ≡ 48 + a → get_or text (from + 1) 0 ≡ 48 + b → n ≡ a * 10 + b → HasOctet text from (from + 2) n
octet_of_two text from a b n l some few less first second is = record {
  high = omega arith;
  fits = omega arith;
  reads = second_on text from a b l first second ∙ sym (ap (λ d. d ++ drop (from + 2) text) (two_digits a b n some few less is));
}

pub octet_of_three : (text : List ℕ) (from a b c n : ℕ) → from + 2 < length text → 0 < a → a < 10 → b < 10 → c < 10 → get_or text from 0 ≡ 48 + a → get_or text (from + 1) 0 ≡ 48 + b
    → get_or text (from + 2) 0 ≡ 48 + c → n ≡ (a * 10 + b) * 10 + c → n < 256 → HasOctet text from (from + 3) n
octet_of_three text from a b c n l some few less least first second third is fits =
    let same : from + 2 + 1 ≡ from + 3 = omega arith in
    let last : drop (from + 2) text ≡ (48 + c) ∷ drop (from + 3) text = one_on text (from + 2) c l third ∙ ap (λ k. (48 + c) ∷ drop k text) same in
    record {
      high = omega arith;
      fits = fits;
      reads = second_on text from a b (omega arith) first second ∙ ap (λ r. (48 + a) ∷ (48 + b) ∷ r) last ∙ sym (ap (λ d. d ++ drop (from + 3) text) (three_digits a b c n some few less least is));
    }
