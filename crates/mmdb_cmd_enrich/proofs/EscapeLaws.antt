-- Bytes in escapes.
use Rattle.std.proofs.Common.{◌≡◌, ℕ, ◌<◌, ◌/◌, ◌%◌, List, [], ◌∷◌, ◌++◌, Bool, true, false, not, ◌&&◌, ◌==◌, nat_lt, if◌then◌else◌, refl, sym, ap, ◌∙◌, arith}
use Rattle.std.proofs.lemmas.Bool.Decides.{nat_tests}
use Rattle.std.specs.Char.{digit_char}
use Rattle.mmdb_cmd_enrich.specs.Cells.{is_plain, escape_letter, escape_of, escaped}

-- what is plain has none
pub plain_escaped : (d : ℕ) (xs : List ℕ) → is_plain d xs ≡ true → escaped d xs ≡ xs
unfolding escaped
plain_escaped d [] e = refl
plain_escaped d (x ∷ xs) e = at (nat_lt 31 x && not (x == d)) refl e (λ rest. plain_escaped d xs rest)
  where
    at : (b : Bool) → (nat_lt 31 x && not (x == d)) ≡ b → b && is_plain d xs ≡ true → (is_plain d xs ≡ true → escaped d xs ≡ xs) → (if nat_lt 31 x && not (x == d) then x ∷ [] else escape_of x) ++ escaped d xs ≡ x ∷ xs
    at true is rest more = ap (λ b. (if b then x ∷ [] else escape_of x) ++ escaped d xs) is ∙ ap (λ l. x ∷ l) (more rest)
    at false is rest more = absurd (cc)

-- a byte by its letter, and by its number
pub by_letter : (x letter : ℕ) → letter ≡ escape_letter x → 0 < letter → 92 ∷ (letter ∷ []) ≡ escape_of x
by_letter x letter is some =
    let test : nat_lt 0 (escape_letter x) ≡ true = grind (arith, nat_tests) in
    ap (λ l. 92 ∷ (l ∷ [])) is ∙ sym (ap (λ b. if b then 92 ∷ (escape_letter x ∷ []) else 92 ∷ (117 ∷ (48 ∷ (48 ∷ (digit_char (x / 16) ∷ (digit_char (x % 16) ∷ [])))))) test)

pub by_number : (x letter : ℕ) → letter ≡ escape_letter x → letter ≡ 0 → 92 ∷ (117 ∷ (48 ∷ (48 ∷ (digit_char (x / 16) ∷ (digit_char (x % 16) ∷ []))))) ≡ escape_of x
by_number x letter is none =
    let test : nat_lt 0 (escape_letter x) ≡ false = grind (arith, nat_tests) in
    sym (ap (λ b. if b then 92 ∷ (escape_letter x ∷ []) else 92 ∷ (117 ∷ (48 ∷ (48 ∷ (digit_char (x / 16) ∷ (digit_char (x % 16) ∷ [])))))) test)
