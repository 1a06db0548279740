-- A word of JSON is the same before any text that ends it.
use Rattle.std.proofs.Common.{◌≡◌, ℕ, suc, ◌+◌, ◌-◌, Bool, true, false, cond, ◌&&◌, ◌||◌, ◌==◌, nat_eq, List, [], ◌∷◌, ◌++◌, length, take, drop, Option, Some, None, option_map, option_and_then, ◌⊎◌, inl, inr, ⊎_elim, refl, sym, ap, ap₂, ◌∙◌, subst, arith, length-append}
use Rattle.std.proofs.lemmas.Bool.{true≢false, false≢true, ne_eqb, eqb-true, or_cases}
use Rattle.std.proofs.lemmas.List.{take-append-le, drop-append-le}
use Rattle.std.proofs.lemmas.List.Sums.{prefix_len-le-length}
use Rattle.std.specs.Prelude.{⊤}
use Rattle.std.specs.List.{prefix_len, starts_with}
use Rattle.std.specs.Char.{is_ascii_digit}
use Rattle.json.specs.Token.{Token, number, boolean, null, bad}
use Rattle.json.specs.Word.{is_operator, is_space, head, ends_word, after_digits, after_minus, after_sign, after_whole, after_fraction, after_exponent, after_number, number_before, literal, word}
use Rattle.json.specs.Ascii.{true_text, false_text, null_text}
use lib.Pointwise.{pointwise}

-- ---- the bytes that end a word

abbrev pub ends : ℕ → Bool
ends x = is_operator x || is_space x

or_last : (P : ℕ → Type 0) (x c : ℕ) (b : Bool) → P c → (b ≡ true → P x) → (b ≡ true) ⊎ ((x == c) ≡ true) → P x
or_last P x c b p f (inl e) = f e
or_last P x c b p f (inr e) = subst P (sym (eqb-true x c e)) p

is_one : (P : ℕ → Type 0) (x c : ℕ) → P c → (x == c) ≡ true → P x
is_one P x c p e = subst P (sym (eqb-true x c e)) p

pub each_space : (P : ℕ → Type 0) → P 32 → P 9 → P 10 → P 13 → (x : ℕ) → is_space x ≡ true → P x
each_space P a b c d x k =
    or_last P x 13 _ d (λ h. or_last P x 10 _ c (λ i. or_last P x 9 _ b (λ j. is_one P x 32 a j) (or_cases _ _ i)) (or_cases _ _ h)) (or_cases _ _ k)

pub each_operator : (P : ℕ → Type 0) → P 123 → P 125 → P 91 → P 93 → P 58 → P 44 → (x : ℕ) → is_operator x ≡ true → P x
each_operator P a b c d e f x k =
    or_last P x 44 _ f (λ g. or_last P x 58 _ e (λ h. or_last P x 93 _ d (λ i. or_last P x 91 _ c (λ j. or_last P x 125 _ b (λ l. is_one P x 123 a l)
    (or_cases _ _ j)) (or_cases _ _ i)) (or_cases _ _ h)) (or_cases _ _ g)) (or_cases _ _ k)

pub no_digit_ends : (x : ℕ) → ends x ≡ true → is_ascii_digit x ≡ false
no_digit_ends x k =
    let P = λ (y : ℕ). is_ascii_digit y ≡ false in
    ⊎_elim (each_operator P refl refl refl refl refl refl x) (each_space P refl refl refl refl x) (or_cases (is_operator x) (is_space x) k)

no_digit : (r : List ℕ) → ends_word r ≡ true → prefix_len is_ascii_digit r ≡ 0
no_digit [] e = refl
no_digit (x ∷ xs) e = ap (λ b. cond b (1 + prefix_len is_ascii_digit xs) 0) (no_digit_ends x e)

abbrev pub NoneEnds : List ℕ → Type 0
NoneEnds [] = ⊤
NoneEnds (n ∷ ns) = (ends n ≡ false) × NoneEnds ns

-- a name that does not begin what ends a word
no_name : (n : ℕ) (ns r : List ℕ) → ends n ≡ false → ends_word r ≡ true → pointwise nat_eq (n ∷ ns) (take (suc (length ns)) r) ≡ false
no_name n ns [] h e = refl
no_name n ns (y ∷ ys) h e = ap (λ b. b && pointwise nat_eq ns (take (length ns) ys)) (ne_eqb n y (λ same. true≢false (sym e ∙ ap ends (sym same) ∙ h)))

and_assoc : (a b c : Bool) → (a && b) && c ≡ a && (b && c)
and_assoc true b c = refl
and_assoc false b c = refl

abbrev followed : List ℕ → Option (List ℕ) → Option (List ℕ)
followed rest o = option_map (λ r. r ++ rest) o

module _ (rest : List ℕ) (ended : ends_word rest ≡ true) where
  same_test : (c : ℕ) (t : List ℕ) → ends c ≡ false → (head (t ++ rest) == c) ≡ (head t == c)
  same_test c [] h =
      ne_eqb (head rest) c (λ e. true≢false (sym ended ∙ ap ends e ∙ h)) ∙ sym (ne_eqb 32 c (λ e. true≢false (ap ends e ∙ h)))
  same_test c (x ∷ xs) h = refl

  same_end : (t : List ℕ) → ends_word (t ++ rest) ≡ ends_word t
  same_end [] = ended
  same_end (x ∷ xs) = refl

  one : (c : ℕ) (t : List ℕ) → ends c ≡ false → (head t == c) ≡ true → drop 1 (t ++ rest) ≡ drop 1 t ++ rest
  one c [] h e = absurd (true≢false (ap ends (eqb-true 32 c e) ∙ h))
  one c (x ∷ xs) h e = refl

  either : (a b : ℕ) (t : List ℕ) → ends a ≡ false → ends b ≡ false → ((head t == a) ≡ true) ⊎ ((head t == b) ≡ true) → drop 1 (t ++ rest) ≡ drop 1 t ++ rest
  either a b t p q (inl e) = one a t p e
  either a b t p q (inr e) = one b t q e

  optional : (t : List ℕ) (b c : Bool) → c ≡ b → (b ≡ true → drop 1 (t ++ rest) ≡ drop 1 t ++ rest) → cond c (drop 1 (t ++ rest)) (t ++ rest) ≡ cond b (drop 1 t) t ++ rest
  optional t true true e f = f refl
  optional t false false e f = refl
  optional t true false e f = absurd (false≢true e)
  optional t false true e f = absurd (true≢false e)

  -- both take the same side of a test
  by_test : (b c : Bool) (x y p q : Option (List ℕ)) → c ≡ b → (b ≡ true → p ≡ followed rest x) → q ≡ followed rest y → cond c p q ≡ followed rest (cond b x y)
  by_test true true x y p q e f g = f refl
  by_test false false x y p q e f g = g
  by_test true false x y p q e f g = absurd (false≢true e)
  by_test false true x y p q e f g = absurd (true≢false e)

  then : (f : List ℕ → Option (List ℕ)) → ((u : List ℕ) → f (u ++ rest) ≡ followed rest (f u)) → (o p : Option (List ℕ)) → p ≡ followed rest o
      → option_and_then f p ≡ followed rest (option_and_then f o)
  then f g None p h = ap (option_and_then f) h
  then f g (Some r) p h = ap (option_and_then f) h ∙ g r

  same_digits : (t : List ℕ) → prefix_len is_ascii_digit (t ++ rest) ≡ prefix_len is_ascii_digit t
  same_digits [] = no_digit rest ended
  same_digits (x ∷ xs) = ap (λ n. cond (is_ascii_digit x) (1 + n) 0) (same_digits xs)

  digits : (t : List ℕ) → after_digits (t ++ rest) ≡ followed rest (after_digits t)
  digits t =
      let n = prefix_len is_ascii_digit t in
      by_test (n == 0) (prefix_len is_ascii_digit (t ++ rest) == 0) None (Some (drop n t)) None _ (ap (λ k. k == 0) (same_digits t)) (λ e. refl)
      (ap (λ k. Some (drop k (t ++ rest))) (same_digits t) ∙ ap Some (drop-append-le n t rest (prefix_len-le-length is_ascii_digit t)))

  whole : (t : List ℕ) → after_whole (t ++ rest) ≡ followed rest (after_whole t)
  whole t = by_test (head t == 48) _ (Some (drop 1 t)) _ _ _ (same_test 48 t refl) (λ e. ap Some (one 48 t refl e)) (digits t)

  fraction : (t : List ℕ) → after_fraction (t ++ rest) ≡ followed rest (after_fraction t)
  fraction t = by_test (head t == 46) _ _ (Some t) _ _ (same_test 46 t refl) (λ e. ap after_digits (one 46 t refl e) ∙ digits (drop 1 t)) refl

  signed : (t : List ℕ) → after_digits (after_sign (t ++ rest)) ≡ followed rest (after_digits (after_sign t))
  signed t =
      ap after_digits (optional t ((head t == 45) || (head t == 43)) _ (ap₂ (λ a b. a || b) (same_test 45 t refl) (same_test 43 t refl)) (λ e. either 45 43 t refl refl (or_cases _ _ e)))
      ∙ digits (after_sign t)

  exponent : (t : List ℕ) → after_exponent (t ++ rest) ≡ followed rest (after_exponent t)
  exponent t =
      by_test ((head t == 101) || (head t == 69)) _ _ (Some t) _ _ (ap₂ (λ a b. a || b) (same_test 101 t refl) (same_test 69 t refl))
      (λ e. ap (λ u. after_digits (after_sign u)) (either 101 69 t refl refl (or_cases _ _ e)) ∙ signed (drop 1 t)) refl

  same_number : (t : List ℕ) → after_number (t ++ rest) ≡ followed rest (after_number t)
  unfolding after_number
  same_number t =
      then after_exponent exponent _ _ (then after_fraction fraction _ _
      (ap after_whole (optional t (head t == 45) _ (same_test 45 t refl) (one 45 t refl)) ∙ whole (after_minus t)))

  same_front : (t r : List ℕ) → take (length (t ++ rest) - length (r ++ rest)) (t ++ rest) ≡ take (length t - length r) t
  same_front t r =
      let n : length (t ++ rest) - length (r ++ rest) ≡ length t - length r = omega (arith, length-append t rest, length-append r rest) in
      ap (λ k. take k (t ++ rest)) n ∙ take-append-le (length t - length r) t rest (omega arith)

  same_number_before : (t : List ℕ) (o : Option (List ℕ)) → number_before (t ++ rest) (followed rest o) ≡ number_before t o
  same_number_before t None = refl
  same_number_before t (Some r) = ap₂ (λ b s. cond b (number s) bad) (same_end r) (same_front t r)

  same_name : (name t : List ℕ) → NoneEnds name
      → (starts_with nat_eq (t ++ rest) name && ends_word (drop (length name) (t ++ rest))) ≡ (starts_with nat_eq t name && ends_word (drop (length name) t))
  same_name [] t h = same_end t
  same_name (n ∷ ns) [] h = ap (λ b. b && ends_word (drop (suc (length ns)) rest)) (no_name n ns rest h.0 ended)
  same_name (n ∷ ns) (x ∷ xs) h =
      and_assoc (nat_eq n x) _ _ ∙ ap (λ b. nat_eq n x && b) (same_name ns xs h.1) ∙ sym (and_assoc (nat_eq n x) _ _)

  same_literal : (name : List ℕ) (token : Token) (t : List ℕ) → NoneEnds name → literal name token (t ++ rest) ≡ literal name token t
  same_literal name token t h = ap (λ b. cond b token bad) (same_name name t h)

  pub same_word : (t : List ℕ) → word (t ++ rest) ≡ word t
  unfolding word
  same_word t =
      let yes = same_literal true_text (boolean true) t (refl, (refl, (refl, (refl, tt)))) in
      let no = same_literal false_text (boolean false) t (refl, (refl, (refl, (refl, (refl, tt))))) in
      let none = same_literal null_text null t (refl, (refl, (refl, (refl, tt)))) in
      let numbers = ap (number_before (t ++ rest)) (same_number t) ∙ same_number_before t (after_number t) in
      λ i. cond (same_test 116 t refl i) (yes i) (cond (same_test 102 t refl i) (no i) (cond (same_test 110 t refl i) (none i) (numbers i)))
