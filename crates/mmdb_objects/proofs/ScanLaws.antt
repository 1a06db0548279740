-- The lexemes at a byte of a text.
use Rattle.std.proofs.Common.{◌≡◌, ℕ, ◌+◌, ◌-◌, ◌*◌, ◌<◌, ◌≤◌, suc, Bool, true, false, cond, ◌&&◌, ◌||◌, ◌==◌, nat_eq, List, [], ◌∷◌, ◌++◌, nat_le, nat_lt, length, take, drop, get_or, Option, Some, None, option_and_then, ⊎_elim, refl, sym, ap, ap₂, ◌∙◌, subst, arith}
use Rattle.std.proofs.lemmas.Bool.{true≢false, false≢true, false_from_ne_true, leb-true, lt-ltb, le-leb, ltb-true, eqb-true, eq-eqb, ne_eqb, or_parts, or_cases, and_parts, not-true}
use Rattle.std.proofs.lemmas.List.{drop_more, drop-drop, length-drop}
use Rattle.std.specs.Option.{IfSome, is_some}
use Rattle.std.specs.List.{prefix_len, starts_with}
use Rattle.std.specs.Char.{is_ascii_digit, digit_value, encode_utf8}
use Rattle.json.specs.Token.{Token, number, boolean, null, bad}
use Rattle.json.specs.Text.{content, plain, prepend, after_backslash, after_u, after_high, short_escape, code_unit, is_high_surrogate, is_low_surrogate}
use Rattle.json.specs.Word.{is_operator, is_space, head, ends_word, after_digits, after_minus, after_sign, after_whole, after_fraction, after_exponent, after_number, number_before, literal, word}
use Rattle.json.specs.Ascii.{true_text, false_text, null_text}
use Rattle.json.specs.Lex.{Lexeme, token, comma, colon, quote, backslash, operator, space, other, class, Mode, between, in_word, in_string, in_escape, lex, lex_byte, string_token}
use Rattle.json.specs.Json as json
use Rattle.mmdb_objects.specs.Scanned.{lexemes_at, bytes_between, is_plain, EndsAt, EndsPlain, EndsString, EndsEscape, EndsNumber, IsCode, IsWordOf, HasWord, begins_number, begins_integer, HasName, HasKey}
use Rattle.mmdb_objects.proofs.WordLaws.{ends, each_space, each_operator, no_digit_ends, NoneEnds}
use Rattle.mmdb_objects.proofs.StringLaws.{lex_plain, lex_backslash, lex_escaped, lex_unit}

-- ---- the byte that is first

front : (c : ℕ) (xs : List ℕ) → (32 == c) ≡ false → head xs ≡ c → xs ≡ c ∷ drop 1 xs
front c [] apart e = absurd (true≢false (sym (eq-eqb 32 c e) ∙ apart))
front c (x ∷ xs) apart e = ap (λ y. y ∷ xs) e

pub front_at : (c : ℕ) (text : List ℕ) (at : ℕ) → (32 == c) ≡ false → head (drop at text) ≡ c → drop at text ≡ c ∷ drop (at + 1) text
front_at c text at apart e = front c (drop at text) apart e ∙ ap (λ l. c ∷ l) (drop-drop 1 at text)

-- the byte at an index is the first of the rest
pub here_is : (text : List ℕ) (at x : ℕ) → at < length text → get_or text at 0 ≡ x → head (drop at text) ≡ x
here_is text at x below e = ap head (drop_more text at 0 below) ∙ e

pub at_space : (text : List ℕ) (at : ℕ) → at < length text → is_space (get_or text at 0) ≡ true → lexemes_at text (at + 1) ≡ lexemes_at text at
unfolding lex
at_space text at below e =
    let spaced = each_space (λ x. lex between (x ∷ drop (at + 1) text) ≡ lex between (drop (at + 1) text)) refl refl refl refl (get_or text at 0) e in
    sym (ap (lex between) (drop_more text at 0 below) ∙ spaced)

-- the same after one space
pub behind_space : (text : List ℕ) (at next : ℕ) → next ≡ at + 1 → at < length text → get_or text at 0 ≡ 32 → lexemes_at text next ≡ lexemes_at text at
behind_space text at next same below e = ap (lexemes_at text) same ∙ at_space text at below (ap is_space e)

pub at_comma : (text : List ℕ) (at : ℕ) → head (drop at text) ≡ 44 → lexemes_at text at ≡ comma ∷ lexemes_at text (at + 1)
unfolding lex
at_comma text at e = ap (lex between) (front_at 44 text at refl e)

pub at_colon : (text : List ℕ) (at : ℕ) → head (drop at text) ≡ 58 → lexemes_at text at ≡ colon ∷ lexemes_at text (at + 1)
unfolding lex
at_colon text at e = ap (lex between) (front_at 58 text at refl e)

pub at_open_brace : (text : List ℕ) (at : ℕ) → head (drop at text) ≡ 123 → lexemes_at text at ≡ token Token.begin_object ∷ lexemes_at text (at + 1)
unfolding lex
at_open_brace text at e = ap (lex between) (front_at 123 text at refl e)

pub at_close_brace : (text : List ℕ) (at : ℕ) → head (drop at text) ≡ 125 → lexemes_at text at ≡ token Token.end_object ∷ lexemes_at text (at + 1)
unfolding lex
at_close_brace text at e = ap (lex between) (front_at 125 text at refl e)

pub at_open_bracket : (text : List ℕ) (at : ℕ) → head (drop at text) ≡ 91 → lexemes_at text at ≡ token Token.begin_array ∷ lexemes_at text (at + 1)
unfolding lex
at_open_bracket text at e = ap (lex between) (front_at 91 text at refl e)

pub at_close_bracket : (text : List ℕ) (at : ℕ) → head (drop at text) ≡ 93 → lexemes_at text at ≡ token Token.end_array ∷ lexemes_at text (at + 1)
unfolding lex
at_close_bracket text at e = ap (lex between) (front_at 93 text at refl e)

-- ---- strings all of whose bytes stand for themselves

record Plain (xs : List ℕ) (n : ℕ) : Type 0 where
  bytes : content plain xs ≡ Some (take n xs)
  passed : lex in_string xs ≡ lex between (drop (suc n) xs)

plain_byte : (x : ℕ) (xs : List ℕ) (n : ℕ) → is_plain x ≡ true → Plain xs n → Plain (x ∷ xs) (suc n)
unfolding content
plain_byte x xs n e rest =
    let none = or_parts ((x == 34) || (x == 92)) _ (not-true _ e) in
    let tests = or_parts (x == 34) _ none.0 in
    record {
      bytes = (λ i. cond (tests.0 i) (Some []) (cond (tests.1 i) (content after_backslash xs) (cond (none.1 i) None (prepend (x ∷ []) (rest.bytes i)))));
      passed = lex_plain x xs tests.0 tests.1 ∙ rest.passed;
    }

-- which bytes pass is a variable here, so that nothing computes
module _ (passes : ℕ → Bool) (all_plain : (x : ℕ) → passes x ≡ true → is_plain x ≡ true) where
  plain_step : (x : ℕ) (xs : List ℕ) (b : Bool) (n : ℕ) → passes x ≡ b → head (drop (cond b (1 + n) 0) (x ∷ xs)) ≡ 34
      → (head (drop n xs) ≡ 34 → Plain xs n) → Plain (x ∷ xs) (cond b (1 + n) 0)
  unfolding content lex
  plain_step x xs true n e stop rest =
      let next : suc n ≡ 1 + n = omega arith in
      subst (Plain (x ∷ xs)) next (plain_byte x xs n (all_plain x e) (rest (ap (λ k. head (drop k (x ∷ xs))) next ∙ stop)))
  plain_step x xs false n e stop rest = record {
    bytes = ap (λ y. content plain (y ∷ xs)) stop;
    passed = ap (λ y. lex in_string (y ∷ xs)) stop;
  }

  plain_run : (xs : List ℕ) → head (drop (prefix_len passes xs) xs) ≡ 34 → Plain xs (prefix_len passes xs)
  plain_run [] e = absurd (false≢true (eq-eqb 32 34 e))
  plain_run (x ∷ xs) e = plain_step x xs (passes x) (prefix_len passes xs) refl e (plain_run xs)

below : (c : ℕ) (xs : List ℕ) → (32 == c) ≡ false → head xs ≡ c → 0 < length xs
below c [] apart e = absurd (true≢false (sym (eq-eqb 32 c e) ∙ apart))
below c (x ∷ xs) apart e = omega arith

-- a quote is at a byte of the text
pub inside : (text : List ℕ) (at : ℕ) → head (drop at text) ≡ 34 → at < length text
inside text at e = omega (arith, below 34 (drop at text) refl e, length-drop at text)

pub string_ends : (text : List ℕ) (from end : ℕ) → end ≡ from + prefix_len is_plain (drop from text) → head (drop end text) ≡ 34 → EndsPlain text from end
string_ends text from end is e =
    let n = prefix_len is_plain (drop from text) in
    let there : drop n (drop from text) ≡ drop end text = drop-drop n from text ∙ ap (λ k. drop k text) (sym is) in
    let run = plain_run is_plain (λ x e. e) (drop from text) (ap head there ∙ e) in
    let count : n ≡ end - from = omega arith in
    let behind : from + suc n ≡ end + 1 = omega arith in
    let some = below 34 (drop end text) refl e in
    record {
      low = omega arith;
      high = omega (arith, some, length-drop end text);
      bytes = run.bytes ∙ ap (λ k. Some (take k (drop from text))) count;
      passed = run.passed ∙ ap (lex between) (drop-drop (suc n) from text ∙ ap (λ k. drop k text) behind);
    }

-- a string from its first quote on
pub at_string : (text s : List ℕ) (from end : ℕ) → head (drop from text) ≡ 34 → content plain (drop (from + 1) text) ≡ Some s → lex in_string (drop (from + 1) text) ≡ lexemes_at text (end + 1)
    → lexemes_at text from ≡ token (Token.string s) ∷ lexemes_at text (end + 1)
unfolding lex
at_string text s from end e bytes passed =
    ap (lex between) (front_at 34 text from refl e) ∙ (λ i. token (string_token (bytes i)) ∷ passed i)

-- ---- strings with escapes

-- what a string is follows from what its rest is
pub record Goes (xs rest : List ℕ) : Type 0 where
  pub bytes : (s : List ℕ) → content plain rest ≡ Some s → (t : List ℕ) × (content plain xs ≡ Some t)
  pub passed : lex in_string xs ≡ lex in_string rest

pub goes_on : (xs ys zs : List ℕ) → Goes xs ys → Goes ys zs → Goes xs zs
goes_on xs ys zs a b = record {
  bytes = λ s e. let (t, f) = b.bytes s e in a.bytes t f;
  passed = a.passed ∙ b.passed;
}

pub goes_nowhere : (xs : List ℕ) → Goes xs xs
goes_nowhere xs = record { bytes = λ s e. (s, e); passed = refl }

goes_byte : (x : ℕ) (xs : List ℕ) → is_plain x ≡ true → Goes (x ∷ xs) xs
unfolding content
goes_byte x xs e =
    let none = or_parts ((x == 34) || (x == 92)) _ (not-true _ e) in
    let tests = or_parts (x == 34) _ none.0 in
    record {
      bytes = λ s f. (x ∷ s, λ i. cond (tests.0 i) (Some []) (cond (tests.1 i) (content after_backslash xs) (cond (none.1 i) None (prepend (x ∷ []) (f i)))));
      passed = lex_plain x xs tests.0 tests.1;
    }

module _ (passes : ℕ → Bool) (all_plain : (x : ℕ) → passes x ≡ true → is_plain x ≡ true) where
  goes_step : (x : ℕ) (xs : List ℕ) (b : Bool) (n : ℕ) → passes x ≡ b → Goes xs (drop n xs) → Goes (x ∷ xs) (drop (cond b (1 + n) 0) (x ∷ xs))
  goes_step x xs true n e rest =
      let next : suc n ≡ 1 + n = omega arith in
      subst (λ k. Goes (x ∷ xs) (drop k (x ∷ xs))) next (goes_on (x ∷ xs) xs (drop n xs) (goes_byte x xs (all_plain x e)) rest)
  goes_step x xs false n e rest = goes_nowhere (x ∷ xs)

  goes_run : (xs : List ℕ) → Goes xs (drop (prefix_len passes xs) xs)
  goes_run [] = goes_nowhere []
  goes_run (x ∷ xs) = goes_step x xs (passes x) (prefix_len passes xs) refl (goes_run xs)

escape_read : (c : ℕ) (xs s : List ℕ) (o : Option ℕ) → short_escape c ≡ o → is_some o ≡ true → (c == 117) ≡ false → content plain xs ≡ Some s → (t : List ℕ) × (content after_backslash (c ∷ xs) ≡ Some t)
unfolding content
escape_read c xs s None is e other_byte f = absurd (false≢true e)
escape_read c xs s (Some u) is e other_byte f = (u ∷ s, λ i. cond (other_byte i) (content after_u xs) (option_and_then (λ k. prepend (k ∷ []) (f i)) (is i)))

not_u : (c : ℕ) → is_some (short_escape c) ≡ true → (c == 117) ≡ false
unfolding short_escape
not_u c e = ne_eqb c 117 (λ same. true≢false (sym e ∙ ap (λ x. is_some (short_escape x)) same))

first_escape : (xs : List ℕ) → is_some (short_escape (head xs)) ≡ true → (0 < length xs) × (xs ≡ head xs ∷ drop 1 xs)
unfolding short_escape
first_escape [] e = absurd (false≢true e)
first_escape (x ∷ xs) e = (omega arith, refl)

-- an escape by one byte
pub short_ends : (text : List ℕ) (from : ℕ) → is_some (short_escape (head (drop from text))) ≡ true → EndsEscape text from (from + 1)
short_ends text from e =
    let c = head (drop from text) in
    let (some, is) = first_escape (drop from text) e in
    let here : drop from text ≡ c ∷ drop (from + 1) text = is ∙ ap (λ l. c ∷ l) (drop-drop 1 from text) in
    record {
      low = omega arith;
      high = omega (arith, some, length-drop from text);
      bytes = λ s f.
          let (t, g) = escape_read c (drop (from + 1) text) s (short_escape c) refl e (not_u c e) f in
          (t, ap (content after_backslash) here ∙ g);
      passed = ap (lex in_escape) here ∙ lex_escaped c (drop (from + 1) text);
    }

not_surrogate : (u : ℕ) → u < 55296 → (is_high_surrogate u ≡ false) × (is_low_surrogate u ≡ false)
not_surrogate u h =
    let low = false_from_ne_true (nat_le 55296 u) (λ e. let le = leb-true 55296 u e in let never : ⊥ = omega arith in never) in
    let lower = false_from_ne_true (nat_le 56320 u) (λ e. let le = leb-true 56320 u e in let never : ⊥ = omega arith in never) in
    (ap (λ b. b && nat_lt u 56320) low, ap (λ b. b && nat_lt u 57344) lower)

unit_small : (x y z w : ℕ) → x < 10 → y < 16 → z < 16 → w < 16 → x * 4096 + y * 256 + z * 16 + w < 55296
unit_small x y z w p q r s = omega arith

lt-more : (x : ℕ) → x < 10 → x < 16
lt-more x h = omega arith

unit_of : (a b c d : ℕ) → digit_value a < 10 → digit_value b < 16 → digit_value c < 16 → digit_value d < 16
    → (u : ℕ) × (u < 55296) × (code_unit a b c d ≡ Some u)
unfolding code_unit
unit_of a b c d p q r s =
    let u = digit_value a * 4096 + digit_value b * 256 + digit_value c * 16 + digit_value d in
    (u, unit_small (digit_value a) (digit_value b) (digit_value c) (digit_value d) p q r s, λ i. cond (lt-ltb (digit_value a) 16 (lt-more (digit_value a) p) i && lt-ltb (digit_value b) 16 q i && lt-ltb (digit_value c) 16 r i && lt-ltb (digit_value d) 16 s i) (Some u) None)

unit_read : (a b c d u : ℕ) (xs s : List ℕ) → code_unit a b c d ≡ Some u → u < 55296 → content plain xs ≡ Some s → content after_backslash (117 ∷ a ∷ b ∷ c ∷ d ∷ xs) ≡ Some (encode_utf8 u ++ s)
unfolding content
unit_read a b c d u xs s is small f =
    let apart = not_surrogate u small in
    ap (option_and_then (λ k. cond (is_high_surrogate k) (content (after_high k) xs) (cond (is_low_surrogate k) None (prepend (encode_utf8 k) (content plain xs))))) is
    ∙ (λ i. cond (apart.0 i) (content (after_high u) xs) (cond (apart.1 i) None (prepend (encode_utf8 u) (f i))))

five : (text : List ℕ) (i : ℕ) → i + 4 ≤ length text → drop i text ≡ get_or text i 0 ∷ get_or text (i + 1) 0 ∷ get_or text (i + 2) 0 ∷ get_or text (i + 3) 0 ∷ drop (i + 4) text
five d i h =
    let more : (j k : ℕ) → k ≡ j + 1 → j < length d → drop j d ≡ get_or d j 0 ∷ drop k d = λ j k e l. drop_more d j 0 l ∙ ap (λ n. get_or d j 0 ∷ drop n d) (sym e) in
    more i (i + 1) refl (omega arith) ∙ ap (λ l. get_or d i 0 ∷ l) (more (i + 1) (i + 2) (omega arith) (omega arith) ∙ ap (λ l. get_or d (i + 1) 0 ∷ l)
    (more (i + 2) (i + 3) (omega arith) (omega arith) ∙ ap (λ l. get_or d (i + 2) 0 ∷ l) (more (i + 3) (i + 4) (omega arith) (omega arith))))

-- an escape by the four digits after a `u`
pub code_ends : (text : List ℕ) (from end : ℕ) → head (drop from text) ≡ 117 → IsCode text (from + 1) end → EndsEscape text from end
code_ends text from end e code =
    let i = from + 1 in
    let a = get_or text i 0 in
    let b = get_or text (i + 1) 0 in
    let c = get_or text (i + 2) 0 in
    let d = get_or text (i + 3) 0 in
    let there : drop (i + 4) text ≡ drop end text = ap (λ k. drop k text) (sym code.there) in
    let here : drop from text ≡ 117 ∷ a ∷ b ∷ c ∷ d ∷ drop end text =
    front_at 117 text from refl e ∙ ap (λ l. 117 ∷ l) (five text i (omega (arith, code.there, code.within)) ∙ ap (λ l. a ∷ b ∷ c ∷ d ∷ l) there) in
    let (u, small, is) = unit_of a b c d code.first code.second code.third code.fourth in
    record {
      low = omega (arith, code.there);
      high = code.within;
      bytes = λ s f. (encode_utf8 u ++ s, ap (content after_backslash) here ∙ unit_read a b c d u (drop end text) s is small f);
      passed = ap (lex in_escape) here ∙ lex_escaped 117 (a ∷ b ∷ c ∷ d ∷ drop end text) ∙ lex_unit a b c d u (drop end text) is;
    }

goes_escape : (xs rest : List ℕ) → ((s : List ℕ) → content plain rest ≡ Some s → (t : List ℕ) × (content after_backslash xs ≡ Some t)) → lex in_escape xs ≡ lex in_string rest → Goes (92 ∷ xs) rest
unfolding content
goes_escape xs rest bytes passed = record {
  bytes = λ s f. bytes s f;
  passed = lex_backslash 92 xs refl ∙ passed;
}

-- plain bytes and an escape
pub past_escape : (text : List ℕ) (at stop end : ℕ) → stop ≡ at + prefix_len is_plain (drop at text) → head (drop stop text) ≡ 92 → EndsEscape text (stop + 1) end → Goes (drop at text) (drop end text)
past_escape text at stop end is e escape =
    let there = drop-drop (prefix_len is_plain (drop at text)) at text ∙ ap (λ k. drop k text) (sym is) in
    let run = subst (Goes (drop at text)) there (goes_run is_plain (λ x f. f) (drop at text)) in
    goes_on (drop at text) (drop stop text) (drop end text) run
    (subst (λ l. Goes l (drop end text)) (sym (front_at 92 text stop refl e)) (goes_escape (drop (stop + 1) text) (drop end text) escape.bytes escape.passed))

-- a string whose rest has no escapes
pub last_run : (text : List ℕ) (from at stop : ℕ) → from ≤ at → Goes (drop from text) (drop at text) → stop ≡ at + prefix_len is_plain (drop at text) → head (drop stop text) ≡ 34 → EndsString text from stop
last_run text from at stop low so_far is e =
    let closed = string_ends text at stop is e in
    record {
      low = omega (arith, closed.low);
      high = closed.high;
      bytes = so_far.bytes (bytes_between text at stop) closed.bytes;
      passed = so_far.passed ∙ closed.passed;
    }

-- ---- words

in_word_class : (q b o s : Bool) (x : ℕ) (r : List ℕ) (k : Mode → List Lexeme) → o ≡ false → s ≡ false → lex_byte in_word (cond q quote (cond b backslash (cond o operator (cond s space other)))) x r k ≡ k in_word
in_word_class true b o s x r k e f = refl
in_word_class false true o s x r k e f = refl
in_word_class false false true s x r k e f = absurd (true≢false e)
in_word_class false false false true x r k e f = absurd (true≢false f)
in_word_class false false false false x r k e f = refl

passed_byte : (x : ℕ) (xs : List ℕ) → ends x ≡ false → lex in_word (x ∷ xs) ≡ lex in_word xs
unfolding lex
passed_byte x xs e =
    let parts = or_parts (is_operator x) (is_space x) e in
    in_word_class (x == 34) (x == 92) (is_operator x) (is_space x) x xs (λ n. lex n xs) parts.0 parts.1

digit_passes : (x : ℕ) → is_ascii_digit x ≡ true → ends x ≡ false
digit_passes x e = false_from_ne_true (ends x) (λ h. true≢false (sym e ∙ no_digit_ends x h))

one_passes : (c : ℕ) (t : List ℕ) → ends c ≡ false → (head t == c) ≡ true → lex in_word t ≡ lex in_word (drop 1 t)
one_passes c [] apart e = absurd (true≢false (ap ends (eqb-true 32 c e) ∙ apart))
one_passes c (x ∷ xs) apart e = passed_byte x xs (ap ends (eqb-true x c e) ∙ apart)

-- what an optional part leaves passes as the whole does
either_passes : (b : Bool) (t : List ℕ) → (b ≡ true → lex in_word t ≡ lex in_word (drop 1 t)) → lex in_word t ≡ lex in_word (cond b (drop 1 t) t)
either_passes true t f = f refl
either_passes false t f = refl

minus_passes : (t : List ℕ) → lex in_word t ≡ lex in_word (after_minus t)
minus_passes t = either_passes (head t == 45) t (one_passes 45 t refl)

sign_passes : (t : List ℕ) → lex in_word t ≡ lex in_word (after_sign t)
sign_passes t =
    either_passes ((head t == 45) || (head t == 43)) t (λ e. ⊎_elim (one_passes 45 t refl) (one_passes 43 t refl) (or_cases _ _ e))

digits_step : (x : ℕ) (xs : List ℕ) (b : Bool) → is_ascii_digit x ≡ b → lex in_word xs ≡ lex in_word (drop (prefix_len is_ascii_digit xs) xs)
    → lex in_word (x ∷ xs) ≡ lex in_word (drop (cond b (1 + prefix_len is_ascii_digit xs) 0) (x ∷ xs))
digits_step x xs true e rest =
    let next : suc (prefix_len is_ascii_digit xs) ≡ 1 + prefix_len is_ascii_digit xs = omega arith in
    passed_byte x xs (digit_passes x e) ∙ rest ∙ ap (λ k. lex in_word (drop k (x ∷ xs))) next
digits_step x xs false e rest = refl

digits_pass : (t : List ℕ) → lex in_word t ≡ lex in_word (drop (prefix_len is_ascii_digit t) t)
digits_pass [] = refl
digits_pass (x ∷ xs) = digits_step x xs (is_ascii_digit x) refl (digits_pass xs)

-- A part of a number passes over what it reads.
abbrev Passes : List ℕ → Option (List ℕ) → Type 0
Passes t None = Unit {0}
Passes t (Some r) = lex in_word t ≡ lex in_word r

by_test : (t : List ℕ) (b : Bool) (x y : Option (List ℕ)) → (b ≡ true → Passes t x) → Passes t y → Passes t (cond b x y)
by_test t true x y f g = f refl
by_test t false x y f g = g

earlier : (t u : List ℕ) (o : Option (List ℕ)) → lex in_word t ≡ lex in_word u → Passes u o → Passes t o
earlier t u None e p = tt
earlier t u (Some r) e p = e ∙ p

then : (t : List ℕ) (f : List ℕ → Option (List ℕ)) (o : Option (List ℕ)) → Passes t o → ((u : List ℕ) → Passes u (f u)) → Passes t (option_and_then f o)
then t f None p g = tt
then t f (Some r) p g = earlier t r (f r) p (g r)

after_digits_pass : (t : List ℕ) → Passes t (after_digits t)
after_digits_pass t = by_test t (prefix_len is_ascii_digit t == 0) None _ (λ e. tt) (digits_pass t)

after_whole_passes : (t : List ℕ) → Passes t (after_whole t)
after_whole_passes t = by_test t (head t == 48) (Some (drop 1 t)) _ (one_passes 48 t refl) (after_digits_pass t)

after_fraction_passes : (t : List ℕ) → Passes t (after_fraction t)
after_fraction_passes t =
    by_test t (head t == 46) _ (Some t) (λ e. earlier t (drop 1 t) _ (one_passes 46 t refl e) (after_digits_pass (drop 1 t))) refl

after_exponent_passes : (t : List ℕ) → Passes t (after_exponent t)
after_exponent_passes t =
    by_test t ((head t == 101) || (head t == 69)) _ (Some t)
    (λ e. earlier t (after_sign (drop 1 t)) _ (⊎_elim (one_passes 101 t refl) (one_passes 69 t refl) (or_cases _ _ e) ∙ sign_passes (drop 1 t)) (after_digits_pass (after_sign (drop 1 t)))) refl

number_passes : (t : List ℕ) → Passes t (after_number t)
unfolding after_number
number_passes t =
    then t after_exponent _ (then t after_fraction _ (earlier t (after_minus t) _ (minus_passes t) (after_whole_passes (after_minus t))) after_fraction_passes) after_exponent_passes

name_passes : (name t : List ℕ) → NoneEnds name → starts_with nat_eq t name ≡ true → lex in_word t ≡ lex in_word (drop (length name) t)
name_passes [] t none e = refl
name_passes (n ∷ ns) [] none e = absurd (false≢true e)
name_passes (n ∷ ns) (x ∷ xs) none e =
    let both = and_parts (nat_eq n x) _ e in
    passed_byte x xs (ap ends (sym (eqb-true n x both.0)) ∙ none.0) ∙ name_passes ns xs none.1 both.1

word_ended : (r : List ℕ) → ends_word r ≡ true → lex in_word r ≡ lex between r
unfolding lex
word_ended [] e = refl
word_ended (x ∷ xs) e =
    let P = λ (y : ℕ). lex in_word (y ∷ xs) ≡ lex between (y ∷ xs) in
    ⊎_elim (each_operator P refl refl refl refl refl refl x) (each_space P refl refl refl refl x) (or_cases (is_operator x) (is_space x) e)

in_class : (t : List ℕ) (r : List ℕ) (k : Token) → class (head t) ≡ other → word t ≡ k → lex in_word t ≡ lex in_word r → ends_word r ≡ true → lex between t ≡ token k ∷ lex between r
unfolding lex
in_class [] r k is e passes ended = absurd (cc)
in_class (x ∷ xs) r k is e passes ended =
    ap (λ c. lex_byte between c x xs (λ n. lex n xs)) is
    ∙ ap₂ (λ w l. token w ∷ l) e (sym (ap (λ c. lex_byte in_word c x xs (λ n. lex n xs)) is) ∙ passes ∙ word_ended r ended)

not_one : (c x : ℕ) → begins_number c ≡ false → begins_number x ≡ true → (x == c) ≡ false
not_one c x apart e = ne_eqb x c (λ same. true≢false (sym e ∙ ap begins_number same ∙ apart))

number_ends : (x : ℕ) → begins_number x ≡ true → ends x ≡ false
number_ends x e = ⊎_elim (λ m. ap ends (eqb-true x 45 m)) (digit_passes x) (or_cases (x == 45) (is_ascii_digit x) e)

number_class : (x : ℕ) → begins_number x ≡ true → class x ≡ other
number_class x e =
    let parts = or_parts (is_operator x) (is_space x) (number_ends x e) in
    λ i. cond (not_one 34 x refl e i) quote (cond (not_one 92 x refl e i) backslash (cond (parts.0 i) operator (cond (parts.1 i) space other)))

number_word : (t r : List ℕ) → begins_number (head t) ≡ true → after_number t ≡ Some r → ends_word r ≡ true → word t ≡ number (take (length t - length r) t)
unfolding word
number_word t r begins e ended =
    (λ i. cond (not_one 116 (head t) refl begins i) (literal true_text (boolean true) t)
    (cond (not_one 102 (head t) refl begins i) (literal false_text (boolean false) t)
    (cond (not_one 110 (head t) refl begins i) (literal null_text null t) (number_before t (e i)))))
    ∙ ap (λ b. cond b (number (take (length t - length r) t)) bad) ended

pub has_number : (text : List ℕ) (from end : ℕ) → begins_number (head (drop from text)) ≡ true → Some (drop end text) ≡ after_number (drop from text) → ends_word (drop end text) ≡ true
    → (j : json.Json) × HasWord text from end j
has_number text from end begins e ended =
    let t = drop from text in
    let r = drop end text in
    let passes = subst (Passes t) (sym e) (number_passes t) in (
      json.number (take (length t - length r) t),
      record {
        word = number (take (length t - length r) t);
        is = refl;
        reads = in_class t r _ (number_class (head t) begins) (number_word t r begins (sym e) ended) passes ended;
      },
    )

-- a number, of which the whole part was read and then the rest
joined : (t : List ℕ) → after_number t ≡ option_and_then after_exponent (option_and_then after_fraction (after_whole (after_minus t)))
unfolding after_number
joined t = refl

pub has_parts : (text : List ℕ) (from point end : ℕ) → begins_number (head (drop from text)) ≡ true → Some (drop point text) ≡ after_whole (after_minus (drop from text)) → EndsNumber text point end
    → (j : json.Json) × HasWord text from end j
has_parts text from point end begins whole behind =
    has_number text from end begins (sym (joined (drop from text) ∙ ap (λ w. option_and_then after_exponent (option_and_then after_fraction w)) (sym whole) ∙ behind.rest)) behind.ended

-- what ends a word is no part of a number
no_part : (x c : ℕ) → ends c ≡ false → ends x ≡ true → (x == c) ≡ false
no_part x c apart e = ne_eqb x c (λ same. true≢false (sym e ∙ ap ends same ∙ apart))

integer_start : (x : ℕ) → begins_integer x ≡ true → (48 < x) × (x < 58)
integer_start x e =
    let parts = and_parts (nat_lt 48 x) (nat_lt x 58) e in
    (ltb-true 48 x parts.0, ltb-true x 58 parts.1)

some_digits : (t : List ℕ) → begins_integer (head t) ≡ true → 0 < prefix_len is_ascii_digit t
some_digits [] e = absurd (false≢true e)
some_digits (x ∷ xs) e =
    let is = integer_start x e in
    let digit : is_ascii_digit x ≡ true = ap₂ (λ a b. a && b) (le-leb 48 x (omega arith)) (le-leb x 57 (omega arith)) in
    omega (arith, ap (λ b. cond b (1 + prefix_len is_ascii_digit xs) 0) digit)

-- a number that begins with a digit other than 0 begins with digits
pub has_digits : (text : List ℕ) (from point end : ℕ) → begins_integer (head (drop from text)) ≡ true → point ≡ from + prefix_len is_ascii_digit (drop from text) → EndsNumber text point end
    → (j : json.Json) × HasWord text from end j
has_digits text from point end begins is behind =
    let t = drop from text in
    let n = prefix_len is_ascii_digit t in
    let x = head t in
    let there : drop n t ≡ drop point text = drop-drop n from text ∙ ap (λ k. drop k text) (sym is) in
    let bounds = integer_start x begins in
    let minus : (x == 45) ≡ false = ne_eqb x 45 (λ same. omega arith) in
    let zeroth : (x == 48) ≡ false = ne_eqb x 48 (λ same. omega arith) in
    let some : (n == 0) ≡ false = ne_eqb n 0 (λ same. omega (arith, some_digits t begins)) in
    let whole : after_whole (after_minus t) ≡ Some (drop point text) =
    ap after_whole (ap (λ b. cond b (drop 1 t) t) minus) ∙ ap (λ b. cond b (Some (drop 1 t)) (after_digits t)) zeroth ∙ ap (λ b. cond b None (Some (drop n t))) some ∙ ap Some there in
    let number : begins_number x ≡ true = ap₂ (λ a b. a || b) minus (ap₂ (λ a b. a && b) (le-leb 48 x (omega arith)) (le-leb x 57 (omega arith))) in
    has_parts text from point end number (sym whole) behind

-- of a rest that may not be read
pub where_read : (P Q : ℕ → Type 0) (end : Option ℕ) → ((e : ℕ) → P e → Q e) → IfSome end P → IfSome end Q
where_read P Q None f h = tt
where_read P Q (Some e) f h = f e h

-- what ends a word ends a number there
pub ends_there : (text : List ℕ) (at : ℕ) → at ≤ length text → ends_word (drop at text) ≡ true → EndsNumber text at at
ends_there text at within ended =
    let t = drop at text in
    let letter = ap₂ (λ a b. a || b) (no_part (head t) 101 refl ended) (no_part (head t) 69 refl ended) in
    record {
      low = omega arith;
      high = within;
      rest = ap (option_and_then after_exponent) (ap (λ b. cond b (after_digits (drop 1 t)) (Some t)) (no_part (head t) 46 refl ended)) ∙ ap (λ b. cond b (after_digits (after_sign (drop 1 t))) (Some t)) letter;
      ended = ended;
    }

literal_is : (name t : List ℕ) (k : Token) → starts_with nat_eq t name ≡ true → ends_word (drop (length name) t) ≡ true → literal name k t ≡ k
literal_is name t k e ended = ap₂ (λ a b. cond (a && b) k bad) e ended

-- a literal of this name, for whose first byte `word` looks for it
has_literal : (name : List ℕ) (text : List ℕ) (from end : ℕ) (k : Token) (j : json.Json) → NoneEnds name → IsWordOf j k
    → class (head (drop from text)) ≡ other → word (drop from text) ≡ literal name k (drop from text)
    → starts_with nat_eq (drop from text) name ≡ true → end ≡ from + length name → ends_word (drop end text) ≡ true
    → (j : json.Json) × HasWord text from end j
has_literal name text from end k j none is here looks e same ended =
    let t = drop from text in
    let there : drop (length name) t ≡ drop end text = drop-drop (length name) from text ∙ ap (λ n. drop n text) (sym same) in (
      j,
      record {
        word = k;
        is = is;
        reads = in_class t (drop end text) k here (looks ∙ literal_is name t k e (ap ends_word there ∙ ended)) (name_passes name t none e ∙ ap (lex in_word) there) ended;
      },
    )

first_t : (t : List ℕ) → head t ≡ 116 → word t ≡ literal true_text (boolean true) t
unfolding word
first_t t e =
    ap (λ x. cond (x == 116) (literal true_text (boolean true) t) (cond (x == 102) (literal false_text (boolean false) t)
    (cond (x == 110) (literal null_text null t) (number_before t (after_number t))))) e

first_f : (t : List ℕ) → head t ≡ 102 → word t ≡ literal false_text (boolean false) t
unfolding word
first_f t e =
    ap (λ x. cond (x == 116) (literal true_text (boolean true) t) (cond (x == 102) (literal false_text (boolean false) t)
    (cond (x == 110) (literal null_text null t) (number_before t (after_number t))))) e

first_n : (t : List ℕ) → head t ≡ 110 → word t ≡ literal null_text null t
unfolding word
first_n t e =
    ap (λ x. cond (x == 116) (literal true_text (boolean true) t) (cond (x == 102) (literal false_text (boolean false) t)
    (cond (x == 110) (literal null_text null t) (number_before t (after_number t))))) e

pub has_true : (text : List ℕ) (from end : ℕ) → head (drop from text) ≡ 116 → HasName text from end true_text → (j : json.Json) × HasWord text from end j
has_true text from end first is =
    has_literal true_text text from end (boolean true) (json.boolean true) (refl, (refl, (refl, (refl, tt)))) refl (ap class first) (first_t (drop from text) first) is.starts is.there is.ended

pub has_false : (text : List ℕ) (from end : ℕ) → head (drop from text) ≡ 102 → HasName text from end false_text → (j : json.Json) × HasWord text from end j
has_false text from end first is =
    has_literal false_text text from end (boolean false) (json.boolean false) (refl, (refl, (refl, (refl, (refl, tt))))) refl (ap class first) (first_f (drop from text) first) is.starts is.there is.ended

pub has_null : (text : List ℕ) (from end : ℕ) → head (drop from text) ≡ 110 → HasName text from end null_text → (j : json.Json) × HasWord text from end j
has_null text from end first is =
    has_literal null_text text from end null json.null (refl, (refl, (refl, (refl, tt)))) refl (ap class first) (first_n (drop from text) first) is.starts is.there is.ended

-- a word from the name of a literal
pub option_word : (text : List ℕ) (from : ℕ) (name : List ℕ) (end : Option ℕ) → ((e : ℕ) → HasName text from e name → (j : json.Json) × HasWord text from e j)
    → IfSome end (λ e. HasName text from e name) → IfSome end (λ e. (j : json.Json) × HasWord text from e j)
option_word text from name None f is = tt
option_word text from name (Some e) f is = f e is

later : (text : List ℕ) (from at : ℕ) (end : Option ℕ) (rest : Option (List ℕ)) → from ≤ at → EndsAt text at end rest → EndsAt text from end rest
later text from at None rest le is = is
later text from at (Some e) rest le is = (is.0, (omega arith, is.1.1))

-- an exponent, from its letter on
pub exponent_ends : (text : List ℕ) (from sign : ℕ) (end : Option ℕ) → ((head (drop from text) == 101) || (head (drop from text) == 69)) ≡ true
    → from ≤ sign → drop sign text ≡ after_sign (drop (from + 1) text) → EndsAt text sign end (after_digits (drop sign text)) → EndsAt text from end (after_exponent (drop from text))
exponent_ends text from sign end letter low is digits =
    let t = drop from text in
    let behind : drop sign text ≡ after_sign (drop 1 t) = is ∙ ap after_sign (sym (drop-drop 1 from text)) in
    let all : after_digits (drop sign text) ≡ after_exponent t = ap after_digits behind ∙ sym (ap (λ b. cond b (after_digits (after_sign (drop 1 t))) (Some t)) letter) in
    later text from sign end (after_exponent t) low (subst (EndsAt text sign end) all digits)

-- ---- keys

pub key_at : (text : List ℕ) (from end mark value : ℕ) → head (drop from text) ≡ 34 → EndsPlain text (from + 1) end → end + 1 ≤ mark → lexemes_at text mark ≡ lexemes_at text (end + 1)
    → head (drop mark text) ≡ 58 → mark + 1 ≤ value → value ≤ length text → lexemes_at text value ≡ lexemes_at text (mark + 1) → HasKey text from end value
key_at text from end mark value first closed low before is high within behind = record {
  low = omega (arith, closed.low);
  high = omega arith;
  within = within;
  reads = at_string text (bytes_between text (from + 1) end) from end first closed.bytes closed.passed
      ∙ ap (λ l. token (Token.string (bytes_between text (from + 1) end)) ∷ l) (sym before ∙ at_colon text mark is ∙ ap (λ l. colon ∷ l) (sym behind));
}

pub if_code : (text : List ℕ) (from : ℕ) (end : Option ℕ) → head (drop from text) ≡ 117 → IfSome end (IsCode text (from + 1)) → IfSome end (EndsEscape text from)
if_code text from None first is = tt
if_code text from (Some e) first is = code_ends text from e first is

-- a string after an escape
pub string_goes_on : (text : List ℕ) (from stop at closing : ℕ) → stop ≡ from + prefix_len is_plain (drop from text) → head (drop stop text) ≡ 92 → EndsEscape text (stop + 1) at → EndsString text at closing → EndsString text from closing
string_goes_on text from stop at closing is e escape closed =
    let so_far = past_escape text from stop at is e escape in
    let (s, bytes) = closed.bytes in
    record {
      low = omega (arith, escape.low, closed.low);
      high = closed.high;
      bytes = so_far.bytes s bytes;
      passed = so_far.passed ∙ closed.passed;
    }

pub if_escaped : (text : List ℕ) (from stop : ℕ) (closing : Option ℕ) → stop ≡ from + prefix_len is_plain (drop from text) → head (drop stop text) ≡ 92
    → IfSome closing (λ q. (at : ℕ) × EndsEscape text (stop + 1) at × EndsString text at q) → IfSome closing (EndsString text from)
if_escaped text from stop None is e has = tt
if_escaped text from stop (Some q) is e has = let (at, escape, closed) = has in string_goes_on text from stop at q is e escape closed
