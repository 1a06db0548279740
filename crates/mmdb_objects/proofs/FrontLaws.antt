-- A text is cut: the lexemes of its front stay the same before any other end.
use Rattle.std.proofs.Common.{◌≡◌, ℕ, zero, suc, ◌≤◌, true, List, [], ◌∷◌, ◌++◌, length, take, drop, ◌-◌, Bool, false, cond, ◌&&◌, ◌==◌, nat_eq, Option, Some, None, refl, ap, ap₂, ◌∙◌, subst, arith, append_assoc, length-append}
use Rattle.std.specs.Prelude.{⊤}
use Rattle.json.specs.Token.{Token, begin_object, number, boolean, null, bad, string}
use Rattle.json.specs.Text.{content, plain}
use Rattle.std.specs.List.{starts_with}
use Rattle.json.specs.Ascii.{true_text, false_text, null_text}
use Rattle.json.specs.Word.{ends_word, head, literal, number_before, after_number, word}
use Rattle.json.specs.Lex.{Lexeme, token, comma, colon, Class, quote, backslash, operator, space, other, class, operator_lexeme, string_token, Mode, between, in_word, in_string, in_escape, lex, lex_byte}
use Rattle.json.proofs.Printed.Numbers.{in_word-ended}
use Rattle.mmdb_objects.proofs.WordLaws.{same_word}
use Rattle.mmdb_objects.proofs.StringLaws.{closed, NoQuote, quote_before}

abbrev pub NotBad : Token → Type 0
NotBad bad = ⊥
NotBad _ = ⊤

abbrev IsGood : Lexeme → Type 0
IsGood (token t) = NotBad t
IsGood comma = ⊤
IsGood colon = ⊤

abbrev pub AllGood : List Lexeme → Type 0
AllGood [] = ⊤
AllGood (l ∷ ls) = IsGood l × AllGood ls

abbrev pub IsOutside : Mode → Type 0
IsOutside between = ⊤
IsOutside in_word = ⊤
IsOutside in_string = ⊥
IsOutside in_escape = ⊥

-- before whatever ends a word, a text is these lexemes
pub record Front (m : Mode) (a : List ℕ) : Type 0 where
  pub lexemes : List Lexeme
  pub goes_on : (z : List ℕ) → ends_word z ≡ true → lex m (a ++ z) ≡ lexemes ++ lex between z

nothing : (m : Mode) → IsOutside m → Front m []
nothing between o = record { lexemes = []; goes_on = λ z e. refl }
nothing in_word o = record { lexemes = []; goes_on = λ z e. in_word-ended z e }
nothing in_string o = absurd o
nothing in_escape o = absurd o

lex_class : (m : Mode) (c : Class) (x : ℕ) (xs : List ℕ) → class x ≡ c → lex m (x ∷ xs) ≡ lex_byte m c x xs (λ n. lex n xs)
unfolding lex
lex_class m c x xs e = ap (λ k. lex_byte m k x xs (λ n. lex n xs)) e

module _ (r : List ℕ) (clear : NoQuote r) where
  -- the front of what is left of a text
  abbrev Fronts : List ℕ → Type 0
  Fronts xs = (n : Mode) (left : List ℕ) → IsOutside n → length left ≤ length xs → AllGood (lex n (left ++ r)) → Front n left

  at_string : (x : ℕ) (xs : List ℕ) (o : Option (List ℕ)) → class x ≡ quote → content plain (xs ++ r) ≡ o → AllGood (token (string_token o) ∷ lex in_string (xs ++ r)) → Fronts xs → Front between (x ∷ xs)
  at_string x xs None c e good next = absurd good.0
  at_string x xs (Some s) c e good next =
      let whole = closed (xs ++ r) s e in
      let found = quote_before whole.body whole.behind xs r whole.is clear in
      let left = found.0 in
      let go : (z : List ℕ) → xs ++ z ≡ whole.body ++ 34 ∷ (left ++ z) = λ z. ap (λ l. l ++ z) found.1 ∙ append_assoc whole.body (34 ∷ left) z in
      let rest : AllGood (lex between (left ++ r)) = subst AllGood (ap (lex in_string) (go r) ∙ whole.passed (left ++ r)) good.1 in
      let f = next between left tt (omega (arith, ap length found.1, length-append whole.body (34 ∷ left))) rest in
      record {
        lexemes = token (string s) ∷ f.lexemes;
        goes_on = λ z w.
            lex_class between quote x (xs ++ z) c
            ∙ ap₂ (λ k l. token (string_token k) ∷ l) (ap (content plain) (go z) ∙ whole.same (left ++ z)) (ap (lex in_string) (go z) ∙ whole.passed (left ++ z) ∙ f.goes_on z w);
      }

  -- a byte that only passes
  passes : (m n : Mode) (c : Class) (x : ℕ) (xs : List ℕ) → class x ≡ c → ((z : List ℕ) → lex_byte m c x (xs ++ z) (λ k. lex k (xs ++ z)) ≡ lex n (xs ++ z)) → Front n xs → Front m (x ∷ xs)
  passes m n c x xs e pass f = record { lexemes = f.lexemes; goes_on = λ z w. lex_class m c x (xs ++ z) e ∙ pass z ∙ f.goes_on z w }

  -- a byte that begins a lexeme
  begins : (m n : Mode) (c : Class) (x : ℕ) (xs : List ℕ) (l : Lexeme) → class x ≡ c → ((z : List ℕ) → ends_word z ≡ true → lex_byte m c x (xs ++ z) (λ k. lex k (xs ++ z)) ≡ l ∷ lex n (xs ++ z)) → Front n xs → Front m (x ∷ xs)
  begins m n c x xs l e begin f = record { lexemes = l ∷ f.lexemes; goes_on = λ z w. lex_class m c x (xs ++ z) e ∙ begin z w ∙ ap (λ ls. l ∷ ls) (f.goes_on z w) }

  at_byte : (m : Mode) (c : Class) (x : ℕ) (xs : List ℕ) → IsOutside m → class x ≡ c → AllGood (lex_byte m c x (xs ++ r) (λ n. lex n (xs ++ r))) → Fronts xs → Front m (x ∷ xs)
  at_byte between quote x xs o c good next = at_string x xs (content plain (xs ++ r)) c refl good next
  at_byte between backslash x xs o c good next = absurd good.0
  at_byte between operator x xs o c good next = begins between between operator x xs (operator_lexeme x) c (λ z w. refl) (next between xs tt (omega arith) good.1)
  at_byte between space x xs o c good next = passes between between space x xs c (λ z. refl) (next between xs tt (omega arith) good)
  at_byte between other x xs o c good next =
      begins between in_word other x xs (token (word (x ∷ xs))) c (λ z w. ap (λ k. token k ∷ lex in_word (xs ++ z)) (same_word z w (x ∷ xs))) (next in_word xs tt (omega arith) good.1)
  at_byte in_word quote x xs o c good next = passes in_word in_word quote x xs c (λ z. refl) (next in_word xs tt (omega arith) good)
  at_byte in_word backslash x xs o c good next = passes in_word in_word backslash x xs c (λ z. refl) (next in_word xs tt (omega arith) good)
  at_byte in_word operator x xs o c good next = begins in_word between operator x xs (operator_lexeme x) c (λ z w. refl) (next between xs tt (omega arith) good.1)
  at_byte in_word space x xs o c good next = passes in_word between space x xs c (λ z. refl) (next between xs tt (omega arith) good)
  at_byte in_word other x xs o c good next = passes in_word in_word other x xs c (λ z. refl) (next in_word xs tt (omega arith) good)
  at_byte in_string c x xs o e good next = absurd o
  at_byte in_escape c x xs o e good next = absurd o

  fronts : (n : ℕ) (m : Mode) (a : List ℕ) → IsOutside m → length a ≤ n → AllGood (lex m (a ++ r)) → Front m a
  unfolding lex
  fronts zero m [] o le good = nothing m o
  fronts zero m (x ∷ xs) o le good = absurd (omega arith)
  fronts (suc n) m [] o le good = nothing m o
  fronts (suc n) m (x ∷ xs) o le good = at_byte m (class x) x xs o refl good (λ k left out short g. fronts n k left out (omega arith) g)

  -- the front of a text whose lexemes are all good, before an end without a quote
  pub front : (a : List ℕ) → AllGood (lex between (a ++ r)) → Front between a
  front a good = fronts (length a) between a tt (omega arith) good

-- ---- after a bracket and white space even a quote may come

blank_byte : (c : Class) (x : ℕ) (xs z : List ℕ) → class x ≡ c → lex_byte between c x xs (λ n. lex n xs) ≡ [] → (lex between xs ≡ [] → lex between (xs ++ z) ≡ lex between z) → lex between (x ∷ (xs ++ z)) ≡ lex between z
blank_byte quote x xs z c e next = absurd (cc)
blank_byte backslash x xs z c e next = absurd (cc)
blank_byte operator x xs z c e next = absurd (cc)
blank_byte space x xs z c e next = lex_class between space x (xs ++ z) c ∙ next e
blank_byte other x xs z c e next = absurd (cc)

blank : (xs z : List ℕ) → lex between xs ≡ [] → lex between (xs ++ z) ≡ lex between z
unfolding lex
blank [] z e = refl
blank (x ∷ xs) z e = blank_byte (class x) x xs z refl e (blank xs z)

abbrev NoBracket : Token → Type 0
NoBracket begin_object = ⊥
NoBracket _ = ⊤

one_of : (b : Bool) (x y : Token) → NoBracket x → NoBracket y → NoBracket (cond b x y)
one_of true x y p q = p
one_of false x y p q = q

number_word : (t : List ℕ) (o : Option (List ℕ)) → NoBracket (number_before t o)
number_word t None = tt
number_word t (Some r) = one_of (ends_word r) (number (take (length t - length r) t)) bad tt tt

literal_word : (name : List ℕ) (k : Token) (t : List ℕ) → NoBracket k → NoBracket (literal name k t)
literal_word name k t h = one_of (starts_with nat_eq t name && ends_word (drop (length name) t)) k bad h tt

no_bracket : (t : List ℕ) → NoBracket (word t)
unfolding word
no_bracket t =
    let yes = literal true_text (boolean true) t in
    let wrong = literal false_text (boolean false) t in
    let nothing_there = literal null_text null t in
    let numeral = number_before t (after_number t) in
    one_of (head t == 116) yes (cond (head t == 102) wrong (cond (head t == 110) nothing_there numeral)) (literal_word true_text (boolean true) t tt)
    (one_of (head t == 102) wrong (cond (head t == 110) nothing_there numeral) (literal_word false_text (boolean false) t tt)
    (one_of (head t == 110) nothing_there numeral (literal_word null_text null t tt) (number_word t (after_number t))))

no_text : (o : Option (List ℕ)) (l : List Lexeme) → token (string_token o) ∷ l ≡ token begin_object ∷ [] → ⊥
no_text None l e = absurd (cc)
no_text (Some s) l e = absurd (cc)

bracket_byte : (c : Class) (x : ℕ) (xs z : List ℕ) → class x ≡ c → lex_byte between c x xs (λ n. lex n xs) ≡ token begin_object ∷ []
    → (lex between xs ≡ token begin_object ∷ [] → lex between (xs ++ z) ≡ token begin_object ∷ lex between z) → lex between (x ∷ (xs ++ z)) ≡ token begin_object ∷ lex between z
bracket_byte quote x xs z c e next = absurd (no_text (content plain xs) (lex in_string xs) e)
bracket_byte backslash x xs z c e next = absurd (cc)
bracket_byte operator x xs z c e next =
    let first : operator_lexeme x ≡ token begin_object = cc in
    let rest : lex between xs ≡ [] = cc in
    lex_class between operator x (xs ++ z) c ∙ (λ i. first i ∷ blank xs z rest i)
bracket_byte space x xs z c e next = lex_class between space x (xs ++ z) c ∙ next e
bracket_byte other x xs z c e next = let first : word (x ∷ xs) ≡ begin_object = cc in absurd (subst NoBracket first (no_bracket (x ∷ xs)))

pub behind_bracket : (a z : List ℕ) → lex between a ≡ token begin_object ∷ [] → lex between (a ++ z) ≡ token begin_object ∷ lex between z
unfolding lex
behind_bracket [] z e = absurd (cc)
behind_bracket (x ∷ xs) z e = bracket_byte (class x) x xs z refl e (behind_bracket xs z)
