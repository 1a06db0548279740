-- A string of JSON that is closed is the same whatever follows its quote.
use Rattle.std.proofs.Common.{◌≡◌, ℕ, Bool, true, false, cond, ◌&&◌, ◌==◌, nat_lt, List, [], ◌∷◌, ◌++◌, Option, Some, None, option_map, option_and_then, refl, sym, ap, ◌∙◌, subst, append_assoc}
use Rattle.std.proofs.lemmas.Bool.{false≢true, eqb-true, and_parts, cond_both}
use Rattle.std.specs.Prelude.{⊤}
use Rattle.std.specs.Char.{is_digit, encode_utf8}
use Rattle.json.specs.Text.{code_unit, short_escape, is_high_surrogate, is_low_surrogate, surrogate_pair, Within, plain, after_backslash, after_u, after_high, prepend, content}
use Rattle.json.specs.Word.{is_operator, is_space}
use Rattle.json.specs.Lex.{Lexeme, Mode, between, in_string, in_escape, quote, backslash, operator, space, other, lex, lex_byte}

-- ---- how the lexer passes

stays_inside : (o s : Bool) (x : ℕ) (r : List ℕ) (k : Mode → List Lexeme) → lex_byte in_string (cond o operator (cond s space other)) x r k ≡ k in_string
stays_inside true s x r k = refl
stays_inside false true x r k = refl
stays_inside false false x r k = refl

pub lex_plain : (x : ℕ) (z : List ℕ) → (x == 34) ≡ false → (x == 92) ≡ false → lex in_string (x ∷ z) ≡ lex in_string z
unfolding lex
lex_plain x z q b =
    (λ i. lex_byte in_string (cond (q i) quote (cond (b i) backslash (cond (is_operator x) operator (cond (is_space x) space other)))) x z (λ n. lex n z))
    ∙ stays_inside (is_operator x) (is_space x) x z (λ n. lex n z)

pub lex_backslash : (x : ℕ) (z : List ℕ) → (x == 92) ≡ true → lex in_string (x ∷ z) ≡ lex in_escape z
unfolding lex
lex_backslash x z b = ap (λ y. lex in_string (y ∷ z)) (eqb-true x 92 b)

pub lex_escaped : (x : ℕ) (z : List ℕ) → lex in_escape (x ∷ z) ≡ lex in_string z
unfolding lex
lex_escaped x z = refl

not_this : (c x : ℕ) (t : Bool) → (t ≡ true → x ≡ c) → is_digit c 16 ≡ false → is_digit x 16 ≡ true → t ≡ false
not_this c x false e never h = refl
not_this c x true e never h = absurd (false≢true (sym never ∙ ap (λ y. is_digit y 16) (sym (e refl)) ∙ h))

lex_hex : (x : ℕ) (z : List ℕ) → is_digit x 16 ≡ true → lex in_string (x ∷ z) ≡ lex in_string z
lex_hex x z h = lex_plain x z (not_this 34 x (x == 34) (eqb-true x 34) refl h) (not_this 92 x (x == 92) (eqb-true x 92) refl h)

all_hex : (b : Bool) (u v : ℕ) → cond b (Some u) None ≡ Some v → b ≡ true
all_hex true u v e = refl
all_hex false u v e = absurd (cc)

pub lex_unit : (a b c d u : ℕ) (z : List ℕ) → code_unit a b c d ≡ Some u → lex in_string (a ∷ b ∷ c ∷ d ∷ z) ≡ lex in_string z
unfolding code_unit
lex_unit a b c d u z e =
    let p = and_parts (is_digit a 16 && is_digit b 16 && is_digit c 16) (is_digit d 16) (all_hex _ _ u e) in
    let q = and_parts (is_digit a 16 && is_digit b 16) (is_digit c 16) p.0 in
    let r = and_parts (is_digit a 16) (is_digit b 16) q.0 in
    lex_hex a (b ∷ c ∷ d ∷ z) r.0 ∙ lex_hex b (c ∷ d ∷ z) r.1 ∙ lex_hex c (d ∷ z) q.1 ∙ lex_hex d z p.1

-- ---- where a string is closed

abbrev mode : Within → Mode
mode plain = in_string
mode after_backslash = in_escape
mode after_u = in_string
mode (after_high h) = in_string

-- A text is closed by a quote: whatever follows that, the content is the same, and the lexer goes on there.
pub record Closed (w : Within) (xs s : List ℕ) : Type 0 where
  pub body : List ℕ
  pub behind : List ℕ
  pub is : xs ≡ body ++ 34 ∷ behind
  pub same : (z : List ℕ) → content w (body ++ 34 ∷ z) ≡ Some s
  pub passed : (z : List ℕ) → lex (mode w) (body ++ 34 ∷ z) ≡ lex between z

abbrev Closes : Within → List ℕ → Option (List ℕ) → Type 0
Closes w xs None = ⊤
Closes w xs (Some s) = Closed w xs s

here : (x : ℕ) (xs : List ℕ) → (x == 34) ≡ true → Closed plain (x ∷ xs) []
unfolding content lex
here x xs q = record {
  body = [];
  behind = xs;
  is = ap (λ y. y ∷ xs) (eqb-true x 34 q);
  same = λ z. refl;
  passed = λ z. refl;
}

module _ (w v : Within) (front xs : List ℕ) (f : List ℕ → List ℕ) (read : (s z : List ℕ) → content v z ≡ Some s → content w (front ++ z) ≡ Some (f s))
    (pass : (z : List ℕ) → lex (mode w) (front ++ z) ≡ lex (mode v) z) where
  one_more : (s : List ℕ) → Closed v xs s → Closed w (front ++ xs) (f s)
  one_more s c = record {
    body = front ++ c.body;
    behind = c.behind;
    is = ap (λ l. front ++ l) c.is ∙ sym (append_assoc front c.body (34 ∷ c.behind));
    same = λ z. ap (content w) (append_assoc front c.body (34 ∷ z)) ∙ read s _ (c.same z);
    passed = λ z. ap (lex (mode w)) (append_assoc front c.body (34 ∷ z)) ∙ pass _ ∙ c.passed z;
  }

  before : (o : Option (List ℕ)) → Closes v xs o → Closes w (front ++ xs) (option_map f o)
  before None c = tt
  before (Some s) c = one_more s c

module _ (w v : Within) (front xs : List ℕ) (read : (s z : List ℕ) → content v z ≡ Some s → content w (front ++ z) ≡ Some s)
    (pass : (z : List ℕ) → lex (mode w) (front ++ z) ≡ lex (mode v) z) where
  moved : (o : Option (List ℕ)) → Closes v xs o → Closes w (front ++ xs) o
  moved None c = tt
  moved (Some s) c = one_more w v front xs (λ t. t) read pass s c

at_byte : (x : ℕ) (xs : List ℕ) → (x == 34) ≡ false → (x == 92) ≡ false → nat_lt x 32 ≡ false → Closes plain xs (content plain xs) → Closes plain (x ∷ xs) (prepend (x ∷ []) (content plain xs))
unfolding content
at_byte x xs q b l =
    before plain plain (x ∷ []) xs (λ s. x ∷ s) (λ s z e i. cond (q i) (Some []) (cond (b i) (content after_backslash z) (cond (l i) None (prepend (x ∷ []) (e i)))))
    (λ z. lex_plain x z q b) (content plain xs)

at_backslash : (x : ℕ) (xs : List ℕ) → (x == 34) ≡ false → (x == 92) ≡ true → Closes after_backslash xs (content after_backslash xs) → Closes plain (x ∷ xs) (content after_backslash xs)
unfolding content
at_backslash x xs q b =
    moved plain after_backslash (x ∷ []) xs
    (λ s z e. (λ i. cond (q i) (Some []) (cond (b i) (content after_backslash z) (cond (nat_lt x 32) None (prepend (x ∷ []) (content plain z))))) ∙ e)
    (λ z. lex_backslash x z b) (content after_backslash xs)

at_u : (x : ℕ) (xs : List ℕ) → (x == 117) ≡ true → Closes after_u xs (content after_u xs) → Closes after_backslash (x ∷ xs) (content after_u xs)
unfolding content
at_u x xs u =
    moved after_backslash after_u (x ∷ []) xs
    (λ s z e. (λ i. cond (u i) (content after_u z) (option_and_then (λ c. prepend (c ∷ []) (content plain z)) (short_escape x))) ∙ e)
    (λ z. lex_escaped x z) (content after_u xs)

at_short : (x : ℕ) (xs : List ℕ) (o : Option ℕ) → (x == 117) ≡ false → short_escape x ≡ o → Closes plain xs (content plain xs)
    → Closes after_backslash (x ∷ xs) (option_and_then (λ c. prepend (c ∷ []) (content plain xs)) o)
unfolding content
at_short x xs None u is h = tt
at_short x xs (Some c) u is h =
    before after_backslash plain (x ∷ []) xs (λ s. c ∷ s)
    (λ s z e i. cond (u i) (content after_u z) (option_and_then (λ k. prepend (k ∷ []) (e i)) (is i)))
    (λ z. lex_escaped x z) (content plain xs) h

abbrev after_unit : List ℕ → ℕ → Option (List ℕ)
after_unit z u = cond (is_high_surrogate u) (content (after_high u) z) (cond (is_low_surrogate u) None (prepend (encode_utf8 u) (content plain z)))

at_unit : (a b c d : ℕ) (xs : List ℕ) (o : Option ℕ) → code_unit a b c d ≡ o → ((u : ℕ) → Closes (after_high u) xs (content (after_high u) xs)) → Closes plain xs (content plain xs)
    → Closes after_u (a ∷ b ∷ c ∷ d ∷ xs) (option_and_then (after_unit xs) o)
unfolding content
at_unit a b c d xs None is high h = tt
at_unit a b c d xs (Some u) is high h =
    let front = a ∷ b ∷ c ∷ d ∷ [] in
    let P = Closes after_u (a ∷ b ∷ c ∷ d ∷ xs) in
    cond_both (is_high_surrogate u) _ _ P
    (λ t. moved after_u (after_high u) front xs
    (λ s z e. ap (option_and_then (after_unit z)) is ∙ (λ i. cond (t i) (e i) (cond (is_low_surrogate u) None (prepend (encode_utf8 u) (content plain z)))))
    (λ z. lex_unit a b c d u z is) (content (after_high u) xs) (high u))
    (λ t. cond_both (is_low_surrogate u) _ _ P (λ l. tt)
    (λ l. before after_u plain front xs (λ s. encode_utf8 u ++ s)
    (λ s z e. ap (option_and_then (after_unit z)) is ∙ (λ i. cond (t i) (content (after_high u) z) (cond (l i) None (prepend (encode_utf8 u) (e i)))))
    (λ z. lex_unit a b c d u z is) (content plain xs) h))

abbrev after_pair : ℕ → List ℕ → ℕ → Option (List ℕ)
after_pair h z l = cond (is_low_surrogate l) (prepend (encode_utf8 (surrogate_pair h l)) (content plain z)) None

at_pair : (high s u a b c d : ℕ) (xs : List ℕ) (o : Option ℕ) → ((s == 92) && (u == 117)) ≡ true → code_unit a b c d ≡ o → Closes plain xs (content plain xs)
    → Closes (after_high high) (s ∷ u ∷ a ∷ b ∷ c ∷ d ∷ xs) (option_and_then (after_pair high xs) o)
unfolding content
at_pair high s u a b c d xs None t is h = tt
at_pair high s u a b c d xs (Some l) t is h =
    let front = s ∷ u ∷ a ∷ b ∷ c ∷ d ∷ [] in
    let P = Closes (after_high high) (s ∷ u ∷ a ∷ b ∷ c ∷ d ∷ xs) in
    cond_both (is_low_surrogate l) _ _ P
    (λ y. before (after_high high) plain front xs (λ k. encode_utf8 (surrogate_pair high l) ++ k)
    (λ k z e. (λ i. cond (t i) (option_and_then (after_pair high z) (is i)) None) ∙ (λ i. cond (y i) (prepend (encode_utf8 (surrogate_pair high l)) (e i)) None))
    (λ z. lex_backslash s (u ∷ a ∷ b ∷ c ∷ d ∷ z) (and_parts _ _ t).0 ∙ lex_escaped u (a ∷ b ∷ c ∷ d ∷ z) ∙ lex_unit a b c d l z is) (content plain xs) h)
    (λ y. tt)

closes : (w : Within) (xs : List ℕ) → Closes w xs (content w xs)
unfolding content
closes plain [] = tt
closes plain (x ∷ xs) =
    let P = Closes plain (x ∷ xs) in
    cond_both (x == 34) _ _ P (λ q. here x xs q)
    (λ q. cond_both (x == 92) _ _ P (λ b. at_backslash x xs q b (closes after_backslash xs)) (λ b. cond_both (nat_lt x 32) _ _ P (λ l. tt) (λ l. at_byte x xs q b l (closes plain xs))))
closes after_backslash [] = tt
closes after_backslash (x ∷ xs) = cond_both (x == 117) _ _ (Closes after_backslash (x ∷ xs)) (λ u. at_u x xs u (closes after_u xs)) (λ u. at_short x xs (short_escape x) u refl (closes plain xs))
closes after_u [] = tt
closes after_u (a ∷ []) = tt
closes after_u (a ∷ b ∷ []) = tt
closes after_u (a ∷ b ∷ c ∷ []) = tt
closes after_u (a ∷ b ∷ c ∷ d ∷ xs) = at_unit a b c d xs (code_unit a b c d) refl (λ u. closes (after_high u) xs) (closes plain xs)
closes (after_high h) [] = tt
closes (after_high h) (s ∷ []) = tt
closes (after_high h) (s ∷ u ∷ []) = tt
closes (after_high h) (s ∷ u ∷ a ∷ []) = tt
closes (after_high h) (s ∷ u ∷ a ∷ b ∷ []) = tt
closes (after_high h) (s ∷ u ∷ a ∷ b ∷ c ∷ []) = tt
closes (after_high h) (s ∷ u ∷ a ∷ b ∷ c ∷ d ∷ xs) =
    cond_both ((s == 92) && (u == 117)) _ _ (Closes (after_high h) (s ∷ u ∷ a ∷ b ∷ c ∷ d ∷ xs)) (λ t. at_pair h s u a b c d xs (code_unit a b c d) t refl (closes plain xs)) (λ t. tt)

pub closed : (xs s : List ℕ) → content plain xs ≡ Some s → Closed plain xs s
closed xs s e = subst (Closes plain xs) e (closes plain xs)

-- ---- where its quote is

abbrev pub NoQuote : List ℕ → Type 0
NoQuote [] = ⊤
NoQuote (x ∷ xs) = (x ≡ 34 → ⊥) × NoQuote xs

never : (p q : List ℕ) → NoQuote (p ++ 34 ∷ q) → ⊥
never [] q h = h.0 refl
never (x ∷ p) q h = never p q h.1

-- before what has no quote
pub quote_before : (body behind xs r : List ℕ) → xs ++ r ≡ body ++ 34 ∷ behind → NoQuote r → (left : List ℕ) × (xs ≡ body ++ 34 ∷ left)
quote_before [] behind [] r e none = absurd (never [] behind (subst NoQuote e none))
quote_before [] behind (x ∷ xs) r e none = let first : x ≡ 34 = cc in (xs, ap (λ y. y ∷ xs) first)
quote_before (b ∷ body) behind [] r e none = absurd (never (b ∷ body) behind (subst NoQuote e none))
quote_before (b ∷ body) behind (x ∷ xs) r e none =
    let first : x ≡ b = cc in
    let rest : xs ++ r ≡ body ++ 34 ∷ behind = cc in
    let found = quote_before body behind xs r rest none in
    (found.0, (λ i. first i ∷ found.1 i))
