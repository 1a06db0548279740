-- A text that is an object is one again with a member put in before its last brace.
use Rattle.std.proofs.Common.{◌≡◌, ℕ, suc, ◌+◌, ◌-◌, ◌<◌, ◌≤◌, true, false, List, [], ◌∷◌, ◌++◌, length, drop, get_or, Some, refl, sym, ap, ◌∙◌, subst, arith, append-nil, get_or-drop, length-drop}
use Rattle.std.proofs.lemmas.Bool.{false≢true}
use Rattle.std.proofs.lemmas.List.{append_cancel_right, drop_more}
use Rattle.std.specs.Prelude.{⊤}
use Rattle.json.specs.Token.{Token, key, begin_object, end_object}
use Rattle.json.specs.Word.{is_space, ends_word}
use Rattle.json.specs.Lex.{Lexeme, token, comma, lex, between, tokens}
use Rattle.json.specs.Json.{Json, object, Members, no_members, member, max_depth, document}
use Rattle.json.specs.Print.{print}
use Rattle.json.specs.Tree.{json_tokens, depth, members_depth}
use Rattle.json.proofs.Unique.Spelling.{tokens-document}
use Rattle.mmdb_objects.proofs.ReadingBack.{reads_back}
use Rattle.mmdb_objects.specs.Longer.{and_last}
use Rattle.mmdb_objects.specs.Longer.{comma_behind}
use Rattle.mmdb_objects.specs.Objects.{EndsWithBrace, is_empty}
use Rattle.mmdb_objects.proofs.WordLaws.{each_space}
use Rattle.mmdb_objects.proofs.StringLaws.{NoQuote}
use Rattle.mmdb_objects.proofs.FrontLaws.{AllGood, front, behind_bracket}
use Rattle.mmdb_objects.proofs.PlaceLaws.{AllNotBad, lexemes_of, ended_by, lexemes_of-append, good_lexemes, lexemes_from_tokens, tokens_from_lexemes}
use Rattle.mmdb_objects.proofs.ObjectTokens.{not_bad, inner, inner-closed, and_last-tokens, ended_member, closing, depth_read, depth_and_last}

-- ---- a brace, and white space after it

abbrev pub AllSpace : List ℕ → Type 0
AllSpace [] = ⊤
AllSpace (x ∷ xs) = (is_space x ≡ true) × AllSpace xs

pub record Brace (r : List ℕ) : Type 0 where
  pub white : List ℕ
  pub is : r ≡ 125 ∷ white
  pub spaces : AllSpace white

lex_spaces : (xs : List ℕ) → AllSpace xs → lex between xs ≡ []
unfolding lex
lex_spaces [] h = refl
lex_spaces (x ∷ xs) h = each_space (λ y. lex between (y ∷ xs) ≡ lex between xs) refl refl refl refl x h.0 ∙ lex_spaces xs h.1

no_quotes : (xs : List ℕ) → AllSpace xs → NoQuote xs
no_quotes [] h = tt
no_quotes (x ∷ xs) h = (λ e. false≢true (ap is_space (sym e) ∙ h.0), no_quotes xs h.1)

ends_brace : (r : List ℕ) → Brace r → ends_word r ≡ true
ends_brace r b = ap ends_word b.is

clear_brace : (r : List ℕ) → Brace r → NoQuote r
clear_brace r b = subst NoQuote (sym b.is) (λ e. omega (arith, e), no_quotes b.white b.spaces)

lex_brace : (r : List ℕ) → Brace r → lex between r ≡ token end_object ∷ []
unfolding lex
lex_brace r b = ap (lex between) b.is ∙ ap (λ l. token end_object ∷ l) (lex_spaces b.white b.spaces)

both_spaces : (xs ys : List ℕ) → AllSpace xs → AllSpace ys → AllSpace (xs ++ ys)
both_spaces [] ys p q = q
both_spaces (x ∷ xs) ys p q = (p.0, both_spaces xs ys p.1 q)

pub brace_and : (r more : List ℕ) → Brace r → AllSpace more → Brace (r ++ more)
brace_and r more b h = record { white = b.white ++ more; is = ap (λ l. l ++ more) b.is; spaces = both_spaces b.white more b.spaces h }

spaces_from : (xs : List ℕ) → ((i : ℕ) → i < length xs → is_space (get_or xs i 0) ≡ true) → AllSpace xs
spaces_from [] h = tt
spaces_from (x ∷ xs) h = (h 0 (omega arith), spaces_from xs (λ i l. h (suc i) (omega arith)))

pub last_brace : (text : List ℕ) (behind : ℕ) → EndsWithBrace text behind → Brace (drop (length text - behind) text)
last_brace text behind e =
    let n = length text - behind in
    record {
      white = drop (n + 1) text;
      is = drop_more text n 0 (omega (arith, e.some, e.within)) ∙ ap (λ x. x ∷ drop (n + 1) text) e.brace;
      spaces = spaces_from (drop (n + 1) text) (λ i l. ap is_space (get_or-drop (n + 1) text i 0) ∙ e.spaces (n + 1 + i) (omega arith) (omega (arith, length-drop (n + 1) text)));
    }

-- ---- the lexemes of the parts

-- the tokens of the text are known: so are the lexemes before what ends a word
text_before : (text : List ℕ) (ts : List Token) → AllNotBad ts → tokens text ≡ ts → (z : List ℕ) → ends_word z ≡ true → lex between (text ++ z) ≡ lexemes_of false ts ++ lex between z
unfolding lex
text_before text ts good e z w =
    let whole : lex between (text ++ []) ≡ lexemes_of false ts = ap (lex between) (append-nil text) ∙ lexemes_from_tokens text ts good e in
    let f = front [] tt text (subst AllGood (sym whole) (good_lexemes false ts good)) in
    f.goes_on z w ∙ ap (λ l. l ++ lex between z) (sym (append-nil f.lexemes) ∙ sym (f.goes_on [] refl) ∙ whole)

-- the tokens of an object are known: so are the lexemes before its last brace
object_before : (a r : List ℕ) (ms : Members) → Brace r → tokens (a ++ r) ≡ json_tokens (object ms) → (z : List ℕ) → ends_word z ≡ true
    → lex between (a ++ z) ≡ lexemes_of false (begin_object ∷ inner ms) ++ lex between z
object_before a r ms b e z w =
    let ts = begin_object ∷ inner ms in
    let whole = lexemes_from_tokens (a ++ r) (json_tokens (object ms)) (not_bad (object ms)) e in
    let f = front r (clear_brace r b) a (subst AllGood (sym whole) (good_lexemes false (json_tokens (object ms)) (not_bad (object ms)))) in
    let parts : lexemes_of false (json_tokens (object ms)) ≡ lexemes_of false ts ++ token end_object ∷ [] =
    ap (λ l. lexemes_of false (begin_object ∷ l)) (inner-closed ms) ∙ lexemes_of-append false ts (end_object ∷ []) ∙ ap (λ l. lexemes_of false ts ++ l) (closing (ended_by false ts)) in
    let same : f.lexemes ≡ lexemes_of false ts =
    append_cancel_right f.lexemes (lexemes_of false ts) (token end_object ∷ [])
    (ap (λ l. f.lexemes ++ l) (sym (lex_brace r b)) ∙ sym (f.goes_on r (ends_brace r b)) ∙ whole ∙ parts) in
    f.goes_on z w ∙ ap (λ l. l ++ lex between z) same

closed_by : (ts : List Token) (z : List ℕ) → Brace z → lexemes_of false ts ++ lex between z ≡ lexemes_of false (ts ++ end_object ∷ [])
closed_by ts z b =
    ap (λ l. lexemes_of false ts ++ l) (lex_brace z b ∙ sym (closing (ended_by false ts))) ∙ sym (lexemes_of-append false ts (end_object ∷ []))

-- ---- the lexemes of the longer text

abbrev Before : List ℕ → List Lexeme → Type 0
Before text ls = (z : List ℕ) → ends_word z ≡ true → lex between (text ++ z) ≡ ls ++ lex between z

lex_longer : (a text z : List ℕ) (ms : Members) (name : List ℕ) (value : Json) → Brace z → Before a (lexemes_of false (begin_object ∷ inner ms))
    → Before text (lexemes_of false (key name ∷ json_tokens value))
    → lex between (a ++ ((comma_behind (is_empty ms) ++ text) ++ z)) ≡ lexemes_of false (begin_object ∷ (inner ms ++ (key name ∷ (json_tokens value ++ end_object ∷ []))))
unfolding lex
lex_longer a text z no_members name value b opened added =
    let one : lex between a ≡ token begin_object ∷ [] = sym (ap (lex between) (append-nil a)) ∙ opened [] refl in
    behind_bracket a (text ++ z) one ∙ ap (λ l. token begin_object ∷ l) (added z (ends_brace z b) ∙ closed_by (key name ∷ json_tokens value) z b)
lex_longer a text z (member k j ms) name value b opened added =
    let ts = begin_object ∷ inner (member k j ms) in
    let us = key name ∷ (json_tokens value ++ end_object ∷ []) in
    opened (44 ∷ (text ++ z)) refl ∙ ap (λ l. lexemes_of false ts ++ (comma ∷ l)) (added z (ends_brace z b) ∙ closed_by (key name ∷ json_tokens value) z b)
    ∙ sym (lexemes_of-append false ts us ∙ ap (λ c. lexemes_of false ts ++ lexemes_of c us) (ended_member k j ms false))

-- ---- and what it is

-- the same object before any end that is a brace
pub object_again : (a r z : List ℕ) (ms : Members) → Brace r → Brace z → document (a ++ r) ≡ Some (object ms) → document (a ++ z) ≡ Some (object ms)
object_again a r z ms b c was =
    let ts = begin_object ∷ inner ms in
    let same : lex between (a ++ z) ≡ lexemes_of false (json_tokens (object ms)) =
    object_before a r ms b (tokens-document (a ++ r) (object ms) was) z (ends_brace z c) ∙ closed_by ts z c ∙ ap (λ l. lexemes_of false (begin_object ∷ l)) (sym (inner-closed ms)) in
    reads_back (object ms) (a ++ z) (tokens_from_lexemes (a ++ z) (json_tokens (object ms)) (not_bad (object ms)) same) (depth_read (a ++ r) (object ms) was)

pub object_longer : (a r z : List ℕ) (ms : Members) (name : List ℕ) (value : Json) → Brace r → Brace z → document (a ++ r) ≡ Some (object ms)
    → tokens (print (key name ∷ json_tokens value)) ≡ key name ∷ json_tokens value → depth value < max_depth
    → document (a ++ ((comma_behind (is_empty ms) ++ print (key name ∷ json_tokens value)) ++ z)) ≡ Some (object (and_last ms name value))
object_longer a r z ms name value b c was back shallow =
    let j = object (and_last ms name value) in
    let ts = key name ∷ json_tokens value in
    let longer = a ++ ((comma_behind (is_empty ms) ++ print ts) ++ z) in
    let opened = object_before a r ms b (tokens-document (a ++ r) (object ms) was) in
    let added = text_before (print ts) ts (tt, not_bad value) back in
    let same : lex between longer ≡ lexemes_of false (json_tokens j) =
    lex_longer a (print ts) z ms name value c opened added ∙ ap (λ l. lexemes_of false (begin_object ∷ l)) (sym (and_last-tokens ms name value)) in
    let deep : depth (object ms) ≤ max_depth = depth_read (a ++ r) (object ms) was in
    let within : members_depth (and_last ms name value) ≤ 127 = depth_and_last ms name value 127 (omega arith) (omega arith) in
    reads_back j longer (tokens_from_lexemes longer (json_tokens j) (not_bad j) same) (omega arith)
