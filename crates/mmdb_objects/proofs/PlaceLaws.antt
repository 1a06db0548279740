-- Lexemes whose commas and colons are where the grammar wants them are those of their tokens.
use Rattle.std.proofs.Common.{◌≡◌, Bool, true, false, cond, ◌&&◌, ℕ, List, [], ◌∷◌, ◌++◌, fold, refl, sym, ap, ◌∙◌, subst, append_assoc}
use Rattle.std.specs.Prelude.{⊤}
use Rattle.json.specs.Token.{Token, begin_object, end_object, begin_array, end_array, key, string, number, boolean, null, bad}
use Rattle.json.specs.Lex.{Lexeme, token, comma, colon, lex, between, Place, fresh, after_value, after_comma, after_key, begins_colon, place_token, punctuate, tokens}
use Rattle.json.specs.Print.{begins, ends}
use Rattle.mmdb_objects.proofs.FrontLaws.{NotBad, AllGood}

abbrev pub AllNotBad : List Token → Type 0
AllNotBad [] = ⊤
AllNotBad (t ∷ ts) = NotBad t × AllNotBad ts

abbrev token_lexemes : Token → List Lexeme
token_lexemes (key s) = token (string s) ∷ colon ∷ []
token_lexemes t = token t ∷ []

-- the lexemes of tokens, after a value or not
abbrev pub lexemes_of : Bool → List Token → List Lexeme
lexemes_of c [] = []
lexemes_of c (t ∷ ts) = cond (c && begins t) (comma ∷ []) [] ++ (token_lexemes t ++ lexemes_of (ends t) ts)

-- whether a value has just ended
abbrev pub ended_by : Bool → List Token → Bool
ended_by c ts = fold (λ _ t. ends t) c ts

pub lexemes_of-append : (c : Bool) (ts us : List Token) → lexemes_of c (ts ++ us) ≡ lexemes_of c ts ++ lexemes_of (ended_by c ts) us
lexemes_of-append c [] us = refl
lexemes_of-append c (t ∷ ts) us =
    ap (λ l. cond (c && begins t) (comma ∷ []) [] ++ (token_lexemes t ++ l)) (lexemes_of-append (ends t) ts us)
    ∙ ap (λ l. cond (c && begins t) (comma ∷ []) [] ++ l) (sym (append_assoc (token_lexemes t) _ _)) ∙ sym (append_assoc (cond (c && begins t) (comma ∷ []) []) _ _)

-- ---- they are good

both_good : (a b : List Lexeme) → AllGood a → AllGood b → AllGood (a ++ b)
both_good [] b p q = q
both_good (l ∷ a) b p q = (p.0, both_good a b p.1 q)

good_comma : (b : Bool) → AllGood (cond b (comma ∷ []) [])
good_comma true = (tt, tt)
good_comma false = tt

good_token : (t : Token) → NotBad t → AllGood (token_lexemes t)
good_token begin_object h = (tt, tt)
good_token end_object h = (tt, tt)
good_token begin_array h = (tt, tt)
good_token end_array h = (tt, tt)
good_token (key s) h = (tt, (tt, tt))
good_token (string s) h = (tt, tt)
good_token (number s) h = (tt, tt)
good_token (boolean b) h = (tt, tt)
good_token null h = (tt, tt)
good_token bad h = absurd h

pub good_lexemes : (c : Bool) (ts : List Token) → AllNotBad ts → AllGood (lexemes_of c ts)
good_lexemes c [] h = tt
good_lexemes c (t ∷ ts) h = both_good _ _ (good_comma (c && begins t)) (both_good _ _ (good_token t h.0) (good_lexemes (ends t) ts h.1))

-- ---- from tokens back to lexemes

abbrev Spelt : Place → List Lexeme → List Token → Type 0
Spelt fresh ls ts = ls ≡ lexemes_of false ts
Spelt after_value ls ts = ls ≡ lexemes_of true ts
Spelt after_comma ls ts = comma ∷ ls ≡ lexemes_of true ts
Spelt after_key ls ts = ls ≡ colon ∷ lexemes_of false ts

spelt_token : (p : Place) (t : Token) (b : Bool) (ls : List Lexeme) (k : Place → List Token) → ((n : Place) → AllNotBad (k n) → Spelt n ls (k n))
    → AllNotBad (place_token p t b k) → Spelt p (token t ∷ ls) (place_token p t b k)
spelt_token fresh begin_object b ls k next good = ap (λ l. token begin_object ∷ l) (next fresh good.1)
spelt_token after_value begin_object b ls k next good = absurd good.0
spelt_token after_comma begin_object b ls k next good = ap (λ l. comma ∷ token begin_object ∷ l) (next fresh good.1)
spelt_token after_key begin_object b ls k next good = absurd good.0
spelt_token fresh end_object b ls k next good = ap (λ l. token end_object ∷ l) (next after_value good.1)
spelt_token after_value end_object b ls k next good = ap (λ l. token end_object ∷ l) (next after_value good.1)
spelt_token after_comma end_object b ls k next good = absurd good.0
spelt_token after_key end_object b ls k next good = absurd good.0
spelt_token fresh begin_array b ls k next good = ap (λ l. token begin_array ∷ l) (next fresh good.1)
spelt_token after_value begin_array b ls k next good = absurd good.0
spelt_token after_comma begin_array b ls k next good = ap (λ l. comma ∷ token begin_array ∷ l) (next fresh good.1)
spelt_token after_key begin_array b ls k next good = absurd good.0
spelt_token fresh end_array b ls k next good = ap (λ l. token end_array ∷ l) (next after_value good.1)
spelt_token after_value end_array b ls k next good = ap (λ l. token end_array ∷ l) (next after_value good.1)
spelt_token after_comma end_array b ls k next good = absurd good.0
spelt_token after_key end_array b ls k next good = absurd good.0
spelt_token p (key s) b ls k next good = absurd good.0
spelt_token fresh (string s) true ls k next good = ap (λ l. token (string s) ∷ l) (next after_key good.1)
spelt_token fresh (string s) false ls k next good = ap (λ l. token (string s) ∷ l) (next after_value good.1)
spelt_token after_comma (string s) true ls k next good = ap (λ l. comma ∷ token (string s) ∷ l) (next after_key good.1)
spelt_token after_comma (string s) false ls k next good = ap (λ l. comma ∷ token (string s) ∷ l) (next after_value good.1)
spelt_token after_value (string s) true ls k next good = absurd good.0
spelt_token after_value (string s) false ls k next good = absurd good.0
spelt_token after_key (string s) true ls k next good = absurd good.0
spelt_token after_key (string s) false ls k next good = absurd good.0
spelt_token fresh (number s) b ls k next good = ap (λ l. token (number s) ∷ l) (next after_value good.1)
spelt_token after_value (number s) b ls k next good = absurd good.0
spelt_token after_comma (number s) b ls k next good = ap (λ l. comma ∷ token (number s) ∷ l) (next after_value good.1)
spelt_token after_key (number s) b ls k next good = absurd good.0
spelt_token fresh (boolean v) b ls k next good = ap (λ l. token (boolean v) ∷ l) (next after_value good.1)
spelt_token after_value (boolean v) b ls k next good = absurd good.0
spelt_token after_comma (boolean v) b ls k next good = ap (λ l. comma ∷ token (boolean v) ∷ l) (next after_value good.1)
spelt_token after_key (boolean v) b ls k next good = absurd good.0
spelt_token fresh null b ls k next good = ap (λ l. token null ∷ l) (next after_value good.1)
spelt_token after_value null b ls k next good = absurd good.0
spelt_token after_comma null b ls k next good = ap (λ l. comma ∷ token null ∷ l) (next after_value good.1)
spelt_token after_key null b ls k next good = absurd good.0
spelt_token p bad b ls k next good = absurd good.0

spelt : (p : Place) (ls : List Lexeme) → AllNotBad (punctuate p ls) → Spelt p ls (punctuate p ls)
unfolding punctuate
spelt fresh [] good = refl
spelt after_value [] good = refl
spelt after_comma [] good = absurd good.0
spelt after_key [] good = absurd good.0
spelt p (token t ∷ ls) good = spelt_token p t (begins_colon ls) ls (λ n. punctuate n ls) (λ n g. spelt n ls g) good
spelt fresh (comma ∷ ls) good = absurd good.0
spelt after_value (comma ∷ ls) good = spelt after_comma ls good
spelt after_comma (comma ∷ ls) good = absurd good.0
spelt after_key (comma ∷ ls) good = absurd good.0
spelt fresh (colon ∷ ls) good = absurd good.0
spelt after_value (colon ∷ ls) good = absurd good.0
spelt after_comma (colon ∷ ls) good = absurd good.0
spelt after_key (colon ∷ ls) good = ap (λ l. colon ∷ l) (spelt fresh ls good)

pub lexemes_from_tokens : (text : List ℕ) (ts : List Token) → AllNotBad ts → tokens text ≡ ts → lex between text ≡ lexemes_of false ts
lexemes_from_tokens text ts good e = subst (λ l. lex between text ≡ lexemes_of false l) e (spelt fresh (lex between text) (subst AllNotBad (sym e) good))

-- ---- and on to the tokens

no_colon : (ts : List Token) → begins_colon (lexemes_of true ts) ≡ false
no_colon [] = refl
no_colon (begin_object ∷ ts) = refl
no_colon (end_object ∷ ts) = refl
no_colon (begin_array ∷ ts) = refl
no_colon (end_array ∷ ts) = refl
no_colon (key s ∷ ts) = refl
no_colon (string s ∷ ts) = refl
no_colon (number s ∷ ts) = refl
no_colon (boolean b ∷ ts) = refl
no_colon (null ∷ ts) = refl
no_colon (bad ∷ ts) = refl

abbrev place : Bool → Place
place c = cond c after_value fresh

placed : (c : Bool) (ts : List Token) → AllNotBad ts → punctuate (place c) (lexemes_of c ts) ≡ ts
unfolding punctuate
placed true [] h = refl
placed false [] h = refl
placed true (begin_object ∷ ts) h = ap (λ l. begin_object ∷ l) (placed false ts h.1)
placed true (end_object ∷ ts) h = ap (λ l. end_object ∷ l) (placed true ts h.1)
placed true (begin_array ∷ ts) h = ap (λ l. begin_array ∷ l) (placed false ts h.1)
placed true (end_array ∷ ts) h = ap (λ l. end_array ∷ l) (placed true ts h.1)
placed true (key s ∷ ts) h = ap (λ l. key s ∷ l) (placed false ts h.1)
placed true (number s ∷ ts) h = ap (λ l. number s ∷ l) (placed true ts h.1)
placed true (boolean b ∷ ts) h = ap (λ l. boolean b ∷ l) (placed true ts h.1)
placed true (null ∷ ts) h = ap (λ l. null ∷ l) (placed true ts h.1)
placed true (string s ∷ ts) h = rw (no_colon ts) (ap (λ l. string s ∷ l) (placed true ts h.1))
placed true (bad ∷ ts) h = absurd h.0
placed false (begin_object ∷ ts) h = ap (λ l. begin_object ∷ l) (placed false ts h.1)
placed false (end_object ∷ ts) h = ap (λ l. end_object ∷ l) (placed true ts h.1)
placed false (begin_array ∷ ts) h = ap (λ l. begin_array ∷ l) (placed false ts h.1)
placed false (end_array ∷ ts) h = ap (λ l. end_array ∷ l) (placed true ts h.1)
placed false (key s ∷ ts) h = ap (λ l. key s ∷ l) (placed false ts h.1)
placed false (number s ∷ ts) h = ap (λ l. number s ∷ l) (placed true ts h.1)
placed false (boolean b ∷ ts) h = ap (λ l. boolean b ∷ l) (placed true ts h.1)
placed false (null ∷ ts) h = ap (λ l. null ∷ l) (placed true ts h.1)
placed false (string s ∷ ts) h = rw (no_colon ts) (ap (λ l. string s ∷ l) (placed true ts h.1))
placed false (bad ∷ ts) h = absurd h.0

pub tokens_from_lexemes : (text : List ℕ) (ts : List Token) → AllNotBad ts → lex between text ≡ lexemes_of false ts → tokens text ≡ ts
tokens_from_lexemes text ts good e = ap (punctuate fresh) e ∙ placed false ts good
