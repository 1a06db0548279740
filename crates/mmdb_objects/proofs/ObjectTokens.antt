-- The tokens of an object, and of one with a member more.
use Rattle.std.proofs.Common.{◌≡◌, ℕ, ◌≤◌, true, false, Bool, List, [], ◌∷◌, ◌++◌, Option, Some, None, option_and_then, refl, sym, ap, ◌∙◌, arith, append_assoc}
use Rattle.json.specs.Token.{Token}
use Rattle.json.specs.Json.{Json, null, boolean, number, string, array, object, Items, no_items, item, Members, no_members, member, value, if_last, max_depth, document}
use Rattle.json.specs.Lex.{tokens, token}
use Rattle.json.specs.Tree.{json_tokens, items_tokens, members_tokens, depth, members_depth}
use Rattle.json.proofs.Nesting.{value-depth}
use Rattle.mmdb_objects.specs.Longer.{and_last}
use Rattle.mmdb_objects.proofs.PlaceLaws.{AllNotBad, lexemes_of, ended_by}

-- ---- none of them is bad

both_not_bad : (ts us : List Token) → AllNotBad ts → AllNotBad us → AllNotBad (ts ++ us)
both_not_bad [] us p q = q
both_not_bad (t ∷ ts) us p q = (p.0, both_not_bad ts us p.1 q)

mutual
  pub not_bad : (j : Json) → AllNotBad (json_tokens j)
  not_bad null = (tt, tt)
  not_bad (boolean b) = (tt, tt)
  not_bad (number s) = (tt, tt)
  not_bad (string s) = (tt, tt)
  not_bad (array js) = (tt, not_bad_items js)
  not_bad (object ms) = (tt, not_bad_members ms)

  not_bad_items : (js : Items) → AllNotBad (items_tokens js)
  not_bad_items no_items = (tt, tt)
  not_bad_items (item j js) = both_not_bad _ _ (not_bad j) (not_bad_items js)

  not_bad_members : (ms : Members) → AllNotBad (members_tokens ms)
  not_bad_members no_members = (tt, tt)
  not_bad_members (member k j ms) = (tt, both_not_bad _ _ (not_bad j) (not_bad_members ms))

-- ---- the tokens before the last brace

abbrev pub inner : Members → List Token
inner no_members = []
inner (member k j ms) = Token.key k ∷ (json_tokens j ++ inner ms)

pub inner-closed : (ms : Members) → members_tokens ms ≡ inner ms ++ Token.end_object ∷ []
inner-closed no_members = refl
inner-closed (member k j ms) = ap (λ l. Token.key k ∷ l) (ap (λ l. json_tokens j ++ l) (inner-closed ms) ∙ sym (append_assoc (json_tokens j) (inner ms) (Token.end_object ∷ [])))

pub and_last-tokens : (ms : Members) (name : List ℕ) (j : Json) → members_tokens (and_last ms name j) ≡ inner ms ++ (Token.key name ∷ (json_tokens j ++ Token.end_object ∷ []))
and_last-tokens no_members name j = refl
and_last-tokens (member k i ms) name j =
    ap (λ l. Token.key k ∷ l) (ap (λ l. json_tokens i ++ l) (and_last-tokens ms name j) ∙ sym (append_assoc (json_tokens i) (inner ms) (Token.key name ∷ (json_tokens j ++ Token.end_object ∷ []))))

-- ---- a value ends there

ended_by-append : (c : Bool) (ts us : List Token) → ended_by c (ts ++ us) ≡ ended_by (ended_by c ts) us
ended_by-append c [] us = refl
ended_by-append c (t ∷ ts) us = ended_by-append _ ts us

ended_items : (js : Items) (c : Bool) → ended_by c (items_tokens js) ≡ true
ended_items no_items c = refl
ended_items (item j js) c = ended_by-append c (json_tokens j) (items_tokens js) ∙ ended_items js _

ended_members : (ms : Members) (c : Bool) → ended_by c (members_tokens ms) ≡ true
ended_members no_members c = refl
ended_members (member k j ms) c = ended_by-append false (json_tokens j) (members_tokens ms) ∙ ended_members ms _

ended_json : (j : Json) (c : Bool) → ended_by c (json_tokens j) ≡ true
ended_json null c = refl
ended_json (boolean b) c = refl
ended_json (number s) c = refl
ended_json (string s) c = refl
ended_json (array js) c = ended_items js false
ended_json (object ms) c = ended_members ms false

ended_inner : (ms : Members) (c : Bool) → c ≡ true → ended_by c (inner ms) ≡ true
ended_inner no_members c e = e
ended_inner (member k j ms) c e = ended_by-append false (json_tokens j) (inner ms) ∙ ended_inner ms _ (ended_json j false)

pub ended_member : (k : List ℕ) (j : Json) (ms : Members) (c : Bool) → ended_by c (inner (member k j ms)) ≡ true
ended_member k j ms c = ended_by-append false (json_tokens j) (inner ms) ∙ ended_inner ms _ (ended_json j false)

pub closing : (c : Bool) → lexemes_of c (Token.end_object ∷ []) ≡ token Token.end_object ∷ []
closing true = refl
closing false = refl

-- ---- how deep it nests

last : (o : Option (Json × List Token)) (j : Json) → option_and_then (λ p. if_last p.0 p.1) o ≡ Some j → o ≡ Some (j, [])
last None j e = absurd (cc)
last (Some (i, [])) j e = let same : i ≡ j = cc in ap (λ x. Some (x, [])) same
last (Some (i, t ∷ ts)) j e = absurd (cc)

pub depth_read : (text : List ℕ) (j : Json) → document text ≡ Some j → depth j ≤ max_depth
depth_read text j e = value-depth max_depth (tokens text) [] j (last (value max_depth (tokens text)) j e)

pub depth_and_last : (ms : Members) (name : List ℕ) (j : Json) (d : ℕ) → members_depth ms ≤ d → depth j ≤ d → members_depth (and_last ms name j) ≤ d
depth_and_last no_members name j d m h = omega arith
depth_and_last (member k i ms) name j d m h = omega (arith, depth_and_last ms name j d (omega arith) h)
