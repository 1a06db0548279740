-- The text of a value after other tokens.
use Rattle.std.proofs.Common.{◌≡◌, ℕ, Bool, true, false, cond, ◌&&◌, List, [], ◌∷◌, ◌++◌, refl, sym, ap, ◌∙◌, append_assoc}
use Rattle.std.proofs.lemmas.List.Sums.{fold-append}
use Rattle.std.specs.List.{fold}
use Rattle.json.specs.Token.{Token, key}
use Rattle.json.specs.Json.{Json, null, boolean, number, string, array, object, Items, no_items, item, Members, no_members, member}
use Rattle.json.specs.Tree.{json_tokens, items_tokens, members_tokens}
use Rattle.json.specs.Print.{print, print_from, quoted, ends, token_text}
use Rattle.json.proofs.Printed.Tokens.{print_from-append}
use Rattle.mmdb_json.specs.Appended.{comma_if}

-- a value has just ended after its tokens
mutual
  ended : (b : Bool) (j : Json) → fold (λ _ u. ends u) b (json_tokens j) ≡ true
  ended b null = refl
  ended b (boolean c) = refl
  ended b (number s) = refl
  ended b (string s) = refl
  ended b (array js) = items_ended false js
  ended b (object ms) = members_ended false ms

  items_ended : (b : Bool) (js : Items) → fold (λ _ u. ends u) b (items_tokens js) ≡ true
  items_ended b no_items = refl
  items_ended b (item j js) = fold-append (λ _ u. ends u) b (json_tokens j) (items_tokens js) ∙ items_ended _ js

  members_ended : (b : Bool) (ms : Members) → fold (λ _ u. ends u) b (members_tokens ms) ≡ true
  members_ended b no_members = refl
  members_ended b (member k j ms) = fold-append (λ _ u. ends u) false (json_tokens j) (members_tokens ms) ∙ members_ended _ ms

-- a comma comes before a value that follows another one
lead : (b : Bool) (j : Json) → print_from b (json_tokens j) ≡ comma_if b ++ print (json_tokens j)
unfolding print_from
lead true null = refl
lead true (boolean c) = refl
lead true (number s) = refl
lead true (string s) = refl
lead true (array js) = refl
lead true (object ms) = refl
lead false j = refl

value_behind : (b : Bool) (j : Json) (us : List Token) → print_from b (json_tokens j ++ us) ≡ comma_if b ++ (print (json_tokens j) ++ print_from true us)
value_behind b j us =
    print_from-append b (json_tokens j) us
    ∙ ap (λ c. print_from b (json_tokens j) ++ print_from c us) (ended b j)
    ∙ ap (λ l. l ++ print_from true us) (lead b j)
    ∙ append_assoc (comma_if b) (print (json_tokens j)) (print_from true us)

pub item_behind : (b : Bool) (j : Json) (js : Items) → print_from b (items_tokens (item j js)) ≡ comma_if b ++ (print (json_tokens j) ++ print_from true (items_tokens js))
item_behind b j js = value_behind b j (items_tokens js)

key_behind : (b : Bool) (x : List ℕ) (us : List Token) → print_from b (key x ∷ us) ≡ comma_if b ++ ((quoted x ++ 58 ∷ []) ++ print_from false us)
unfolding print_from
key_behind true x us = refl
key_behind false x us = refl

pub member_behind : (b : Bool) (x : List ℕ) (j : Json) (ms : Members) → print_from b (members_tokens (member x j ms)) ≡ comma_if b ++ ((quoted x ++ 58 ∷ []) ++ (print (json_tokens j) ++ print_from true (members_tokens ms)))
member_behind b x j ms = key_behind b x (json_tokens j ++ members_tokens ms) ∙ ap (λ l. comma_if b ++ ((quoted x ++ 58 ∷ []) ++ l)) (value_behind false j (members_tokens ms))

pub members_end : (b : Bool) → print_from b (members_tokens no_members) ≡ 125 ∷ []
unfolding print_from
members_end true = refl
members_end false = refl

pub items_end : (b : Bool) → print_from b (items_tokens no_items) ≡ 93 ∷ []
unfolding print_from
items_end true = refl
items_end false = refl

pub object_text : (ms : Members) → print (json_tokens (object ms)) ≡ 123 ∷ print_from false (members_tokens ms)
unfolding print_from
object_text ms = refl

pub array_text : (js : Items) → print (json_tokens (array js)) ≡ 91 ∷ print_from false (items_tokens js)
unfolding print_from
array_text js = refl

pub string_text : (s : List ℕ) → print (json_tokens (string s)) ≡ quoted s
unfolding print_from
string_text s = Rattle.std.proofs.Common.append-nil (quoted s)

pub number_text : (s : List ℕ) → print (json_tokens (number s)) ≡ s
unfolding print_from
number_text s = Rattle.std.proofs.Common.append-nil s

pub boolean_text : (b : Bool) → print (json_tokens (boolean b)) ≡ token_text (Token.boolean b)
unfolding print_from
boolean_text b = Rattle.std.proofs.Common.append-nil (token_text (Token.boolean b))

pub null_text : print (json_tokens null) ≡ 110 ∷ 117 ∷ 108 ∷ 108 ∷ []
unfolding print_from
null_text = refl
