-- How values, items and members follow from their parts.
use Rattle.std.proofs.Common.{◌≡◌, ℕ, ◌-◌, ◌<◌, ◌≤◌, Bool, true, false, List, [], ◌∷◌, length, Option, Some, None, refl, sym, ap, ◌∙◌, arith}
use Rattle.json.specs.Token.{Token}
use Rattle.json.specs.Lex.{Lexeme, token, comma, colon, Place, fresh, after_value, after_comma, after_key, begins_colon, may_begin, if_allowed, place_token, punctuate}
use Rattle.json.specs.Json.{Json, Items, no_items, item, Members, no_members, member, Parse, parse_map, after_end_array, read_key, items, members, value}
use Rattle.json.specs.Json as json
use Rattle.json.proofs.Grammar.{left, value_is, value-begin_array, value-begin_object, items_end, items_more, members_end, members_more, skip_value-shorter}
use Rattle.mmdb_objects.specs.Scanned.{IsWordOf, BeginWithValue, BeginWithItems, BeginWithMembers}

allowed : (b : Bool) (t : Token) (k : Place → List Token) (next : Place) → b ≡ true → if_allowed b t k next ≡ t ∷ k next
allowed b t k next e = ap (λ x. if_allowed x t k next) e

-- ---- values

pub word_value : (depth : ℕ) (t : Token) (j : Json) (rest : List Lexeme) → IsWordOf j t → BeginWithValue depth (token t ∷ rest) j rest
unfolding punctuate
word_value depth Token.begin_object j rest is = absurd is
word_value depth Token.end_object j rest is = absurd is
word_value depth Token.begin_array j rest is = absurd is
word_value depth Token.end_array j rest is = absurd is
word_value depth (Token.key s) j rest is = absurd is
word_value depth (Token.string s) j rest is = absurd is
word_value depth (Token.number s) j rest is = record {
  reads = λ p may apart.
      ap (value depth) (allowed (may_begin p) (Token.number s) (λ n. punctuate n rest) after_value may)
      ∙ value_is depth (Token.number s ∷ punctuate after_value rest) ∙ ap (λ i. Some (i, punctuate after_value rest)) (sym is);
}
word_value depth (Token.boolean b) j rest is = record {
  reads = λ p may apart.
      ap (value depth) (allowed (may_begin p) (Token.boolean b) (λ n. punctuate n rest) after_value may)
      ∙ value_is depth (Token.boolean b ∷ punctuate after_value rest) ∙ ap (λ i. Some (i, punctuate after_value rest)) (sym is);
}
word_value depth Token.null j rest is = record {
  reads = λ p may apart.
      ap (value depth) (allowed (may_begin p) Token.null (λ n. punctuate n rest) after_value may)
      ∙ value_is depth (Token.null ∷ punctuate after_value rest) ∙ ap (λ i. Some (i, punctuate after_value rest)) (sym is);
}
word_value depth Token.bad j rest is = absurd is

string_token : (p : Place) (s : List ℕ) (rest : List Lexeme) → may_begin p ≡ true → begins_colon rest ≡ false → punctuate p (token (Token.string s) ∷ rest) ≡ Token.string s ∷ punctuate after_value rest
unfolding punctuate
string_token p s rest may apart =
    ap (λ b. place_token p (Token.string s) b (λ n. punctuate n rest)) apart
    ∙ allowed (may_begin p) (Token.string s) (λ n. punctuate n rest) after_value may

pub string_value : (depth : ℕ) (s : List ℕ) (rest : List Lexeme) → BeginWithValue depth (token (Token.string s) ∷ rest) (json.string s) rest
string_value depth s rest = record {
  reads = λ p may apart. ap (value depth) (string_token p s rest may apart) ∙ value_is depth (Token.string s ∷ punctuate after_value rest);
}

pub array_value : (depth : ℕ) (ls rest : List Lexeme) (js : Items) → 0 < depth → BeginWithItems (depth - 1) fresh ls js rest → BeginWithValue depth (token Token.begin_array ∷ ls) (json.array js) rest
unfolding punctuate
array_value depth ls rest js some inside = record {
  reads = λ p may apart.
      let ts = punctuate fresh ls in
      ap (value depth) (allowed (may_begin p) Token.begin_array (λ n. punctuate n ls) fresh may)
      ∙ value-begin_array depth ts some ∙ ap (parse_map json.array) (inside.reads (length ts) (omega arith));
}

pub object_value : (depth : ℕ) (ls rest : List Lexeme) (ms : Members) → 0 < depth → BeginWithMembers (depth - 1) fresh ls ms rest → BeginWithValue depth (token Token.begin_object ∷ ls) (json.object ms) rest
unfolding punctuate
object_value depth ls rest ms some inside = record {
  reads = λ p may apart.
      let ts = punctuate fresh ls in
      ap (value depth) (allowed (may_begin p) Token.begin_object (λ n. punctuate n ls) fresh may)
      ∙ value-begin_object depth ts some ∙ ap (parse_map json.object) (inside.reads (length ts) (omega arith));
}

-- ---- items

no_end : (depth : ℕ) (ts r : List Token) (j : Json) → value depth ts ≡ Some (j, r) → after_end_array ts ≡ None
no_end depth [] r j e = refl
no_end depth (Token.begin_object ∷ ts) r j e = refl
no_end depth (Token.end_object ∷ ts) r j e = refl
no_end depth (Token.begin_array ∷ ts) r j e = refl
no_end depth (Token.end_array ∷ ts) r j e = let never : ◌≡◌ {A = Option (Json × List Token)} None (Some (j, r)) = sym (value_is depth (Token.end_array ∷ ts)) ∙ e in absurd (cc)
no_end depth (Token.key s ∷ ts) r j e = refl
no_end depth (Token.string s ∷ ts) r j e = refl
no_end depth (Token.number s ∷ ts) r j e = refl
no_end depth (Token.boolean b ∷ ts) r j e = refl
no_end depth (Token.null ∷ ts) r j e = refl
no_end depth (Token.bad ∷ ts) r j e = refl

pub items_none : (depth : ℕ) (rest : List Lexeme) → BeginWithItems depth fresh (token Token.end_array ∷ rest) no_items rest
unfolding punctuate
items_none depth rest = record {
  reads = λ n le. items_end (value depth) n (Token.end_array ∷ punctuate after_value rest) (punctuate after_value rest) le refl;
}

-- an item, and the items after it
one_item : (depth n : ℕ) (ts r end : List Token) (j : Json) (js : Items) → value depth ts ≡ Some (j, r) → ((m : ℕ) → length r ≤ m → items (value depth) m r ≡ Some (js, end))
    → length ts ≤ n → items (value depth) n ts ≡ Some (item j js, end)
one_item depth n ts r end j js reads others le =
    let less = skip_value-shorter depth ts r (ap left reads) in
    items_more (value depth) n ts r j (omega arith) (no_end depth ts r j reads) reads ∙ ap (parse_map (item j)) (others (n - 1) (omega arith))

pub items_last : (depth : ℕ) (p : Place) (ls rest : List Lexeme) (j : Json) → may_begin p ≡ true → BeginWithValue depth ls j (token Token.end_array ∷ rest) → BeginWithItems depth p ls (item j no_items) rest
unfolding punctuate
items_last depth p ls rest j may begins = record {
  reads = λ n le. one_item depth n (punctuate p ls) (Token.end_array ∷ punctuate after_value rest) (punctuate after_value rest) j no_items (begins.reads p may refl)
      (λ m fits. items_end (value depth) m (Token.end_array ∷ punctuate after_value rest) (punctuate after_value rest) fits refl) le;
}

pub items_go_on : (depth : ℕ) (p : Place) (ls others rest : List Lexeme) (j : Json) (js : Items) → may_begin p ≡ true → BeginWithValue depth ls j (comma ∷ others) → BeginWithItems depth after_comma others js rest
    → BeginWithItems depth p ls (item j js) rest
unfolding punctuate
items_go_on depth p ls others rest j js may begins more = record {
  reads = λ n le. one_item depth n (punctuate p ls) (punctuate after_comma others) (punctuate after_value rest) j js (begins.reads p may refl) more.reads le;
}

-- ---- members

pub members_none : (depth : ℕ) (rest : List Lexeme) → BeginWithMembers depth fresh (token Token.end_object ∷ rest) no_members rest
unfolding punctuate
members_none depth rest = record {
  reads = λ n le. members_end (value depth) n (Token.end_object ∷ punctuate after_value rest) (punctuate after_value rest) le refl;
}

-- a member, and the members after it
one_member : (depth n : ℕ) (k : List ℕ) (ts s r end : List Token) (j : Json) (ms : Members) → ts ≡ Token.key k ∷ s → value depth s ≡ Some (j, r)
    → ((m : ℕ) → length r ≤ m → members (value depth) m r ≡ Some (ms, end)) → length ts ≤ n → members (value depth) n ts ≡ Some (member k j ms, end)
one_member depth n k ts s r end j ms is reads others le =
    let less = skip_value-shorter depth s r (ap left reads) in
    let longer = ap length is in
    members_more (value depth) n k ts s r j (omega arith) (ap read_key is) reads ∙ ap (parse_map (member k j)) (others (n - 1) (omega arith))

key_tokens : (p : Place) (k : List ℕ) (ls : List Lexeme) → may_begin p ≡ true → punctuate p (token (Token.string k) ∷ colon ∷ ls) ≡ Token.key k ∷ punctuate fresh ls
unfolding punctuate
key_tokens p k ls may = allowed (may_begin p) (Token.key k) (λ n. punctuate n (colon ∷ ls)) after_key may

pub members_last : (depth : ℕ) (p : Place) (k : List ℕ) (ls rest : List Lexeme) (j : Json) → may_begin p ≡ true → BeginWithValue depth ls j (token Token.end_object ∷ rest)
    → BeginWithMembers depth p (token (Token.string k) ∷ colon ∷ ls) (member k j no_members) rest
unfolding punctuate
members_last depth p k ls rest j may begins = record {
  reads = λ n le. one_member depth n k (punctuate p (token (Token.string k) ∷ colon ∷ ls)) (punctuate fresh ls) (Token.end_object ∷ punctuate after_value rest) (punctuate after_value rest) j no_members
      (key_tokens p k ls may) (begins.reads fresh refl refl)
      (λ m fits. members_end (value depth) m (Token.end_object ∷ punctuate after_value rest) (punctuate after_value rest) fits refl) le;
}

pub members_go_on : (depth : ℕ) (p : Place) (k : List ℕ) (ls others rest : List Lexeme) (j : Json) (ms : Members) → may_begin p ≡ true → BeginWithValue depth ls j (comma ∷ others)
    → BeginWithMembers depth after_comma others ms rest → BeginWithMembers depth p (token (Token.string k) ∷ colon ∷ ls) (member k j ms) rest
unfolding punctuate
members_go_on depth p k ls others rest j ms may begins more = record {
  reads = λ n le. one_member depth n k (punctuate p (token (Token.string k) ∷ colon ∷ ls)) (punctuate fresh ls) (punctuate after_comma others) (punctuate after_value rest) j ms
      (key_tokens p k ls may) (begins.reads fresh refl refl) more.reads le;
}
