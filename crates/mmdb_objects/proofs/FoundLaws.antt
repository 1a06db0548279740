-- What a pass over a text has found, from what it found in its parts.
use Rattle.std.proofs.Common.{◌≡◌, ℕ, ◌+◌, ◌-◌, ◌<◌, ◌≤◌, ◌∷◌, Bool, true, false, cond, List, Option, None, Some, option_map, option_and_then, is_some, ◌||◌, [], length, get_or, take, drop, arith, refl, sym, ap, ap₂, ◌∙◌, subst}
use Rattle.std.proofs.lemmas.List.{take_all, drop_all}
use Rattle.std.specs.Option.{IfSome}
use Rattle.json.specs.Token.{Token}
use Rattle.json.specs.Text.{content, plain}
use Rattle.json.specs.Word.{head}
use Rattle.json.specs.Find.{later_or, get_member, get, as_str, as_object}
use Rattle.std.specs.Borrow.{Bor}
use Rattle.std.specs.Str.{bytes_eq}
use Rattle.mmdb_objects.specs.declared.step.PathStep.{PathStep}
use Rattle.mmdb_objects.specs.declared.step.PathStep.TheVariants.{Key}
use Rattle.mmdb_objects.specs.declared.one_pass.Followed.{Followed}
use Rattle.mmdb_objects.specs.Objects.{text_along, has_member}
use Rattle.json.specs.Lex.{Lexeme, token, comma, between, in_string, lex, Place, fresh, after_value, after_comma, may_begin, begins_colon, punctuate}
use Rattle.json.specs.Json.{Json, Items, no_items, item, Members, no_members, member, value, if_last, document}
use Rattle.json.specs.Json as json
use Rattle.mmdb_objects.specs.Scanned.{lexemes_at, bytes_between, IsWordOf, HasWord, HasKey, StandsBehind, BeginWithValue, BeginWithItems, BeginWithMembers, HasValue, HasItems, HasMembers}
use Rattle.mmdb_objects.proofs.ScanLaws.{at_string, at_comma, at_open_brace, at_close_brace, at_open_bracket, at_close_bracket}
use Rattle.mmdb_objects.proofs.GrammarLaws.{word_value, string_value, array_value, object_value, items_none, items_last, items_go_on, members_none, members_last, members_go_on}

-- ---- values

word_is_other : (j : Json) (t : Token) → IsWordOf j t → (as_str j ≡ None) × (as_object j ≡ None)
word_is_other j Token.begin_object is = absurd is
word_is_other j Token.end_object is = absurd is
word_is_other j Token.begin_array is = absurd is
word_is_other j Token.end_array is = absurd is
word_is_other j (Token.key s) is = absurd is
word_is_other j (Token.string s) is = absurd is
word_is_other j (Token.number s) is = (ap as_str is, ap as_object is)
word_is_other j (Token.boolean b) is = (ap as_str is, ap as_object is)
word_is_other j Token.null is = (ap as_str is, ap as_object is)
word_is_other j Token.bad is = absurd is

pub word_found : (text : List ℕ) (from end depth : ℕ) (j : Json) → HasWord text from end j → HasValue text from end depth j
word_found text from end depth j has =
    let others = word_is_other j has.word has.is in
    record {
      begins = subst (λ ls. BeginWithValue depth ls j (lexemes_at text end)) (sym has.reads) (word_value depth has.word j (lexemes_at text end) has.is);
      no_string = λ apart. others.0;
      no_object = λ apart. others.1;
    }

pub string_found : (text s : List ℕ) (from end depth : ℕ) → head (drop from text) ≡ 34 → content plain (drop (from + 1) text) ≡ Some s → lex in_string (drop (from + 1) text) ≡ lexemes_at text (end + 1)
    → HasValue text from (end + 1) depth (json.string s)
string_found text s from end depth first bytes passed = record {
  begins = subst (λ ls. BeginWithValue depth ls (json.string s) (lexemes_at text (end + 1))) (sym (at_string text s from end first bytes passed)) (string_value depth s (lexemes_at text (end + 1)));
  no_string = λ apart. absurd (apart first);
  no_object = λ apart. refl;
}

pub object_found : (text : List ℕ) (from end depth : ℕ) (ms : Members) → head (drop from text) ≡ 123 → 0 < depth → HasMembers text (from + 1) end (depth - 1) ms → HasValue text from end depth (json.object ms)
object_found text from end depth ms first deep inside = record {
  begins = subst (λ ls. BeginWithValue depth ls (json.object ms) (lexemes_at text end)) (sym (at_open_brace text from first))
      (object_value depth (lexemes_at text (from + 1)) (lexemes_at text end) ms deep inside);
  no_string = λ apart. refl;
  no_object = λ apart. absurd (apart first);
}

pub array_found : (text : List ℕ) (from end depth : ℕ) (js : Items) → head (drop from text) ≡ 91 → 0 < depth → HasItems text (from + 1) end (depth - 1) js → HasValue text from end depth (json.array js)
array_found text from end depth js first deep inside = record {
  begins = subst (λ ls. BeginWithValue depth ls (json.array js) (lexemes_at text end)) (sym (at_open_bracket text from first))
      (array_value depth (lexemes_at text (from + 1)) (lexemes_at text end) js deep inside);
  no_string = λ apart. refl;
  no_object = λ apart. refl;
}

-- ---- items

pub no_item : (text : List ℕ) (from at depth : ℕ) → lexemes_at text at ≡ lexemes_at text from → head (drop at text) ≡ 93 → HasItems text from (at + 1) depth no_items
no_item text from at depth same closes =
    subst (λ ls. BeginWithItems depth fresh ls no_items (lexemes_at text (at + 1))) (sym (at_close_bracket text at closes) ∙ same) (items_none depth (lexemes_at text (at + 1)))

pub last_item : (text : List ℕ) (at value end depth : ℕ) (j : Json) → HasValue text at value depth j → lexemes_at text end ≡ lexemes_at text value → head (drop end text) ≡ 93
    → (p : Place) → may_begin p ≡ true → BeginWithItems depth p (lexemes_at text at) (item j no_items) (lexemes_at text (end + 1))
last_item text at value end depth j has same closes p may =
    items_last depth p (lexemes_at text at) (lexemes_at text (end + 1)) j may
    (subst (BeginWithValue depth (lexemes_at text at) j) (sym same ∙ at_close_bracket text end closes) has.begins)

pub next_item : (text : List ℕ) (at value end next depth : ℕ) (j : Json) (js : Items) (rest : List Lexeme) → HasValue text at value depth j → lexemes_at text end ≡ lexemes_at text value → head (drop end text) ≡ 44
    → lexemes_at text next ≡ lexemes_at text (end + 1) → ((p : Place) → may_begin p ≡ true → BeginWithItems depth p (lexemes_at text next) js rest)
    → (p : Place) → may_begin p ≡ true → BeginWithItems depth p (lexemes_at text at) (item j js) rest
next_item text at value end next depth j js rest has same mark behind others p may =
    items_go_on depth p (lexemes_at text at) (lexemes_at text next) rest j js may
    (subst (BeginWithValue depth (lexemes_at text at) j) (sym same ∙ at_comma text end mark ∙ ap (λ l. comma ∷ l) (sym behind)) has.begins) (others after_comma refl)

-- ---- members

pub no_member : (text : List ℕ) (from at depth : ℕ) → lexemes_at text at ≡ lexemes_at text from → head (drop at text) ≡ 125 → HasMembers text from (at + 1) depth no_members
no_member text from at depth same closes =
    subst (λ ls. BeginWithMembers depth fresh ls no_members (lexemes_at text (at + 1))) (sym (at_close_brace text at closes) ∙ same) (members_none depth (lexemes_at text (at + 1)))

pub last_member : (text : List ℕ) (at quote start value end depth : ℕ) (j : Json) → HasKey text at quote start → HasValue text start value depth j → StandsBehind text value 125 end
    → (p : Place) → may_begin p ≡ true → BeginWithMembers depth p (lexemes_at text at) (member (bytes_between text (at + 1) quote) j no_members) (lexemes_at text end)
last_member text at quote start value end depth j key has close p may =
    let k = bytes_between text (at + 1) quote in
    let closes = sym close.before ∙ at_close_brace text close.place close.is ∙ ap (λ l. token Token.end_object ∷ l) (sym close.behind) in
    subst (λ ls. BeginWithMembers depth p ls (member k j no_members) (lexemes_at text end)) (sym key.reads)
    (members_last depth p k (lexemes_at text start) (lexemes_at text end) j may (subst (BeginWithValue depth (lexemes_at text start) j) closes has.begins))

pub next_member : (text : List ℕ) (at quote start value next depth : ℕ) (j : Json) (ms : Members) (rest : List Lexeme) → HasKey text at quote start → HasValue text start value depth j → StandsBehind text value 44 next
    → ((p : Place) → may_begin p ≡ true → BeginWithMembers depth p (lexemes_at text next) ms rest)
    → (p : Place) → may_begin p ≡ true → BeginWithMembers depth p (lexemes_at text at) (member (bytes_between text (at + 1) quote) j ms) rest
next_member text at quote start value next depth j ms rest key has mark others p may =
    let k = bytes_between text (at + 1) quote in
    let goes_on = sym mark.before ∙ at_comma text mark.place mark.is ∙ ap (λ l. comma ∷ l) (sym mark.behind) in
    subst (λ ls. BeginWithMembers depth p ls (member k j ms) rest) (sym key.reads)
    (members_go_on depth p k (lexemes_at text start) (lexemes_at text next) rest j ms may
    (subst (BeginWithValue depth (lexemes_at text start) j) goes_on has.begins) (others after_comma refl))

-- ---- where a pass begins and ends

pub first_items : (text : List ℕ) (from at depth : ℕ) (js : Items) (rest : List Lexeme) → lexemes_at text at ≡ lexemes_at text from
    → ((p : Place) → may_begin p ≡ true → BeginWithItems depth p (lexemes_at text at) js rest) → BeginWithItems depth fresh (lexemes_at text from) js rest
first_items text from at depth js rest same begins = subst (λ ls. BeginWithItems depth fresh ls js rest) same (begins fresh refl)

pub first_members : (text : List ℕ) (from at depth : ℕ) (ms : Members) (rest : List Lexeme) → lexemes_at text at ≡ lexemes_at text from
    → ((p : Place) → may_begin p ≡ true → BeginWithMembers depth p (lexemes_at text at) ms rest) → BeginWithMembers depth fresh (lexemes_at text from) ms rest
first_members text from at depth ms rest same begins = subst (λ ls. BeginWithMembers depth fresh ls ms rest) same (begins fresh refl)

-- a value, where there is one, from what was found inside it
pub if_found : {A : Type 0} (P : ℕ → A → Type 0) (f : A → Json) (text : List ℕ) (from depth : ℕ) (end : Option ℕ) → ((e : ℕ) (a : A) → P e a → HasValue text from e depth (f a))
    → IfSome end (λ e. (a : A) × P e a) → IfSome end (λ e. (j : Json) × HasValue text from e depth j)
if_found P f text from depth None g has = tt
if_found P f text from depth (Some e) g has = (f has.0, g e has.0 has.1)

-- ---- along a path

no_member_of : (name : List ℕ) (j : Json) → as_object j ≡ None → get name j ≡ None
no_member_of name json.null e = refl
no_member_of name (json.boolean b) e = refl
no_member_of name (json.number s) e = refl
no_member_of name (json.string s) e = refl
no_member_of name (json.array js) e = refl
no_member_of name (json.object ms) e = absurd (cc)

-- no key leads into what is no object
pub no_way : (name : Bor (List ℕ)) (path : List PathStep) (j : Json) → as_object j ≡ None → None ≡ text_along (Key name ∷ path) j
no_way name path j e = ap (option_and_then (text_along path)) (sym (no_member_of name.now j e))

-- the text that a path leads to from a member, or that an earlier member gave
abbrev pub text_or : List PathStep → Option Json → Option (List ℕ) → Option (List ℕ)
text_or path None earlier = earlier
text_or path (Some j) earlier = text_along path j

text_or_none : (path : List PathStep) (o : Option Json) → text_or path o None ≡ option_and_then (text_along path) o
text_or_none path None = refl
text_or_none path (Some j) = refl

text_of_later : (path : List PathStep) (o : Option Json) (j : Json) (b : Bool) (earlier : Option (List ℕ))
    → text_or path (later_or o (cond b (Some j) None)) earlier ≡ text_or path o (cond b (text_along path j) earlier)
text_of_later path None j true earlier = refl
text_of_later path None j false earlier = refl
text_of_later path (Some i) j b earlier = refl

-- the text where a path has come to a member, before other members
pub text_goes_on : (path : List PathStep) (name k : List ℕ) (j : Json) (ms all : Members) (earlier now : Option (List ℕ)) (named : Bool) → named ≡ bytes_eq k name
    → now ≡ cond named (text_along path j) earlier → text_or path (get_member name all) None ≡ text_or path (get_member name (member k j ms)) earlier
    → text_or path (get_member name all) None ≡ text_or path (get_member name ms) now
text_goes_on path name k j ms all earlier now named same is so_far =
    so_far ∙ text_of_later path (get_member name ms) j (bytes_eq k name) earlier
    ∙ ap (text_or path (get_member name ms)) (sym (is ∙ ap (λ b. cond b (text_along path j) earlier) same))

-- the same before no other
pub text_found : (path : List PathStep) (name k : List ℕ) (j : Json) (all : Members) (earlier now : Option (List ℕ)) (named : Bool) → named ≡ bytes_eq k name
    → now ≡ cond named (text_along path j) earlier → text_or path (get_member name all) None ≡ text_or path (get_member name (member k j no_members)) earlier
    → now ≡ option_and_then (text_along path) (get_member name all)
text_found path name k j all earlier now named same is so_far =
    sym (text_goes_on path name k j no_members all earlier now named same is so_far) ∙ text_or_none path (get_member name all)

key_first : (path : List PathStep) (d : PathStep) (name : Bor (List ℕ)) → 0 < length path → get_or path 0 d ≡ Key name → path ≡ Key name ∷ take (length path - 1) (drop 1 path)
key_first [] d name some is = let never : ⊥ = omega arith in absurd never
key_first (p ∷ ps) d name some is = ap₂ (λ x xs. x ∷ xs) is (sym (take_all (length (p ∷ ps) - 1) ps (omega arith)))

-- an object into which a path was followed
pub object_followed : (text : List ℕ) (from depth : ℕ) (path : List PathStep) (d : PathStep) (name : Bor (List ℕ)) (f : Option Followed) → 0 < length path → get_or path 0 d ≡ Key name
    → head (drop from text) ≡ 123 → 0 < depth
    → IfSome f (λ f. (ms : Members) × HasMembers text (from + 1) f.end (depth - 1) ms × (option_map (λ s. s.now) f.text ≡ option_and_then (text_along (take (length path - 1) (drop 1 path))) (get_member name.now ms)))
    → IfSome f (λ f. (j : Json) × HasValue text from f.end depth j × (option_map (λ s. s.now) f.text ≡ text_along path j))
object_followed text from depth path d name None some is first deep has = tt
object_followed text from depth path d name (Some f) some is first deep has =
    let (ms, inside, leads) = has in
    (json.object ms, object_found text from f.end depth ms first deep inside, leads ∙ ap (λ p. text_along p (json.object ms)) (sym (key_first path d name some is)))

-- ---- a whole text

-- a text that is an object with these members
pub whole_object : (text : List ℕ) (from end last : ℕ) (ms : Members) → lexemes_at text from ≡ lexemes_at text 0 → head (drop from text) ≡ 123 → HasMembers text (from + 1) end 127 ms
    → lexemes_at text last ≡ lexemes_at text end → length text ≤ last → document text ≡ Some (json.object ms)
unfolding lex punctuate
whole_object text from end last ms before first inside behind past =
    let over : lexemes_at text end ≡ [] = sym behind ∙ ap (lex between) (drop_all last text past) in
    let found = object_found text from end 128 ms first (omega arith) inside in
    let reads = found.begins.reads fresh refl (ap begins_colon over) in
    let all : value 128 (punctuate fresh (lexemes_at text 0)) ≡ Some (json.object ms, []) =
    ap (λ ls. value 128 (punctuate fresh ls)) (sym before) ∙ reads ∙ ap (λ ls. Some (json.object ms, punctuate after_value ls)) over in
    ap (option_and_then (λ p. if_last p.0 p.1)) all

-- the text that a whole path leads to
pub whole_path : (path : List PathStep) (d : PathStep) (name : Bor (List ℕ)) (ms : Members) (found : Option (List ℕ)) → 0 < length path → get_or path 0 d ≡ Key name
    → found ≡ option_and_then (text_along (take (length path - 1) (drop 1 path))) (get_member name.now ms) → found ≡ text_along path (json.object ms)
whole_path path d name ms found some is leads = leads ∙ ap (λ p. text_along p (json.object ms)) (sym (key_first path d name some is))

-- a mark that closes, or one that does not
pub mark_of : (text : List ℕ) (from at : ℕ) (b c : Bool) → b ≡ c → StandsBehind text from (cond b 125 44) at → StandsBehind text from (cond c 125 44) at
mark_of text from at b c e stands = subst (λ x. StandsBehind text from (cond x 125 44) at) e stands

-- ---- whether a name is taken

taken_later : (o : Option Json) (j : Json) (b here : Bool) → (here || is_some (later_or o (cond b (Some j) None))) ≡ ((here || b) || is_some o)
taken_later None j true true = refl
taken_later None j true false = refl
taken_later None j false true = refl
taken_later None j false false = refl
taken_later (Some i) j true true = refl
taken_later (Some i) j true false = refl
taken_later (Some i) j false true = refl
taken_later (Some i) j false false = refl

-- where a pass has come to a member, before other members
pub taken_goes_on : (name k : List ℕ) (j : Json) (ms all : Members) (earlier now is : Bool) → is ≡ bytes_eq k name → now ≡ (earlier || is)
    → has_member name all ≡ (earlier || has_member name (member k j ms)) → has_member name all ≡ (now || has_member name ms)
taken_goes_on name k j ms all earlier now is same so_far e =
    e ∙ taken_later (get_member name ms) j (bytes_eq k name) earlier ∙ ap (λ b. b || has_member name ms) (sym (so_far ∙ ap (λ b. earlier || b) same))

none_more : (b c : Bool) → b ≡ (c || false) → c ≡ b
none_more b true e = sym e
none_more b false e = sym e

pub taken_found : (name k : List ℕ) (j : Json) (all : Members) (earlier now is : Bool) → is ≡ bytes_eq k name → now ≡ (earlier || is)
    → has_member name all ≡ (earlier || has_member name (member k j no_members)) → now ≡ has_member name all
taken_found name k j all earlier now is same so_far e = none_more _ _ (taken_goes_on name k j no_members all earlier now is same so_far e)
