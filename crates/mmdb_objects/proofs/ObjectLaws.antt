-- What is known of a text that was read as a value, or was not.
use Rattle.std.proofs.Common.{◌≡◌, ◌≢◌, ℕ, List, Option, Some, None, option_map, false, true, is_none, is_some, refl, subst, sym, ap, ◌∙◌}
use Rattle.std.specs.Str.{IsUtf8}
use Rattle.json.specs.Find.{BeginsWith, Finds, InMembers, NextMember, as_object, get}
use Rattle.json.specs.Json.{Json, object, Members, member, document}
use Rattle.json.specs.Token.{Token}
use Rattle.mmdb_objects.specs.declared.step.PathStep.{PathStep}
use Rattle.mmdb_objects.specs.Objects.{EndsWithBrace, has_member, is_empty}
use Rattle.mmdb_addresses.specs.declared.readings.Reading.{Reading}
use Rattle.mmdb_objects.specs.Objects.{ReadsLine}
use Rattle.mmdb_objects.specs.Working.{ReadsValue}
use Rattle.mmdb_objects.specs.declared.objects.ReadLine.{ReadLine}
use Rattle.mmdb_objects.specs.declared.objects.ReadLine.TheVariants.{NoObject, Object}

some_json : (x y : Json) → ◌≡◌ {A = Option Json} (Some x) (Some y) → x ≡ y
some_json x y e = cc

-- a value of which no member can be read is no object
pub no_object : (j : Json) → as_object j ≡ None → (members : Members) → j ≢ object members
no_object j none members is = let e : as_object j ≡ Some members = ap as_object is in absurd (cc)

-- whether there is a next member, in all of them
pub next_is_none : {A : Type 0} (view : A → List ℕ × List Token) (old new : List Token) (r : Option A) (members : Members) → NextMember old (option_map view r) new → InMembers old members → is_none r ≡ is_empty members
next_is_none view old new None members next here = ap is_empty (sym (next members here))
next_is_none view old new (Some m) members next here =
    let found : (j : Json) × (rest : Members) × (members ≡ member (view m).0 j rest) × BeginsWith (view m).1 j × InMembers new rest = next members here in
    let (j, rest, is, begins, inside) = found in
    ap is_empty (sym is)

-- a text that is some value
pub text_read : (reading : Reading) (text : List ℕ) (path : List PathStep) (name : List ℕ) (j : Json) (behind : ℕ) (line : ReadLine) → IsUtf8 text → EndsWithBrace text behind → document text ≡ Some j → ReadsValue reading j behind path name line → ReadsLine reading text false path name line
text_read reading text path name j behind NoObject utf8 ends value reads = λ members at is. reads members (some_json j (object members) (sym value ∙ is.value))
text_read reading text path name j behind (Object line) utf8 ends value reads =
    let (members, is, holds, same) = reads in
    (members, record { whole = refl; utf8 = utf8; value = value ∙ ap Some is; ends = subst (EndsWithBrace text) (sym same) ends }, holds)

pub some_read : (reading : Reading) (text : List ℕ) (path : List PathStep) (name : List ℕ) (behind : ℕ) (line : ReadLine) (value : Option Json) → document text ≡ value → is_some value ≡ true → IsUtf8 text → EndsWithBrace text behind
    → ((j : Json) → document text ≡ Some j → ReadsValue reading j behind path name line) → ReadsLine reading text false path name line
some_read reading text path name behind line None is some utf8 ends reads = absurd (cc)
some_read reading text path name behind line (Some j) is some utf8 ends reads = text_read reading text path name j behind line utf8 ends is (reads j is)

-- whether a member of this name was found
pub taken_is : (name : List ℕ) (members : Members) (j : Json) (found : Option (List Token)) → j ≡ object members → Finds found (get name j) → is_some found ≡ has_member name members
taken_is name members j found is finds = found_is found (get name j) finds ∙ ap (λ x. is_some (get name x)) is
  where
    found_is : (found : Option (List Token)) (value : Option Json) → Finds found value → is_some found ≡ is_some value
    found_is None value none = ap is_some (sym none)
    found_is (Some ts) value some = ap is_some (sym some.1)
