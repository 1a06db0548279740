-- What is added to a line is the text of a member, so the longer line is JSON.
use Rattle.std.proofs.Common.{◌≡◌, ℕ, ◌+◌, ◌-◌, ◌<◌, ◌≤◌, Bool, true, false, not, ◌&&◌, ◌==◌, nat_lt, if◌then◌else◌, List, [], ◌∷◌, ◌++◌, length, take, drop, get_or, Option, Some, None, inl, inr, refl, sym, ap, ◌∙◌, subst, arith, take-append-drop, take-take, take_all, length-take-le, ltb-true, ltb-false, eqb-true}
use Rattle.std.proofs.lemmas.List.{drop_more, drop_all, drop-append-le}
use Rattle.std.specs.declared.net.ip_addr.IpAddr.{IpAddr}
use Rattle.json.specs.Json.{Json, null, object, Members, no_members, member, max_depth, document}
use Rattle.json.specs.Lex.{tokens, lex, punctuate}
use Rattle.json.specs.Print.{print}
use Rattle.json.specs.Token.{Token, key, begin_object, end_object}
use Rattle.json.specs.Tree.{json_tokens, depth}
use Rattle.mmdb_format.specs.Unfolding.{Tree}
use Rattle.mmdb_net.specs.declared.network.IpNetwork.{IpNetwork}
use Rattle.mmdb_reader.specs.File.{Database}
use Rattle.mmdb_reader.specs.declared.path.PathElement.{PathElement}
use Rattle.mmdb_objects.specs.declared.step.PathStep.{PathStep}
use Rattle.mmdb_filter.specs.Lines.{text_length, text_of, front_of, back_of, seen_of, is_long, row_with}
use Rattle.mmdb_filter.specs.declared.counts.Outcome.TheVariants.{Found}
use Rattle.mmdb_filter.proofs.TextLaws.{text_within}
use Rattle.mmdb_addresses.specs.declared.readings.Reading.{Reading}
use Rattle.mmdb_objects.specs.Longer.{comma_behind, put_in, and_last}
use Rattle.mmdb_objects.specs.Objects.{IsObject, is_empty}
use Rattle.mmdb_objects.proofs.ObjectTokens.{inner, inner-closed}
use Rattle.mmdb_objects.proofs.LongerLaws.{AllSpace, Brace, brace_and, last_brace, object_again, object_longer}
use Rattle.mmdb_cmd_enrich.specs.Added.{Adds, IsShownFor}
use Rattle.mmdb_cmd_enrich.specs.Fields.{AreValue, AreValues, AreFields, object_tokens, network_tokens, front_tokens, reads_of_kind}
use Rattle.mmdb_cmd_enrich.specs.Layers.{first_read, has_record}
use Rattle.mmdb_cmd_enrich.specs.Longer.{AreShown, AreShownAfter, IsShownAfter, with_network, GainsMember, LongerTextIsJson, LongerRowIsJson}
use Rattle.mmdb_cmd_enrich.specs.Networks.{HaveNetworks, smallest, shown_of}
use Rattle.mmdb_cmd_enrich.specs.Records.{each_read}
use Rattle.mmdb_cmd_enrich.specs.Template.{member as member_of, text_at}
use Rattle.mmdb_cmd_enrich.specs.declared.members.MemberKind.{MemberKind}
use Rattle.mmdb_cmd_enrich.specs.declared.members.MemberKind.TheVariants.{Fields, NetworkAndFields, Records}
use Rattle.mmdb_cmd_enrich.specs.declared.members.NamedField.{NamedField}
use Rattle.mmdb_cmd_enrich.specs.declared.place.ReadRow.TheVariants.{Passed, Place}

-- ---- the tokens of the fields are those of an object

value_of : (answer : Option (Option Tree)) (ts : List Token) → AreValue answer ts → (j : Json) × (ts ≡ json_tokens j)
value_of None ts never = absurd never
value_of (Some None) ts none = (null, none)
value_of (Some (Some v)) ts (j, shows, are) = (j, are)

fields_shown : (reads : List PathElement → Option (Option Tree)) (fields : List NamedField) (ts : List Token) → AreFields reads fields ts → (shown : Members) × AreShown reads fields shown × (ts ≡ inner shown)
fields_shown reads [] ts none = (no_members, refl, none)
fields_shown reads (field ∷ fields) ts (here, rest, are, value, more) =
    let found = value_of (reads field.path.items) here value in
    let others = fields_shown reads fields rest more in (
      member field.name.now found.0 others.0,
      (found.0, others.0, refl, subst (AreValue (reads field.path.items)) found.1 value, others.1),
      are ∙ (λ i. key field.name.now ∷ (found.1 i ++ others.2 i)),
    )

object_is : (ts : List Token) (shown : Members) → ts ≡ inner shown → object_tokens ts ≡ json_tokens (object shown)
object_is ts shown e = ap (λ l. begin_object ∷ l) (ap (λ l. l ++ end_object ∷ []) e ∙ sym (inner-closed shown))

-- the tokens of what is read whole are those of JSON too
whole_shown : (reads : List PathElement → Option (Option Tree)) (value : List Token) → AreValue (reads []) value → (j : Json) × AreValue (reads []) (json_tokens j) × (value ≡ json_tokens j)
whole_shown reads value is =
    let found = value_of (reads []) value is in
    (found.0, subst (AreValue (reads [])) found.1 is, found.1)

-- ---- the tokens before those of the fields are those of a member

-- the members before the fields: that of the smallest network of an address, where it is wanted
abbrev IsFrontOf : List Database → MemberKind → IpAddr → List Token → Type 0
IsFrontOf dbs Fields address front = front ≡ []
IsFrontOf dbs NetworkAndFields address front =
    (networks : List (Option IpNetwork)) × HaveNetworks dbs address networks × (front ≡ network_tokens (smallest networks))
IsFrontOf dbs Records address front = front ≡ []

tokens_with : (network : Option IpNetwork) (shown : Members) → network_tokens network ++ inner shown ≡ inner (with_network network shown)
tokens_with None shown = refl
tokens_with (Some network) shown = refl

whole_of : (dbs : List Database) (kind : MemberKind) (address : IpAddr) (front ts : List Token) (shown : Members) → IsFrontOf dbs kind address front → ts ≡ inner shown
    → (whole : Members) × AreShownAfter dbs kind address shown whole × (front ++ ts ≡ inner whole)
whole_of dbs Fields address front ts shown none is = (shown, refl, ap (λ f. f ++ ts) none ∙ is)
whole_of dbs Records address front ts shown none is = (shown, refl, ap (λ f. f ++ ts) none ∙ is)
whole_of dbs NetworkAndFields address front ts shown (networks, have, are) is =
    (with_network (smallest networks) shown, (networks, have, refl), ap (λ f. f ++ ts) are ∙ (ap (λ t. network_tokens (smallest networks) ++ t) is ∙ tokens_with (smallest networks) shown))

value_shown_after : (dbs : List Database) (kind : MemberKind) (address : IpAddr) (front : List Token) (reads : List PathElement → Option (Option Tree)) (fields : List NamedField) (value : List Token)
    → IsFrontOf dbs kind address front → AreValues front reads fields value → (j : Json) × IsShownAfter dbs kind address reads fields j × (value ≡ json_tokens j)
value_shown_after dbs kind address front reads [] value are is = whole_shown reads value is
value_shown_after dbs kind address front reads (field ∷ fields) value are (tokens, made, put) =
    let shown = fields_shown reads (field ∷ fields) tokens made in
    let whole = whole_of dbs kind address front tokens shown.0 are shown.2 in
    (object whole.0, (shown.0, whole.0, shown.1, whole.1, refl), put ∙ object_is (front ++ tokens) whole.0 whole.2)

-- ---- a member is no empty text, so it comes after a comma

some_text : (name : List ℕ) (value : List Token) (text : List ℕ) → tokens text ≡ key name ∷ value → text ≡ [] → ⊥
unfolding punctuate lex
some_text name value text is none = let same : ◌≡◌ {A = List Token} [] (key name ∷ value) = ap tokens (sym none) ∙ is in cc

comma_same : (comma empty : Bool) (text : List ℕ) → comma ≡ not empty → (text ≡ [] → ⊥) → text_at comma text ≡ comma_behind empty ++ text
comma_same comma empty [] e some = absurd (some refl)
comma_same true true (x ∷ xs) e some = absurd (cc)
comma_same true false (x ∷ xs) e some = refl
comma_same false true (x ∷ xs) e some = refl
comma_same false false (x ∷ xs) e some = absurd (cc)

-- ---- of any line that holds such a text

-- the network that is shown of an address with a record is the smallest
front_is : (dbs : List Database) (kind : MemberKind) (long : Bool) (reading : Reading) (path : List PathStep) (nulls : Bool) (name : List ℕ) (fields : List NamedField) (address : IpAddr) (offsets : List (Option ℕ)) (shown : Option IpNetwork)
    → has_record offsets ≡ true → IsShownFor (member_of kind long reading path nulls name fields) dbs address offsets shown → IsFrontOf dbs kind address (front_tokens kind shown)
front_is dbs Fields long reading path nulls name fields address offsets shown there is = refl
front_is dbs Records long reading path nulls name fields address offsets shown there is = refl
front_is dbs NetworkAndFields long reading path nulls name fields address offsets shown there (networks, have, are) =
    (networks, have, ap network_tokens (are ∙ ap (λ h. shown_of h networks) there))

module _ (dbs : List Database) (kind : MemberKind) (long : Bool) (reading : Reading) (path : List PathStep) (nulls : Bool) (name : List ℕ) (fields : List NamedField) (text : List ℕ) (goes_on : Bool) (extra : List ℕ) (behind : ℕ) (line longer : List ℕ)
    (was : (ms : Members) → IsObject text goes_on ms behind → document line ≡ Some (object ms))
    (becomes : (ms : Members) (value : Json) → IsObject text goes_on ms behind → extra ≡ comma_behind (is_empty ms) ++ print (key name ∷ json_tokens value)
    → tokens (print (key name ∷ json_tokens value)) ≡ key name ∷ json_tokens value → depth value < max_depth → document longer ≡ Some (object (and_last ms name value))) where
  gains : Adds (member_of kind long reading path nulls name fields) dbs text goes_on extra behind Found → GainsMember dbs kind reading path name fields line extra longer
  gains (Passed fares, address, inl (other, why), (none, stands, same)) = absurd (cc)
  gains (Passed fares, address, inr (inl (other, why)), (none, stands, same)) = absurd (cc)
  gains (Passed fares, address, inr (inr (other, _, _, _, _)), (none, stands, same)) = absurd (cc)
  gains (Place place, None, reads, (lead, more, leads, (unread, other), put, stands)) = absurd (cc)
  gains (Place place, Some address, reads, (lead, more, leads, inl (why, none, other), put, stands)) = absurd (cc)
  gains (Place place, Some address, reads, (lead, more, leads, inr (can, offsets, have, (shown, front, made, wanted, ahead, inl (absent, none, other), grew)), put, stands)) = absurd (cc)
  gains (Place place, Some address, reads, (lead, more, leads, inr (can, offsets, have, (shown, front, made, wanted, ahead, inr (there, inr (unread, none, other)), grew)), put, stands)) = absurd (cc)
  gains (Place place, Some address, (ms, of, fresh, found, comma), (lead, more, leads, inr (can, offsets, have, (shown, front, made, wanted, ahead, inr (there, inl ((value, are, printed_is, read), fares)), grew)), put, stands)) =
      let reads = reads_of_kind kind (first_read dbs offsets) (each_read dbs offsets) in
      let json = value_shown_after dbs kind address (front_tokens kind shown) reads fields value (front_is dbs kind long reading path nulls name fields address offsets shown there wanted) are in
      let here : IsObject text goes_on ms behind = subst (IsObject text goes_on ms) (sym stands) of in
      let ts = key name ∷ json_tokens json.0 in
      let is = ap (λ l. key name ∷ l) json.2 in
      let printed : made ≡ print ts = printed_is ∙ ap print is in
      let comma_put = comma_same place.has_comma (is_empty ms) made comma (some_text name value made read) in
      let added : extra ≡ comma_behind (is_empty ms) ++ print ts =
      put ∙ (ap (λ l. l ++ more) leads ∙ (grew ∙ (ap (λ l. l ++ text_at place.has_comma made) ahead ∙ (comma_put ∙ ap (λ l. comma_behind (is_empty ms) ++ l) printed)))) in
      record {
        members = ms;
        was = was ms here;
        fresh = fresh;
        address = address;
        leads = found;
        offsets = offsets;
        have = have;
        there = there;
        value = json.0;
        shows = json.1;
        added = added;
        becomes = becomes ms json.0 here added (ap tokens (sym printed) ∙ read ∙ is);
      }

-- ---- of the text itself

text_longer : (name text : List ℕ) (goes_on : Bool) (extra : List ℕ) (behind : ℕ) (ms : Members) (value : Json) → IsObject text goes_on ms behind
    → extra ≡ comma_behind (is_empty ms) ++ print (key name ∷ json_tokens value) → tokens (print (key name ∷ json_tokens value)) ≡ key name ∷ json_tokens value → depth value < max_depth
    → document (put_in text extra behind) ≡ Some (object (and_last ms name value))
text_longer name text goes_on extra behind ms value of added read shallow =
    let n = length text - behind in
    let b = last_brace text behind of.ends in
    ap (λ l. document (take n text ++ (l ++ drop n text))) added
    ∙ object_longer (take n text) (drop n text) (drop n text) ms name value b b (ap document (take-append-drop n text) ∙ of.value) read shallow

pub longer_text : LongerTextIsJson
longer_text dbs kind long reading path nulls name fields text goes_on extra behind =
    gains dbs kind long reading path nulls name fields text goes_on extra behind text (put_in text extra behind) (λ ms of. of.value) (text_longer name text goes_on extra behind)

-- ---- of a row with its end

-- the end of a row is white space
one_space : (row : List ℕ) (n : ℕ) → n + 1 ≡ length row → get_or row n 0 ≡ 10 → AllSpace (drop n row)
one_space row n long e = subst AllSpace (sym (drop_more row n 0 (omega arith) ∙ (λ i. e i ∷ drop_all (n + 1) row (omega arith) i))) (refl, tt)

two_spaces : (row : List ℕ) (n : ℕ) → n + 2 ≡ length row → get_or row n 0 ≡ 13 → get_or row (n + 1) 0 ≡ 10 → AllSpace (drop n row)
two_spaces row n long e f = subst AllSpace (sym (drop_more row n 0 (omega arith) ∙ ap (λ x. x ∷ drop (n + 1) row) e)) (refl, one_space row (n + 1) (omega arith) f)

end_is_space : (row : List ℕ) → AllSpace (drop (text_length row) row)
unfolding text_length
end_is_space row =
    at (nat_lt 0 (length row)) (get_or row (length row - 1) 0 == 10) (nat_lt 1 (length row)) (get_or row (length row - 2) 0 == 13)
    (ltb-true 0 (length row)) (eqb-true (get_or row (length row - 1) 0) 10) (ltb-true 1 (length row)) (eqb-true (get_or row (length row - 2) 0) 13)
  where
    at : (a b c d : Bool) → (a ≡ true → 0 < length row) → (b ≡ true → get_or row (length row - 1) 0 ≡ 10) → (c ≡ true → 1 < length row) → (d ≡ true → get_or row (length row - 2) 0 ≡ 13)
        → AllSpace (drop (if a && b then (if c && d then length row - 2 else length row - 1) else length row) row)
    at true true true true p q r s =
        let some = r refl in
        let next : length row - 2 + 1 ≡ length row - 1 = omega arith in
        two_spaces row (length row - 2) (omega arith) (s refl) (ap (λ k. get_or row k 0) next ∙ q refl)
    at true true true false p q r s = let some = p refl in one_space row (length row - 1) (omega arith) (q refl)
    at true true false d p q r s = let some = p refl in one_space row (length row - 1) (omega arith) (q refl)
    at true false c d p q r s = subst AllSpace (sym (drop_all (length row) row (omega arith))) tt
    at false b c d p q r s = subst AllSpace (sym (drop_all (length row) row (omega arith))) tt

-- all of a row's text is seen, so it is cut where its text is
record Cut (most : ℕ) (row : List ℕ) (behind : ℕ) : Type 0 where
  front : take (length (seen_of most row) - behind) (seen_of most row) ≡ front_of row behind
  back : drop (length (seen_of most row) - behind) (seen_of most row) ++ drop (text_length row) row ≡ back_of row behind

cut : (most : ℕ) (row : List ℕ) (behind : ℕ) → is_long most row ≡ false → Cut most row behind
cut most row behind short =
    let t = text_length row in
    let text = text_of row in
    let within : t ≤ length row = (text_within row).0 in
    let seen : seen_of most row ≡ text = take_all most text (ltb-false most (length text) short) in
    let long : length text ≡ t = length-take-le t row within in
    let at : length (seen_of most row) - behind ≡ t - behind = ap (λ l. length l - behind) seen ∙ ap (λ n. n - behind) long in
    record {
      front = (λ i. take (at i) (seen i)) ∙ take-take (t - behind) t row (omega arith);
      back = ap (λ l. l ++ drop t row) (λ i. drop (at i) (seen i)) ∙ sym (drop-append-le (t - behind) text (drop t row) (omega arith)) ∙ ap (drop (t - behind)) (take-append-drop t row);
    }

module _ (most : ℕ) (name row extra : List ℕ) (behind : ℕ) (ms : Members) (of : IsObject (seen_of most row) (is_long most row) ms behind) where
  abbrev front : List ℕ
  front = take (length (seen_of most row) - behind) (seen_of most row)

  abbrev back : List ℕ
  back = drop (length (seen_of most row) - behind) (seen_of most row)

  abbrev whole_back : List ℕ
  whole_back = back ++ drop (text_length row) row

  brace : Brace back
  brace = last_brace (seen_of most row) behind of.ends

  whole_brace : Brace whole_back
  whole_brace = brace_and back (drop (text_length row) row) brace (end_is_space row)

  seen_was : document (front ++ back) ≡ Some (object ms)
  seen_was = ap document (take-append-drop (length (seen_of most row) - behind) (seen_of most row)) ∙ of.value

  row_was : document row ≡ Some (object ms)
  row_was =
      let c = cut most row behind of.whole in
      ap document (sym (take-append-drop (text_length row - behind) row) ∙ (λ i. sym c.front i ++ sym c.back i)) ∙ object_again front back whole_back ms brace whole_brace seen_was

  row_longer : (value : Json) → extra ≡ comma_behind (is_empty ms) ++ print (key name ∷ json_tokens value) → tokens (print (key name ∷ json_tokens value)) ≡ key name ∷ json_tokens value → depth value < max_depth
      → document (row_with row extra behind) ≡ Some (object (and_last ms name value))
  row_longer value added read shallow =
      let c = cut most row behind of.whole in
      ap document (λ i. sym c.front i ++ (added i ++ sym c.back i)) ∙ object_longer front back whole_back ms name value brace whole_brace seen_was read shallow

pub longer_row : LongerRowIsJson
longer_row dbs kind long reading path nulls name fields most row extra behind =
    gains dbs kind long reading path nulls name fields (seen_of most row) (is_long most row) extra behind row (row_with row extra behind)
    (λ ms of. row_was most name row extra behind ms of) (λ ms value of. row_longer most name row extra behind ms of value)
