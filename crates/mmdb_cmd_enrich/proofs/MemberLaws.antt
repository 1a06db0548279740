-- Members, one after another.
use Rattle.std.proofs.Common.{◌≡◌, ℕ, zero, suc, List, [], ◌∷◌, ◌++◌, Option, Some, None, option_map, ◌<◌, length, arith, false, inl, inr, subst, refl, sym, ap, ◌∙◌, drop, append_assoc, append-nil}
use Rattle.json.specs.Token.{Token, key, null}
use Rattle.json.specs.Tree.{json_tokens}
use Rattle.mmdb_format.specs.Error.{MemoryApart}
use Rattle.mmdb_format.specs.Unfolding.{Tree}
use Rattle.mmdb_format.specs.declared.error.MaxMindDbError.{MaxMindDbError}
use Rattle.mmdb_format.specs.declared.error.MaxMindDbError.TheVariants.{InvalidDatabase, Io, Decoding, ResourceLimit, InvalidNetwork, InvalidInput, Memory}
use Rattle.mmdb_decode.specs.Errors.{Fails}
use Rattle.mmdb_json.specs.Shown.{WritesShown}
use Rattle.mmdb_reader.specs.declared.path.PathElement.{PathElement}
use Rattle.mmdb_value.specs.Values.{value_tree}
use Rattle.mmdb_value.specs.declared.any_value.Value.{Value}
use Rattle.mmdb_filter.specs.declared.counts.Outcome.{Outcome}
use Rattle.mmdb_net.specs.declared.network.IpNetwork.{IpNetwork}
use Rattle.mmdb_cmd_enrich.specs.Fields.{AreValue, AreFields, HasUnreadField, IsUnread, MemberAfter, front_tokens, object_tokens, reads_of_kind}
use Rattle.mmdb_cmd_enrich.specs.Working.{PutsValue, PutsWhole, PutsFieldsAfter, PutsValuesAfter}
use Rattle.mmdb_cmd_enrich.specs.declared.members.MemberKind.{MemberKind}
use Rattle.mmdb_cmd_enrich.specs.declared.members.NamedField.{NamedField}

-- tokens that grew by those of a value that was read, and by `null` where none was there
pub value_put : (answer : Option (Option Tree)) (value : Option Value) (v : Value) (old new : List Token) → answer ≡ Some (option_map value_tree value) → value ≡ Some v → WritesShown (value_tree v) old new → PutsValue answer old new
value_put answer value v old new is there (j, shows, put) =
    subst (λ a. PutsValue a old new) (sym (is ∙ ap (λ x. Some (option_map value_tree x)) there)) (json_tokens j, (j, shows, refl), put)

pub null_value_put : (answer : Option (Option Tree)) (value : Option Value) (old new : List Token) → answer ≡ Some (option_map value_tree value) → value ≡ None → new ≡ old ++ null ∷ [] → PutsValue answer old new
null_value_put answer value old new is none put =
    subst (λ a. PutsValue a old new) (sym (is ∙ ap (λ x. Some (option_map value_tree x)) none)) (null ∷ [], refl, put)

-- whatever tokens the fields left have complete those of all
abbrev pub FieldsWay : (List PathElement → Option (Option Tree)) → List NamedField → List NamedField → List Token → List Token → Type 0
FieldsWay reads all left old now = (tokens : List Token) → AreFields reads left tokens → (whole : List Token) × AreFields reads all whole × (now ++ tokens ≡ old ++ whole)

pub fields_started : (reads : List PathElement → Option (Option Tree)) (all : List NamedField) (old : List Token) → FieldsWay reads all all old old
fields_started reads all old = λ tokens are. (tokens, are, refl)

pub one_field : (reads : List PathElement → Option (Option Tree)) (all left : List NamedField) (field : NamedField) (old now named new value : List Token)
    → FieldsWay reads all (field ∷ left) old now → named ≡ now ++ (key field.name.now ∷ []) → AreValue (reads field.path.items) value → new ≡ named ++ value → FieldsWay reads all left old new
one_field reads all left field old now named new value way name is put = λ tokens are.
    let (whole, wholes, same) = way (key field.name.now ∷ (value ++ tokens)) (value, tokens, refl, is, are) in
    (whole, wholes, ap (λ t. t ++ tokens) (put ∙ ap (λ t. t ++ value) name ∙ append_assoc now (key field.name.now ∷ []) value) ∙ append_assoc now (key field.name.now ∷ value) tokens ∙ same)

pub fields_done : (reads : List PathElement → Option (Option Tree)) (all : List NamedField) (old now : List Token) → FieldsWay reads all [] old now → (whole : List Token) × AreFields reads all whole × (now ≡ old ++ whole)
fields_done reads all old now way =
    let (whole, wholes, same) = way [] refl in
    (whole, wholes, sym (append-nil now) ∙ same)

-- one of the fields can't be read
pub rejected_in : (reads : List PathElement → Option (Option Tree)) (fields : List NamedField) (at : ℕ) (field : NamedField) (rest : List NamedField)
    → drop at fields ≡ field ∷ rest → reads field.path.items ≡ None → HasUnreadField reads fields
rejected_in reads fields zero field rest here none = subst (HasUnreadField reads) (sym here) (inl none)
rejected_in reads [] (suc at) field rest here none = absurd (cc)
rejected_in reads (x ∷ xs) (suc at) field rest here none = inr (rejected_in reads xs at field rest here none)

-- what follows of a value that could not be read, unless out of memory
pub declined : (e : MaxMindDbError) (answer : Option (Option Tree)) (P : Type 0) → (answer ≡ None → P) → Fails false e answer → MemoryApart e P
declined Memory answer P goes r = r
declined (InvalidDatabase message o) answer P goes r = goes r
declined (Io cause) answer P goes r = goes r
declined (Decoding message o path) answer P goes r = goes r
declined (ResourceLimit message o path) answer P goes r = goes r
declined (InvalidNetwork cause) answer P goes r = goes r
declined (InvalidInput message) answer P goes r = goes r

-- a member with all that is read, without a field, and one with fields
pub whole_values : (front : List Token) (reads : List PathElement → Option (Option Tree)) (name : List ℕ) (fields : List NamedField) (old new : List Token)
    → length fields ≡ 0 → PutsWhole reads name old new → PutsValuesAfter front reads name fields old new
whole_values front reads name [] old new none (value, is, put) = (value, is, put)
whole_values front reads name (field ∷ fields) old new none puts = absurd (omega (arith, none))

pub fields_values : (front : List Token) (reads : List PathElement → Option (Option Tree)) (name : List ℕ) (fields : List NamedField) (old new : List Token)
    → 0 < length fields → PutsFieldsAfter front reads name fields old new → PutsValuesAfter front reads name fields old new
fields_values front reads name [] old new some puts = absurd (omega (arith, some))
fields_values front reads name (field ∷ fields) old new some (tokens, are, put) = (object_tokens (front ++ tokens), (tokens, are, refl), put)

pub whole_unread : (reads : List PathElement → Option (Option Tree)) (fields : List NamedField) (e : MaxMindDbError) → length fields ≡ 0 → Fails false e (reads []) → MemoryApart e (IsUnread reads fields)
whole_unread reads [] e none fails = declined e (reads []) (reads [] ≡ None) (λ is. is) fails
whole_unread reads (field ∷ fields) e none fails = absurd (omega (arith, none))

pub fields_unread : (reads : List PathElement → Option (Option Tree)) (fields : List NamedField) (e : MaxMindDbError) → 0 < length fields → MemoryApart e (HasUnreadField reads fields) → MemoryApart e (IsUnread reads fields)
fields_unread reads [] e some why = absurd (omega (arith, some))
fields_unread reads (field ∷ fields) e some why = why

-- a member of the same kind, name and fields, of what is read the same
pub member_same : (kind wanted : MemberKind) (shown : Option IpNetwork) (first others each all : List PathElement → Option (Option Tree)) (name called : List ℕ) (fields given : List NamedField) (text : List ℕ) (outcome : Outcome)
    → kind ≡ wanted → first ≡ others → each ≡ all → name ≡ called → fields ≡ given
    → MemberAfter (front_tokens kind shown) (reads_of_kind kind first each) name fields text outcome → MemberAfter (front_tokens wanted shown) (reads_of_kind wanted others all) called given text outcome
member_same kind wanted shown first others each all name called fields given text outcome k f e n g made =
    subst (λ x. MemberAfter (front_tokens x shown) (reads_of_kind x others all) called given text outcome) k
    (subst (λ x. MemberAfter (front_tokens kind shown) (reads_of_kind kind x all) called given text outcome) f
    (subst (λ x. MemberAfter (front_tokens kind shown) (reads_of_kind kind first x) called given text outcome) e
    (subst (λ x. MemberAfter (front_tokens kind shown) (reads_of_kind kind first each) x given text outcome) n
    (subst (λ x. MemberAfter (front_tokens kind shown) (reads_of_kind kind first each) name x text outcome) g made))))
