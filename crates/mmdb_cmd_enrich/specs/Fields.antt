-- The member of an object that fields make, each of what is read along its path, or all that is read where there is none.
use Rattle.std.specs.Prelude.{◌≡◌, ◌⊎◌, ℕ, List, [], ◌∷◌, ◌++◌, Option, Some, None, codes}
use Rattle.json.specs.Json.{Json}
use Rattle.json.specs.Lex.{tokens as tokens_read}
use Rattle.json.specs.Print.{print}
use Rattle.json.specs.Token.{Token, key, null, string, begin_object, end_object}
use Rattle.json.specs.Tree.{json_tokens}
use Rattle.mmdb_format.specs.Unfolding.{Tree}
use Rattle.mmdb_json.specs.Shown.{Shows}
use Rattle.mmdb_net.specs.Network.{short_text_of}
use Rattle.mmdb_net.specs.declared.network.IpNetwork.{IpNetwork}
use Rattle.mmdb_reader.specs.declared.path.PathElement.{PathElement}
use Rattle.mmdb_filter.specs.declared.counts.Outcome.{Outcome}
use Rattle.mmdb_filter.specs.declared.counts.Outcome.TheVariants.{Found, Failed}
use Rattle.mmdb_cmd_enrich.specs.declared.members.MemberKind.{MemberKind}
use Rattle.mmdb_cmd_enrich.specs.declared.members.MemberKind.TheVariants.{Fields, NetworkAndFields, Records}
use Rattle.mmdb_cmd_enrich.specs.declared.members.NamedField.{NamedField}

-- the tokens of what was read: of JSON that shows it, or `null` where nothing is there
abbrev pub AreValue : Option (Option Tree) → List Token → Type 0
AreValue None tokens = ⊥
AreValue (Some None) tokens = tokens ≡ null ∷ []
AreValue (Some (Some v)) tokens = (j : Json) × Shows v j × (tokens ≡ json_tokens j)

-- for each field its name, and what is read along its path
abbrev pub AreFields : (List PathElement → Option (Option Tree)) → List NamedField → List Token → Type 0
AreFields reads [] tokens = tokens ≡ []
AreFields reads (field ∷ fields) tokens =
    (value rest : List Token) × (tokens ≡ key field.name.now ∷ (value ++ rest)) × AreValue (reads field.path.items) value × AreFields reads fields rest

-- for each field its name and `null`
abbrev pub null_fields : List NamedField → List Token
null_fields [] = []
null_fields (field ∷ fields) = key field.name.now ∷ (null ∷ null_fields fields)

-- the way to a field, or its value, can't be read
abbrev pub HasUnreadField : (List PathElement → Option (Option Tree)) → List NamedField → Type 0
HasUnreadField reads [] = ⊥
HasUnreadField reads (field ∷ fields) = (reads field.path.items ≡ None) ⊎ HasUnreadField reads fields

-- the way to a field, or its value, can't be read; without a field what is read whole can't be
abbrev pub IsUnread : (List PathElement → Option (Option Tree)) → List NamedField → Type 0
IsUnread reads [] = reads [] ≡ None
IsUnread reads (field ∷ fields) = HasUnreadField reads (field ∷ fields)

-- an object of these members
abbrev pub object_tokens : List Token → List Token
object_tokens tokens = begin_object ∷ (tokens ++ end_object ∷ [])

-- The value of a member: an object of the fields after other members, or, without a field, all that is read.
abbrev pub AreValues : List Token → (List PathElement → Option (Option Tree)) → List NamedField → List Token → Type 0
AreValues front reads [] value = AreValue (reads []) value
AreValues front reads (field ∷ fields) value = (tokens : List Token) × AreFields reads (field ∷ fields) tokens × (value ≡ object_tokens (front ++ tokens))

-- the same where everything is null
abbrev pub null_values : List Token → List NamedField → List Token
null_values front [] = null ∷ []
null_values front (field ∷ fields) = object_tokens (front ++ null_fields (field ∷ fields))

-- the member of a network, `null` where there is none
abbrev pub network_tokens : Option IpNetwork → List Token
network_tokens None = key (codes "network") ∷ (null ∷ [])
network_tokens (Some network) = key (codes "network") ∷ (string (short_text_of network) ∷ [])

-- the text of a member with other members before the fields: its name and its value; a reader gets their tokens back
abbrev pub IsMemberAfter : List Token → (List PathElement → Option (Option Tree)) → List ℕ → List NamedField → List ℕ → Type 0
IsMemberAfter front reads name fields text =
    (value : List Token) × AreValues front reads fields value × (text ≡ print (key name ∷ value)) × (tokens_read text ≡ key name ∷ value)

-- the same, or none where a field, or what is read whole, can't be read
abbrev pub MemberAfter : List Token → (List PathElement → Option (Option Tree)) → List ℕ → List NamedField → List ℕ → Outcome → Type 0
MemberAfter front reads name fields text outcome =
    (IsMemberAfter front reads name fields text × (outcome ≡ Found))
    ⊎ (IsUnread reads fields × (text ≡ []) × (outcome ≡ Failed))

-- the text of a member of which everything is null, after other members; a reader gets its tokens back
abbrev pub IsNullMemberAfter : List Token → List ℕ → List NamedField → List ℕ → Type 0
IsNullMemberAfter front name fields text =
    (text ≡ print (key name ∷ null_values front fields)) × (tokens_read text ≡ key name ∷ null_values front fields)

-- the members before the fields: none, or that of a network
abbrev pub front_tokens : MemberKind → Option IpNetwork → List Token
front_tokens Fields shown = []
front_tokens NetworkAndFields shown = network_tokens shown
front_tokens Records shown = []

-- the fields that are null without a record: none where the records are wanted, since all of the member is null then
abbrev pub nulls_of : MemberKind → List NamedField → List NamedField
nulls_of Fields fields = fields
nulls_of NetworkAndFields fields = fields
nulls_of Records fields = []

-- what fields are read in: the first record that has a value at a path, or each record
abbrev pub reads_of_kind : MemberKind → (List PathElement → Option (Option Tree)) → (List PathElement → Option (Option Tree)) → List PathElement → Option (Option Tree)
reads_of_kind Fields first each = first
reads_of_kind NetworkAndFields first each = first
reads_of_kind Records first each = each
