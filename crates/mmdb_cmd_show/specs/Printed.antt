-- What is printed of what databases have for an address.
use Rattle.std.specs.Prelude.{◌≡◌, ◌⊎◌, List, [], ◌∷◌, ◌++◌, ℕ, Bool, true, false, ◌&&◌, ◌||◌, Option, Some, None, is_some, option_map, Ok, Err, codes, if◌then◌else◌}
use Rattle.std.specs.Borrow.{Bor}
use Rattle.std.specs.Global.{Vec}
use Rattle.std.specs.Net.Text.{ip_text}
use Rattle.std.specs.declared.net.ip_addr.IpAddr.{IpAddr}
use Rattle.json.specs.Token.{Token}
use Rattle.json.specs.Json.{Json, null, string, object, Members, no_members, member}
use Rattle.json.specs.Tree.{json_tokens, members_tokens}
use Rattle.json.specs.Print.{print}
use Rattle.json.specs.Layout.{pretty}
use Rattle.mmdb_net.specs.Network.{short_text_of}
use Rattle.mmdb_format.specs.Unfolding.{Tree}
use Rattle.mmdb_value.specs.Values.{value_tree}
use Rattle.mmdb_reader.specs.declared.path.PathElement.{PathElement}
use Rattle.mmdb_json.specs.Shown.{Shows}
use Rattle.mmdb_layout.specs.declared.fields.ChosenFields.{ChosenFields}
use Rattle.mmdb_cmd_show.specs.Asked.{FindsFirst}
use Rattle.mmdb_cmd_show.specs.declared.answer.DatabaseAnswer.{DatabaseAnswer}
use Rattle.mmdb_cmd_show.specs.declared.answer.AddressRecords.{AddressRecords}
use Rattle.mmdb_cmd_show.specs.declared.answer.AddressValues.{AddressValues}
use Rattle.mmdb_cmd_show.specs.declared.answer.Shown.{Shown}
use Rattle.mmdb_cmd_show.specs.declared.answer.Shown.TheVariants.{Value, Values}
use Rattle.mmdb_cmd_show.specs.declared.databases.ShownDatabase.{ShownDatabase}

-- the JSON of what was read, or null
abbrev pub ShowsOrNull : Option Tree → Json → Type 0
ShowsOrNull None j = j ≡ null
ShowsOrNull (Some tree) j = Shows tree j

-- an object with an address before these members
abbrev pub object_of : IpAddr → Members → Json
object_of address members = object (member (codes "address") (string (ip_text address)) members)

-- the text of JSON in a line, or else laid out over several, and a newline
abbrev pub lines_of : Bool → Json → List ℕ
lines_of in_line j = (if in_line then print (json_tokens j) else pretty (json_tokens j)) ++ 10 ∷ []

-- a text grows by that of such JSON
abbrev pub Prints : Bool → (Json → Type 0) → List ℕ → List ℕ → Type 0
Prints in_line shows old new = (j : Json) × shows j × (new ≡ old ++ lines_of in_line j)

-- ---- values

-- the JSON of the value along a path in the first of the databases that has one, or null; and whether there is one
abbrev pub ShowsValue : List ShownDatabase → IpAddr → List PathElement → Bool → Json → Type 0
ShowsValue databases address path is_found j =
    (value : Option Tree) × FindsFirst databases address path (Ok value) × ShowsOrNull value j × (is_found ≡ is_some value)

-- a member of that, before others
abbrev pub HasValue : List ShownDatabase → IpAddr → List ℕ → List PathElement → Bool → Members → Members → Type 0
HasValue databases address name path is_found others members =
    (j : Json) × ShowsValue databases address path is_found j × (members ≡ member name j others)

-- such members, one for each path, and whether none is missing
abbrev pub HasValues : List ShownDatabase → IpAddr → List (Bor (List ℕ)) → List (Vec PathElement) → Members → Bool → Type 0
HasValues databases address [] paths members are_found = (members ≡ no_members) × (are_found ≡ true)
HasValues databases address (name ∷ names) [] members are_found = (members ≡ no_members) × (are_found ≡ true)
HasValues databases address (name ∷ names) (path ∷ paths) members are_found =
    (others : Members) × (first rest : Bool) × HasValue databases address name.now path.items first others members
    × HasValues databases address names paths others rest × (are_found ≡ first && rest)

-- the JSON of an object with the address and those members
abbrev pub ShowsFields : List ShownDatabase → IpAddr → ChosenFields → Bool → Json → Type 0
ShowsFields databases address fields are_found j =
    (members : Members) × HasValues databases address fields.names.items fields.paths.items members are_found
    × (j ≡ object_of address members)

-- the JSON of what is shown, and whether nothing is missing
abbrev pub ShowsThese : List ShownDatabase → IpAddr → Shown → Bool → Json → Type 0
ShowsThese databases address (Value path) is_found j = ShowsValue databases address path.now is_found j
ShowsThese databases address (Values fields) is_found j = ShowsFields databases address fields.now is_found j

-- the value along one of the paths can't be read in the database of this name, and those along the paths before it can
abbrev pub IsFirstUnread : List ShownDatabase → IpAddr → List (Vec PathElement) → List ℕ → Type 0
IsFirstUnread databases address [] name = ⊥
IsFirstUnread databases address (path ∷ paths) name =
    FindsFirst databases address path.items (Err name)
    ⊎ ((value : Option Tree) × FindsFirst databases address path.items (Ok value) × IsFirstUnread databases address paths name)

-- the same of what is shown
abbrev pub IsUnreadOf : List ShownDatabase → IpAddr → Shown → List ℕ → Type 0
IsUnreadOf databases address (Value path) name = FindsFirst databases address path.now (Err name)
IsUnreadOf databases address (Values fields) name = IsFirstUnread databases address fields.now.paths.items name

-- The JSON of the values of an address that are shown, and whether nothing is missing.
abbrev pub ShowsValues : AddressValues → Bool → Json → Type 0
ShowsValues values is_found j = ShowsThese values.databases.now values.address values.shown is_found j

-- one of them can't be read, in the database of this name
abbrev pub IsUnread : AddressValues → List ℕ → Type 0
IsUnread values name = IsUnreadOf values.databases.now values.address values.shown name

-- ---- records

-- the members, before others, of an answer
abbrev pub HasAnswer : DatabaseAnswer → Members → Members → Type 0
HasAnswer answer others members =
    (record_shown : Json) × ShowsOrNull (option_map value_tree answer.record) record_shown
    × (members ≡ member (codes "network") (string (short_text_of answer.network)) (member (codes "record") record_shown others))

-- the JSON of an answer, or null
abbrev pub ShowsAnswer : Option DatabaseAnswer → Json → Type 0
ShowsAnswer None j = j ≡ null
ShowsAnswer (Some answer) j = (members : Members) × HasAnswer answer no_members members × (j ≡ object members)

-- the members, before others, of what one of the databases has: by its key where they are named
abbrev pub HasDatabase : Bool → ShownDatabase → Option DatabaseAnswer → Members → Members → Type 0
HasDatabase true shown answer others members = (j : Json) × ShowsAnswer answer j × (members ≡ member shown.key.now j others)
HasDatabase false shown None others members = members ≡ others
HasDatabase false shown (Some answer) others members = HasAnswer answer others members

-- an answer has a record
abbrev pub has_record : Option DatabaseAnswer → Bool
has_record None = false
has_record (Some answer) = is_some answer.record

-- those of each of the databases, and whether one has a record
abbrev pub HasDatabases : Bool → List ShownDatabase → List (Option DatabaseAnswer) → Members → Bool → Type 0
HasDatabases are_named [] answers members has_one = (members ≡ no_members) × (has_one ≡ false)
HasDatabases are_named (shown ∷ databases) [] members has_one = (members ≡ no_members) × (has_one ≡ false)
HasDatabases are_named (shown ∷ databases) (answer ∷ answers) members has_one =
    (others : Members) × (rest : Bool) × HasDatabase are_named shown answer others members
    × HasDatabases are_named databases answers others rest × (has_one ≡ has_record answer || rest)

-- The JSON of what databases have for an address, and whether one has a record.
abbrev pub ShowsRecords : AddressRecords → Bool → Json → Type 0
ShowsRecords records has_one j =
    (members : Members) × HasDatabases records.are_named records.databases.now records.answers.now members has_one
    × (j ≡ object_of records.address members)

-- ---- what only contracts of private functions and proofs name

-- tokens grow by those of such JSON
abbrev pub Writes : (Json → Type 0) → List Token → List Token → Type 0
Writes shows old new = (j : Json) × shows j × (new ≡ old ++ json_tokens j)

-- tokens grow by such members, up to the end of their object
abbrev pub WritesMembers : (Members → Type 0) → List Token → List Token → Type 0
WritesMembers have old new = (members : Members) × have members × (new ++ members_tokens no_members ≡ old ++ members_tokens members)

-- tokens grow by the first of members, which others may follow
abbrev pub Begins : (Members → Members → Type 0) → List Token → List Token → Type 0
Begins before old new = (others : Members) → (members : Members) × before others members × (new ++ members_tokens others ≡ old ++ members_tokens members)
