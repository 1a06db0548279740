-- A line that gains a member: it is JSON again, the object that it was with one member more.
use Rattle.std.specs.Prelude.{◌≡◌, ◌<◌, ℕ, List, [], ◌∷◌, ◌++◌, Option, Some, None, Bool, true, false, codes}
use Rattle.std.specs.declared.net.ip_addr.IpAddr.{IpAddr}
use Rattle.json.specs.Json.{Json, null, string, object, Members, no_members, member, max_depth, document}
use Rattle.json.specs.Print.{print}
use Rattle.json.specs.Token.{key}
use Rattle.json.specs.Tree.{json_tokens, depth}
use Rattle.mmdb_format.specs.Unfolding.{Tree}
use Rattle.mmdb_net.specs.Network.{short_text_of}
use Rattle.mmdb_net.specs.declared.network.IpNetwork.{IpNetwork}
use Rattle.mmdb_reader.specs.File.{Database}
use Rattle.mmdb_reader.specs.declared.path.PathElement.{PathElement}
use Rattle.mmdb_filter.specs.Lines.{seen_of, is_long, row_with}
use Rattle.mmdb_filter.specs.declared.counts.Outcome.TheVariants.{Found}
use Rattle.mmdb_addresses.specs.declared.readings.Reading.{Reading}
use Rattle.mmdb_objects.specs.Longer.{comma_behind, put_in, and_last}
use Rattle.mmdb_objects.specs.declared.step.PathStep.{PathStep}
use Rattle.mmdb_objects.specs.Objects.{LeadsToAddress, has_member, is_empty}
use Rattle.mmdb_cmd_enrich.specs.Added.{Adds}
use Rattle.mmdb_cmd_enrich.specs.Fields.{AreValue, reads_of_kind}
use Rattle.mmdb_cmd_enrich.specs.Layers.{HaveAll, first_read, has_record}
use Rattle.mmdb_cmd_enrich.specs.Networks.{HaveNetworks, smallest}
use Rattle.mmdb_cmd_enrich.specs.Records.{each_read}
use Rattle.mmdb_cmd_enrich.specs.Template.{member as member_of}
use Rattle.mmdb_cmd_enrich.specs.declared.members.MemberKind.{MemberKind}
use Rattle.mmdb_cmd_enrich.specs.declared.members.MemberKind.TheVariants.{Fields, NetworkAndFields, Records}
use Rattle.mmdb_cmd_enrich.specs.declared.members.NamedField.{NamedField}

-- for each field a member of its name: JSON that shows what is read along its path, or `null` where nothing is
abbrev pub AreShown : (List PathElement → Option (Option Tree)) → List NamedField → Members → Type 0
AreShown reads [] shown = shown ≡ no_members
AreShown reads (field ∷ fields) shown =
    (j : Json) × (rest : Members) × (shown ≡ member field.name.now j rest) × AreValue (reads field.path.items) (json_tokens j)
    × AreShown reads fields rest

-- the member of a network before others
abbrev pub with_network : Option IpNetwork → Members → Members
with_network None shown = member (codes "network") null shown
with_network (Some network) shown = member (codes "network") (string (short_text_of network)) shown

-- The members of an object are those of the fields, after that of the smallest network of an address where it is wanted.
abbrev pub AreShownAfter : List Database → MemberKind → IpAddr → Members → Members → Type 0
AreShownAfter dbs Fields address shown whole = whole ≡ shown
AreShownAfter dbs NetworkAndFields address shown whole =
    (networks : List (Option IpNetwork)) × HaveNetworks dbs address networks × (whole ≡ with_network (smallest networks) shown)
AreShownAfter dbs Records address shown whole = whole ≡ shown

-- A value that is shown: such an object, or, without a field, JSON that shows all that is read.
abbrev pub IsShownAfter : List Database → MemberKind → IpAddr → (List PathElement → Option (Option Tree)) → List NamedField → Json → Type 0
IsShownAfter dbs kind address reads [] value = AreValue (reads []) (json_tokens value)
IsShownAfter dbs kind address reads (field ∷ fields) value =
    (shown whole : Members) × AreShown reads (field ∷ fields) shown × AreShownAfter dbs kind address shown whole × (value ≡ object whole)

-- A line is an object, in which the path leads to an address of which a database has a record. What is added is the text of a
-- member, whose value is an object of the fields, each of the first record that has it, or of the records. The longer line is
-- the object with that member after its own, where the value nests less deep than a reader goes.
pub record GainsMember (dbs : List Database) (kind : MemberKind) (reading : Reading) (path : List PathStep) (name : List ℕ) (fields : List NamedField)
    (line extra longer : List ℕ) : Type 0 where
  pub members : Members
  pub was : document line ≡ Some (object members)
  pub fresh : has_member name members ≡ false
  pub address : IpAddr
  pub leads : LeadsToAddress reading path members address
  pub offsets : List (Option ℕ)
  pub have : HaveAll dbs address offsets
  pub there : has_record offsets ≡ true
  pub value : Json
  pub shows : IsShownAfter dbs kind address (reads_of_kind kind (first_read dbs offsets) (each_read dbs offsets)) fields value
  pub added : extra ≡ comma_behind (is_empty members) ++ print (key name ∷ json_tokens value)
  pub becomes : depth value < max_depth → document longer ≡ Some (object (and_last members name value))

-- Where a member is added to a text, the text gains it.
abbrev pub LongerTextIsJson : Type 0
LongerTextIsJson =
    (dbs : List Database) (kind : MemberKind) (long : Bool) (reading : Reading) (path : List PathStep) (nulls : Bool) (name : List ℕ) (fields : List NamedField) (text : List ℕ)
    (goes_on : Bool) (extra : List ℕ) (behind : ℕ) → Adds (member_of kind long reading path nulls name fields) dbs text goes_on extra behind Found
    → GainsMember dbs kind reading path name fields text extra (put_in text extra behind)

-- The same of a row with its end, as a filter writes it.
abbrev pub LongerRowIsJson : Type 0
LongerRowIsJson =
    (dbs : List Database) (kind : MemberKind) (long : Bool) (reading : Reading) (path : List PathStep) (nulls : Bool) (name : List ℕ) (fields : List NamedField)
    (most : ℕ) (row extra : List ℕ) (behind : ℕ) → Adds (member_of kind long reading path nulls name fields) dbs (seen_of most row) (is_long most row) extra behind Found
    → GainsMember dbs kind reading path name fields row extra (row_with row extra behind)
