-- What is added to rows: cells after each, or a member of each object; and where in a row its address is.
use Rattle.std.specs.Prelude.{◌≡◌, ◌⊎◌, ◌++◌, ℕ, List, [], ◌∷◌, Option, None, Bool, true, false, not, if◌then◌else◌}
use Rattle.std.specs.declared.net.ip_addr.IpAddr.{IpAddr}
use Rattle.json.specs.Json.{Members, object}
use Rattle.mmdb_net.specs.declared.network.IpNetwork.{IpNetwork}
use Rattle.mmdb_addresses.specs.Addresses.{ReadsAddress}
use Rattle.mmdb_addresses.specs.declared.readings.Reading.{Reading}
use Rattle.mmdb_format.specs.Unfolding.{Tree}
use Rattle.mmdb_reader.specs.File.{Database}
use Rattle.mmdb_reader.specs.declared.path.PathElement.{PathElement}
use Rattle.mmdb_filter.specs.Lines.{most_seen}
use Rattle.mmdb_filter.specs.declared.rows.Rows.{Rows}
use Rattle.mmdb_filter.specs.declared.counts.Outcome.{Outcome}
use Rattle.mmdb_filter.specs.declared.counts.Outcome.TheVariants.{Found, Failed, Malformed, TooLong, Occupied}
use Rattle.mmdb_objects.specs.Objects.{IsObject, text_along, has_member, is_empty}
use Rattle.mmdb_objects.specs.declared.step.PathStep.{PathStep}
use Rattle.mmdb_cmd_enrich.specs.Asked.{ReadsRow}
use Rattle.mmdb_cmd_enrich.specs.Cells.{AreCells, blanks, are_read}
use Rattle.mmdb_cmd_enrich.specs.Columns.{IsPadding}
use Rattle.mmdb_cmd_enrich.specs.Fields.{MemberAfter, IsNullMemberAfter, front_tokens, nulls_of, reads_of_kind}
use Rattle.mmdb_cmd_enrich.specs.Layers.{first_read}
use Rattle.mmdb_cmd_enrich.specs.Networks.{IsFront, all_blanks}
use Rattle.mmdb_cmd_enrich.specs.Objects.{IsTooLong, object_most}
use Rattle.mmdb_cmd_enrich.specs.Records.{each_read}
use Rattle.mmdb_cmd_enrich.specs.declared.members.MemberKind.{MemberKind}
use Rattle.mmdb_cmd_enrich.specs.declared.members.MemberKind.TheVariants.{Fields, NetworkAndFields, Records}
use Rattle.mmdb_cmd_enrich.specs.declared.members.NamedField.{NamedField}
use Rattle.mmdb_cmd_enrich.specs.declared.place.RowPlace.{RowPlace}
use Rattle.mmdb_cmd_enrich.specs.declared.place.ReadRow.{ReadRow}
use Rattle.mmdb_cmd_enrich.specs.declared.place.ReadRow.TheVariants.{Passed, Place}

-- Cells: what rows are, where in a cell the address is, and in which column; how many delimiters the first row has, where it names
-- the columns; whether the network of the address comes first; and the paths of the fields. A member: what it has, whether long
-- objects are read, where in a string the address is, and at which path; whether objects without a record get it too; its name,
-- and the fields.
pub data Template : Type 0 where
  cells : Rows → Reading → ℕ → Option ℕ → Bool → List (List PathElement) → Template
  member : MemberKind → Bool → Reading → List PathStep → Bool → List ℕ → List NamedField → Template

-- a comma before a text, where that is wanted; none before an empty one
abbrev pub comma_at : Bool → List ℕ → List ℕ
comma_at comma [] = []
comma_at false (x ∷ xs) = []
comma_at true (x ∷ xs) = 44 ∷ []

abbrev pub text_at : Bool → List ℕ → List ℕ
text_at comma text = comma_at comma text ++ text

-- how many bytes of a row are seen at most
abbrev pub most_of : Template → ℕ
most_of (cells rows reading column breaks network paths) = most_seen
most_of (member kind long reading path nulls name fields) = object_most long

abbrev pub is_empty_row : List ℕ → Bool
is_empty_row [] = true
is_empty_row (x ∷ xs) = false

-- Where something is added to a row, of which such a text is seen, that may go on, and the address in it: after the row; or in an
-- object before its last brace, after a comma where it has members. A line that is too long or no object stays as it is, and so does
-- an object that has a member of the name.
abbrev pub ReadsBy : Template → List ℕ → Bool → ReadRow → Option IpAddr → Type 0
ReadsBy (cells rows reading column breaks network paths) text goes_on (Passed outcome) address = ⊥
ReadsBy (cells rows reading column breaks network paths) text goes_on (Place place) address =
    ReadsRow rows reading column text goes_on address × (place.behind ≡ 0) × (place.has_comma ≡ false) × (place.is_empty ≡ is_empty_row text)
ReadsBy (member kind long reading path nulls name fields) text goes_on (Passed outcome) address =
    ((outcome ≡ Malformed) × ((members : Members) (at : ℕ) → ¬ IsObject text goes_on members at))
    ⊎ (((outcome ≡ TooLong) × IsTooLong text goes_on)
    ⊎ ((outcome ≡ Occupied) × (members : Members) × (at : ℕ) × IsObject text goes_on members at × (has_member name members ≡ true)))
ReadsBy (member kind long reading path nulls name fields) text goes_on (Place place) address =
    (members : Members) × IsObject text goes_on members place.behind × (has_member name members ≡ false)
    × ReadsAddress reading (text_along path (object members)) address × (place.has_comma ≡ not (is_empty members))

-- A row is read as far as where something is added: there this holds.
abbrev pub IsReadTo : (RowPlace → Type 0) → Template → List ℕ → Bool → ReadRow → Type 0
IsReadTo reads template text goes_on (Passed outcome) = ReadsBy template text goes_on (Passed outcome) None
IsReadTo reads template text goes_on (Place place) = reads place

-- with its address
abbrev pub ReadsPlace : Template → List ℕ → Bool → RowPlace → Option IpAddr → Type 0
ReadsPlace template text goes_on place address = ReadsBy template text goes_on (Place place) address

-- what comes before all that is added: the delimiters that a row lacks
abbrev pub IsLead : Template → List ℕ → Bool → List ℕ → Type 0
IsLead (cells rows reading column breaks network paths) text goes_on lead = IsPadding rows breaks text goes_on lead
IsLead (member kind long reading path nulls name fields) text goes_on lead = lead ≡ []

-- the network of an address is shown
abbrev pub shows_network : Template → Bool
shows_network (cells rows reading column breaks network paths) = network
shows_network (member Fields long reading path nulls name fields) = false
shows_network (member NetworkAndFields long reading path nulls name fields) = true
shows_network (member Records long reading path nulls name fields) = false

-- The text of records may be kept: it is the same in whichever network the address is.
abbrev pub is_kept : Template → Bool
is_kept (cells rows reading column breaks network paths) = true
is_kept (member Fields long reading path nulls name fields) = true
is_kept (member NetworkAndFields long reading path nulls name fields) = false
is_kept (member Records long reading path nulls name fields) = true

-- what comes before the text of records: the network of the address, where it is shown
abbrev pub IsFrontText : Template → Option IpNetwork → List ℕ → Type 0
IsFrontText (cells rows reading column breaks false paths) shown front = front ≡ []
IsFrontText (cells rows reading column breaks true paths) shown front = IsFront rows shown front
IsFrontText (member kind long reading path nulls name fields) shown front = front ≡ []

-- the text of what is read along paths, in the first record that has a value there or in each record, and how the row fares
abbrev pub IsTextOf : Template → (List PathElement → Option (Option Tree)) → (List PathElement → Option (Option Tree)) → Option IpNetwork → List ℕ → Outcome → Type 0
IsTextOf (cells rows reading column breaks network paths) reads each shown text outcome =
    AreCells rows reads paths text × (outcome ≡ (if are_read reads paths then Found else Failed))
IsTextOf (member kind long reading path nulls name fields) reads each shown text outcome =
    MemberAfter (front_tokens kind shown) (reads_of_kind kind reads each) name fields text outcome

-- the same of the records at these offsets
abbrev pub IsText : Template → List Database → Option IpNetwork → List (Option ℕ) → List ℕ → Outcome → Type 0
IsText template dbs shown offsets text outcome = IsTextOf template (first_read dbs offsets) (each_read dbs offsets) shown text outcome

-- the text where there is no record: empty cells; or, where that is wanted, a member of which everything is null
abbrev pub IsNoneText : Template → List ℕ → Type 0
IsNoneText (cells rows reading column breaks network paths) text = text ≡ blanks rows paths
IsNoneText (member kind long reading path false name fields) text = text ≡ []
IsNoneText (member kind long reading path true name fields) text = IsNullMemberAfter (front_tokens kind None) name (nulls_of kind fields) text

-- what is added for an address that is rejected: empty cells, one for the network too; nothing to an object
abbrev pub IsRejectedText : Template → List ℕ → Type 0
IsRejectedText (cells rows reading column breaks network paths) extra = extra ≡ all_blanks network rows paths
IsRejectedText (member kind long reading path nulls name fields) extra = extra ≡ []

-- what is added to a row without an address: the same, but nothing to an empty row; to an object the text where there is no record
abbrev pub IsUnreadText : Template → RowPlace → List ℕ → Type 0
IsUnreadText (cells rows reading column breaks network paths) place extra = extra ≡ (if place.is_empty then [] else all_blanks network rows paths)
IsUnreadText (member kind long reading path nulls name fields) place extra =
    (text : List ℕ) × IsNoneText (member kind long reading path nulls name fields) text × (extra ≡ text_at place.has_comma text)
