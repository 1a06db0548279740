-- What contracts of private functions and proofs name.
use Rattle.std.specs.Prelude.{◌≡◌, ◌<◌, ◌+◌, ◌*◌, ℕ, List, [], ◌∷◌, ◌++◌, map, Option, Some, None, ◌==◌, Bool, true, false, is_some, ⊤, not}
use Rattle.std.specs.Bool.{MatchBool}
use Rattle.std.specs.declared.convert.AsSlice.{Ghosts}
use Rattle.mmdb_format.specs.Unfolding.{Tree}
use Rattle.mmdb_reader.specs.declared.path.PathElement.{PathElement}
use Rattle.mmdb_filter.specs.declared.rows.Rows.{Rows}
use Rattle.mmdb_json.specs.Texts.{IsCompact}
use Rattle.mmdb_cmd_enrich.specs.Columns.{delimiter_of, IsPadding}
use Rattle.mmdb_net.specs.declared.network.IpNetwork.{IpNetwork}
use Rattle.mmdb_reader.specs.Found.{database_asked, leaf_of, offset_found, shown_as_ipv4}
use Rattle.mmdb_reader.specs.Lookup.{CanAsk, Answers, outcome_at}
use Rattle.mmdb_reader.specs.Shown.{IsShownBy, is_shown_as_ipv4}
use Rattle.mmdb_reader.specs.declared.lookup_result.LookupResult.{LookupResult}
use Rattle.mmdb_cmd_enrich.specs.Cells.{ShowsCell, IsCell, AreCells, are_read, escaped}
use Rattle.mmdb_cmd_enrich.specs.Layers.{HaveAll, has_record, digit_of, radix_of}
use Rattle.mmdb_cmd_enrich.specs.Networks.{HaveNetworks, smallest, shown_of, IsFront}
use Rattle.std.specs.declared.net.ip_addr.IpAddr.{IpAddr}
use Rattle.json.specs.Token.{Token, key}
use Rattle.mmdb_reader.specs.File.{Database}
use Rattle.mmdb_cmd_enrich.specs.declared.members.NamedField.{NamedField}
use Rattle.mmdb_cmd_enrich.specs.Fields.{AreValue, AreFields, AreValues, object_tokens}
use Rattle.mmdb_layout.specs.Asked.{Asks}
use Rattle.mmdb_filter.specs.declared.counts.Outcome.TheVariants.{Occupied}
use Rattle.mmdb_objects.specs.declared.objects.Line.{Line}
use Rattle.mmdb_cmd_enrich.specs.declared.place.ReadRow.{ReadRow}
use Rattle.mmdb_cmd_enrich.specs.declared.place.ReadRow.TheVariants.{Passed, Place}

-- bytes grow by the cell that shows a value
abbrev pub PutsShown : Rows → Tree → List ℕ → List ℕ → Type 0
PutsShown rows v old new = (cell : List ℕ) × ShowsCell rows v cell × (new ≡ old ++ cell)

-- bytes grow by JSON that shows a value
abbrev pub PutsCompact : Tree → List ℕ → List ℕ → Type 0
PutsCompact v old new = (text : List ℕ) × IsCompact v text × (new ≡ old ++ text)

-- bytes grow by the cell of an answer, and it is said whether there is one
abbrev pub PutsCell : Rows → Option (Option Tree) → Bool → List ℕ → List ℕ → Type 0
PutsCell rows answer is_read old new =
    (cell : List ℕ) × IsCell rows answer cell × (new ≡ old ++ cell) × (is_read ≡ is_some answer)

-- bytes grow by JSON that shows a value, with escapes in the place of delimiters other than tabs, of which it has none
abbrev pub PutsJson : ℕ → Tree → List ℕ → List ℕ → Type 0
PutsJson delimiter v old new =
    (text : List ℕ) × IsCompact v text × MatchBool (delimiter == 9) (new ≡ old ++ text) (new ≡ old ++ escaped delimiter text)

-- bytes grow by the delimiters that a row lacks where the first row has so many
abbrev pub PutsPadding : Rows → Option ℕ → List ℕ → Bool → List ℕ → List ℕ → Type 0
PutsPadding rows breaks text goes_on old new = (padding : List ℕ) × IsPadding rows breaks text goes_on padding × (new ≡ old ++ padding)

-- bytes grow by a delimiter and the cell of an answer, and it is said whether there is one
abbrev pub PutsNextCell : Rows → Option (Option Tree) → Bool → List ℕ → List ℕ → Type 0
PutsNextCell rows answer is_read old new =
    (cell : List ℕ) × IsCell rows answer cell
    × (new ≡ old ++ (delimiter_of rows ∷ cell)) × (is_read ≡ is_some answer)

-- bytes grow by a delimiter and a cell for each path
abbrev pub PutsCells : Rows → (List PathElement → Option (Option Tree)) → List (List PathElement) → Bool → List ℕ → List ℕ → Type 0
PutsCells rows reads paths is_read old new =
    (cells : List ℕ) × AreCells rows reads paths cells
    × (new ≡ old ++ cells) × (is_read ≡ are_read reads paths)

-- tokens grow by those of what was read
abbrev pub PutsValue : Option (Option Tree) → List Token → List Token → Type 0
PutsValue answer old new = (value : List Token) × AreValue answer value × (new ≡ old ++ value)

-- tokens grow by fields, along whose paths this is read
abbrev pub PutsFields : (List PathElement → Option (Option Tree)) → List NamedField → List Token → List Token → Type 0
PutsFields reads fields old new =
    (tokens : List Token) × AreFields reads fields tokens × (new ≡ old ++ tokens)

-- tokens grow by a member with these fields after others
abbrev pub PutsFieldsAfter : List Token → (List PathElement → Option (Option Tree)) → List ℕ → List NamedField → List Token → List Token → Type 0
PutsFieldsAfter front reads name fields old new =
    (tokens : List Token) × AreFields reads fields tokens × (new ≡ old ++ (key name ∷ object_tokens (front ++ tokens)))

-- tokens grow by a member with all that is read
abbrev pub PutsWhole : (List PathElement → Option (Option Tree)) → List ℕ → List Token → List Token → Type 0
PutsWhole reads name old new = (value : List Token) × AreValue (reads []) value × (new ≡ old ++ (key name ∷ value))

-- tokens grow by a member with fields after others, or, without a field, with all that is read
abbrev pub PutsValuesAfter : List Token → (List PathElement → Option (Option Tree)) → List ℕ → List NamedField → List Token → List Token → Type 0
PutsValuesAfter front reads name fields old new = (value : List Token) × AreValues front reads fields value × (new ≡ old ++ (key name ∷ value))

-- where the record of an answer is, if there is one
abbrev pub offset_in : {S : Type 0} {G : Ghosts S ℕ} → Option (LookupResult S G) → Option ℕ
offset_in None = None
offset_in (Some found) = offset_found found

-- an answer, if there is one, is one of this database
abbrev pub IsAnswerOf : {S : Type 0} {G : Ghosts S ℕ} → Database → Option (LookupResult S G) → Type 0
IsAnswerOf db None = ⊤
IsAnswerOf db (Some found) = database_asked found ≡ db

-- what a database has for an address
abbrev pub IsAnswer : {S : Type 0} {G : Ghosts S ℕ} → Database → IpAddr → Option (LookupResult S G) → Type 0
IsAnswer db address None = (asked : IpAddr) × Asks db address asked × (¬ CanAsk db asked)
IsAnswer db address (Some found) =
    (asked : IpAddr) × Asks db address asked × (database_asked found ≡ db)
    × Answers db asked (leaf_of found) (outcome_at (offset_found found)) × (shown_as_ipv4 found ≡ is_shown_as_ipv4 db asked)

-- the network of an answer, if there is one
abbrev pub IsNetworkOf : {S : Type 0} {G : Ghosts S ℕ} → Option (LookupResult S G) → Option IpNetwork → Type 0
IsNetworkOf None None = ⊤
IsNetworkOf None (Some network) = ⊥
IsNetworkOf (Some found) None = ⊥
IsNetworkOf (Some found) (Some network) = IsShownBy (database_asked found) (leaf_of found) (shown_as_ipv4 found) network

-- the same of each answer
abbrev pub AreNetworks : {S : Type 0} {G : Ghosts S ℕ} → List (Option (LookupResult S G)) → List (Option IpNetwork) → Type 0
AreNetworks [] [] = ⊤
AreNetworks [] (network ∷ networks) = ⊥
AreNetworks (answer ∷ answers) [] = ⊥
AreNetworks (answer ∷ answers) (network ∷ networks) = IsNetworkOf answer network × AreNetworks answers networks

-- the smallest of the networks of answers
abbrev pub IsSmallest : {S : Type 0} {G : Ghosts S ℕ} → List (Option (LookupResult S G)) → Option IpNetwork → Type 0
IsSmallest answers network = (networks : List (Option IpNetwork)) × AreNetworks answers networks × (network ≡ smallest networks)

-- the network that is shown of answers
abbrev pub IsShownOf : {S : Type 0} {G : Ghosts S ℕ} → List (Option (LookupResult S G)) → Option IpNetwork → Type 0
IsShownOf answers network =
    (networks : List (Option IpNetwork)) × AreNetworks answers networks × (network ≡ shown_of (has_record (map offset_in answers)) networks)

-- the networks of answers are those in which these databases have an address
abbrev pub ShowNetworks : {S : Type 0} {G : Ghosts S ℕ} → List Database → IpAddr → List (Option (LookupResult S G)) → Type 0
ShowNetworks dbs address answers = (networks : List (Option IpNetwork)) → AreNetworks answers networks → HaveNetworks dbs address networks

-- bytes grow by a delimiter and the cell of a network
abbrev pub PutsFront : Rows → Option IpNetwork → List ℕ → List ℕ → Type 0
PutsFront rows network old new = (front : List ℕ) × IsFront rows network front × (new ≡ old ++ front)

-- answers of these databases
abbrev pub AreAnswersOf : {S : Type 0} {G : Ghosts S ℕ} → List Database → List (Option (LookupResult S G)) → Type 0
AreAnswersOf [] [] = ⊤
AreAnswersOf [] (answer ∷ answers) = ⊥
AreAnswersOf (db ∷ dbs) [] = ⊥
AreAnswersOf (db ∷ dbs) (answer ∷ answers) = IsAnswerOf db answer × AreAnswersOf dbs answers

-- what these databases have for an address
abbrev pub AreAnswers : {S : Type 0} {G : Ghosts S ℕ} → List Database → IpAddr → List (Option (LookupResult S G)) → Type 0
AreAnswers dbs address answers = AreAnswersOf dbs answers × HaveAll dbs address (map offset_in answers) × ShowNetworks dbs address answers

-- one digit more: where this database has a record
abbrev pub IsKeyAfter : Option ℕ → Database → Option ℕ → ℕ → Type 0
IsKeyAfter before db offset longer =
    (number : ℕ) × (before ≡ Some number) × (digit_of offset < radix_of db) × (longer ≡ number * radix_of db + digit_of offset)

-- where an object gets its member, unless it has one of the name
abbrev pub IsPlaceIn : Line → ReadRow → Type 0
IsPlaceIn line (Passed outcome) = (line.is_taken ≡ true) × (outcome ≡ Occupied)
IsPlaceIn line (Place place) = (line.is_taken ≡ false) × (place.behind ≡ line.behind) × (place.has_comma ≡ not line.is_empty)
