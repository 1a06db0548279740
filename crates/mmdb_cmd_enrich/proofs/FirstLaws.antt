-- What the first database's record alone gives.
use Rattle.std.proofs.Common.{◌≡◌, ◌<◌, ℕ, List, [], ◌∷◌, map, length, Option, Some, None, IfSome, Bool, true, false, ◌&&◌, is_some, if◌then◌else◌, slice_index_or, refl, sym, ap, subst, ◌∙◌, inl, inr, arith}
use Rattle.std.specs.declared.convert.AsSlice.{Ghosts}
use Rattle.std.specs.declared.net.ip_addr.IpAddr.{IpAddr}
use Rattle.json.specs.Token.{Token}
use Rattle.mmdb_format.specs.Unfolding.{Tree}
use Rattle.mmdb_net.specs.declared.network.IpNetwork.{IpNetwork}
use Rattle.mmdb_filter.specs.declared.rows.Rows.{Rows}
use Rattle.mmdb_filter.specs.declared.counts.Outcome.{Outcome}
use Rattle.mmdb_filter.specs.declared.counts.Outcome.TheVariants.{Found, Failed}
use Rattle.mmdb_layout.specs.Reading.{reads_in, reads_of, or_next}
use Rattle.mmdb_reader.specs.File.{Database, data_section}
use Rattle.mmdb_reader.specs.declared.lookup_result.LookupResult.{LookupResult}
use Rattle.mmdb_reader.specs.declared.path.PathElement.{PathElement}
use Rattle.mmdb_cmd_enrich.specs.Added.{AddsAt}
use Rattle.mmdb_cmd_enrich.specs.Cells.{AreCells, IsCell, are_read}
use Rattle.mmdb_cmd_enrich.specs.Fields.{AreValue, AreFields, AreValues, MemberAfter, front_tokens}
use Rattle.mmdb_cmd_enrich.specs.Layers.{AreKeysFor, IsFirstKey, IsKeyFor, first_read, has_record, read_in_first, value_only}
use Rattle.mmdb_cmd_enrich.specs.Kept.{AreKept}
use Rattle.mmdb_cmd_enrich.specs.Records.{each_read}
use Rattle.mmdb_cmd_enrich.specs.Remembers.{Remembers}
use Rattle.mmdb_cmd_enrich.specs.Same.{answer_same}
use Rattle.mmdb_cmd_enrich.specs.Template.{Template, IsNoneText, IsTextOf, cells, is_kept, member}
use Rattle.mmdb_cmd_enrich.specs.Working.{AreAnswersOf, offset_in}
use Rattle.mmdb_cmd_enrich.specs.declared.members.MemberKind.TheVariants.{Fields, NetworkAndFields, Records}
use Rattle.mmdb_cmd_enrich.specs.declared.members.NamedField.{NamedField}
use Rattle.mmdb_cmd_enrich.specs.declared.memory.KeptTexts.{KeptTexts}
use Rattle.mmdb_cmd_enrich.proofs.AddedLaws.{text_any}

-- What is read one way along a path is read there the other way too.
abbrev pub Agree : (List PathElement → Option (Option Tree)) → (List PathElement → Option (Option Tree)) → Type 0
Agree one other = (path : List PathElement) (t : Option Tree) → one path ≡ Some t → other path ≡ Some t

-- a reading that gave an answer
read_same : (a b : Option (Option Tree)) → ((t : Option Tree) → a ≡ Some t → b ≡ Some t) → is_some a ≡ true → a ≡ b
read_same None b goes is = absurd (cc)
read_same (Some t) b goes is = sym (goes t refl)

first_of : (a b : Bool) → a && b ≡ true → a ≡ true
first_of true b is = refl
first_of false b is = is

second_of : (a b : Bool) → a && b ≡ true → b ≡ true
second_of true b is = is
second_of false b is = absurd (cc)

both_of : (a b : Bool) → a ≡ true → b ≡ true → a && b ≡ true
both_of true b is other = other
both_of false b is other = is

cells_same : (rows : Rows) (one other : List PathElement → Option (Option Tree)) (paths : List (List PathElement)) (text : List ℕ)
    → Agree one other → are_read one paths ≡ true → AreCells rows one paths text → AreCells rows other paths text × (are_read other paths ≡ true)
cells_same rows one other [] text goes read are = (are, refl)
cells_same rows one other (path ∷ paths) text goes read (cell, rest, is, shows, more) =
    let here = first_of (is_some (one path)) (are_read one paths) read in
    let same : one path ≡ other path = read_same (one path) (other path) (goes path) here in
    let (others, all) = cells_same rows one other paths rest goes (second_of (is_some (one path)) (are_read one paths) read) more in
    ((cell, rest, is, subst (λ r. IsCell rows r cell) same shows, others), both_of (is_some (other path)) (are_read other paths) (subst (λ r. is_some r ≡ true) same here) all)

value_same : (a b : Option (Option Tree)) (tokens : List Token) → ((t : Option Tree) → a ≡ Some t → b ≡ Some t) → AreValue a tokens → AreValue b tokens
value_same None b tokens goes is = absurd is
value_same (Some t) b tokens goes is = subst (λ r. AreValue r tokens) (sym (goes t refl)) is

fields_same : (one other : List PathElement → Option (Option Tree)) (fields : List NamedField) (tokens : List Token)
    → Agree one other → AreFields one fields tokens → AreFields other fields tokens
fields_same one other [] tokens goes are = are
fields_same one other (field ∷ fields) tokens goes (value, rest, is, here, more) =
    (value, rest, is, value_same (one field.path.items) (other field.path.items) value (goes field.path.items) here, fields_same one other fields rest goes more)

values_same : (front : List Token) (one other : List PathElement → Option (Option Tree)) (fields : List NamedField) (value : List Token)
    → Agree one other → AreValues front one fields value → AreValues front other fields value
values_same front one other [] value goes is = value_same (one []) (other []) value (goes []) is
values_same front one other (field ∷ fields) value goes (tokens, are, is) = (tokens, fields_same one other (field ∷ fields) tokens goes are, is)

member_read : (front : List Token) (one other : List PathElement → Option (Option Tree)) (name : List ℕ) (fields : List NamedField) (text : List ℕ)
    → Agree one other → MemberAfter front one name fields text Found → MemberAfter front other name fields text Found
member_read front one other name fields text goes (inl ((value, are, shown, read), is)) = inl ((value, values_same front one other fields value goes are, shown, read), is)
member_read front one other name fields text goes (inr (none, empty, fails)) = absurd (cc)

found_read : (b : Bool) → Found ≡ (if b then Found else Failed) → b ≡ true
found_read true is = refl
found_read false is = absurd (cc)

-- a text of which each value was read
text_same : (template : Template) (one other each all : List PathElement → Option (Option Tree)) (shown : Option IpNetwork) (text : List ℕ)
    → Agree one other → Agree each all → IsTextOf template one each shown text Found → IsTextOf template other all shown text Found
text_same (cells rows reading column breaks network paths) one other each all shown text goes too (are, fares) =
    let (others, read) = cells_same rows one other paths text goes (found_read (are_read one paths) fares) are in
    (others, ap (λ b. if b then Found else Failed) (sym read))
text_same (member Fields long reading path nulls name fields) one other each all shown text goes too made = member_read [] one other name fields text goes made
text_same (member NetworkAndFields long reading path nulls name fields) one other each all shown text goes too made = member_read (front_tokens NetworkAndFields shown) one other name fields text goes made
text_same (member Records long reading path nulls name fields) one other each all shown text goes too made = member_read [] each all name fields text too made

-- a value of the first record is that of all records
or_value : (r next : Option (Option Tree)) (t : Option Tree) → value_only r ≡ Some t → or_next r next ≡ Some t
or_value None next t is = absurd (cc)
or_value (Some None) next t is = absurd (cc)
or_value (Some (Some v)) next t is = is

first_agrees : (dbs : List Database) (offsets : List (Option ℕ)) → Agree (read_in_first dbs offsets) (first_read dbs offsets)
first_agrees [] offsets path t is = absurd (cc)
first_agrees (db ∷ dbs) [] path t is = absurd (cc)
first_agrees (db ∷ dbs) (offset ∷ offsets) path t is = or_value (reads_in (data_section db) offset path) (first_read dbs offsets path) t is

-- records that begin with the same one
begin_same : (dbs : List Database) (offsets others : List (Option ℕ)) (key : ℕ) (path : List PathElement) → IsFirstKey offsets key → IsFirstKey others key → read_in_first dbs offsets path ≡ read_in_first dbs others path
begin_same [] offsets others key path a b = refl
begin_same (db ∷ dbs) [] others key path a b = absurd a
begin_same (db ∷ dbs) (o ∷ os) [] key path a b = absurd b
begin_same (db ∷ dbs) (o ∷ os) (p ∷ ps) key path a b = ap (λ q. value_only (reads_in (data_section db) q path)) (a ∙ sym b)

first_there : (offsets : List (Option ℕ)) (key : ℕ) → IsFirstKey offsets key → has_record offsets ≡ true
first_there [] key is = absurd is
first_there (offset ∷ offsets) key is = ap (λ o. has_record (o ∷ offsets)) is

-- The text of the first record alone, of which each value was read, is that of all records that begin with that one.
pub first_added : (template : Template) (dbs : List Database) (offsets others : List (Option ℕ)) (key : ℕ) (one each : List PathElement → Option (Option Tree)) (text : List ℕ) (shown : Option IpNetwork)
    → is_kept template ≡ true → IsFirstKey offsets key → IsFirstKey others key → ((path : List PathElement) → one path ≡ read_in_first dbs offsets path) → ((path : List PathElement) → each path ≡ None)
    → IsTextOf template one each None text Found → AddsAt template dbs shown others text Found
first_added template dbs offsets others key one each text shown kept a b is none made =
    let goes : Agree one (first_read dbs others) = λ path t read. first_agrees dbs others path t (sym (begin_same dbs offsets others key path a b) ∙ (sym (is path) ∙ read)) in
    let never : Agree each (each_read dbs others) = λ path t read. let not : ◌≡◌ {A = Option (Option Tree)} None (Some t) = sym (none path) ∙ read in absurd (cc) in
    inr (first_there others key b, text_any template dbs None shown others text Found kept (text_same template one (first_read dbs others) each (each_read dbs others) None text goes never made))

-- the first answer
pub first_reads : {S : Type 0} {G : Ghosts S ℕ} (dbs : List Database) (answers : List (Option (LookupResult S G))) (answer : Option (LookupResult S G)) (path : List PathElement)
    → 0 < length answers → answer ≡ slice_index_or answers 0 answer → AreAnswersOf dbs answers → value_only (reads_of answer path) ≡ read_in_first dbs (map offset_in answers) path
first_reads dbs [] answer path some is are = absurd (omega (arith, some))
first_reads [] (a ∷ more) answer path some is are = absurd are
first_reads (db ∷ dbs) (a ∷ more) answer path some is are = ap value_only (ap (λ x. reads_of x path) is ∙ answer_same db a path are.0)

pub first_number : {S : Type 0} {G : Ghosts S ℕ} (answers : List (Option (LookupResult S G))) (answer : Option (LookupResult S G)) (key : Option ℕ)
    → 0 < length answers → answer ≡ slice_index_or answers 0 answer → key ≡ offset_in answer → IfSome key (IsFirstKey (map offset_in answers))
first_number [] answer key some is at = absurd (omega (arith, some))
first_number (a ∷ more) answer None some is at = tt
first_number (a ∷ more) answer (Some n) some is at = sym (at ∙ ap offset_in is)

-- the numbers of one database
pub one_keys : (dbs : List Database) (address : IpAddr) (key : Option ℕ) → IfSome key (IsKeyFor dbs address) → AreKeysFor dbs address (record { all = key; first = None })
one_keys dbs address None is = inl (refl, refl)
one_keys dbs address (Some key) (can, offsets, have, is) = inr (can, offsets, have, (is, tt))

-- what is read the same
pub text_read : (template : Template) (one other each all : List PathElement → Option (Option Tree)) (shown : Option IpNetwork) (text : List ℕ) (outcome : Outcome)
    → one ≡ other → each ≡ all → IsTextOf template one each shown text outcome → IsTextOf template other all shown text outcome
text_read template one other each all shown text outcome a b made =
    subst (λ r. IsTextOf template r all shown text outcome) a (subst (λ e. IsTextOf template one e shown text outcome) b made)

-- what is remembered with the same texts
pub still_remembers : (template : Template) (dbs : List Database) (old new : KeptTexts) → new.cache ≡ old.cache → new.none ≡ old.none → Remembers template dbs old → Remembers template dbs new
still_remembers template dbs old new cache none fits = record {
  kept = subst (AreKept (record { template = template; databases = dbs })) (sym cache) fits.kept;
  none = subst (λ t. IsNoneText template t.items) (sym none) fits.none;
}
