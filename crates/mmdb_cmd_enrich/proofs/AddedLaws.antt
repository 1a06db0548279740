-- What is added for records, and for an address.
use Rattle.std.proofs.Common.{◌≡◌, ◌⊎◌, ℕ, List, [], ◌++◌, Option, Some, None, IfSome, Bool, true, false, not, ap, sym, subst, refl, ◌∙◌, inl, inr, arith, append_assoc}
use Rattle.std.specs.Bool.{⊤, MatchBool}
use Rattle.std.specs.declared.net.ip_addr.IpAddr.{IpAddr}
use Rattle.mmdb_net.specs.declared.network.IpNetwork.{IpNetwork}
use Rattle.mmdb_addresses.specs.declared.readings.Reading.{Reading}
use Rattle.mmdb_objects.specs.Objects.{IsObject, ReadsLine}
use Rattle.mmdb_objects.specs.declared.objects.Line.{Line}
use Rattle.mmdb_objects.specs.declared.objects.ReadLine.TheVariants.{Object}
use Rattle.mmdb_objects.specs.declared.step.PathStep.{PathStep}
use Rattle.mmdb_reader.specs.File.{Database}
use Rattle.mmdb_filter.specs.declared.counts.Outcome.{Outcome}
use Rattle.mmdb_filter.specs.declared.counts.Outcome.TheVariants.{Absent, Unreadable, Failed}
use Rattle.mmdb_filter.specs.Lines.{StandsBehind}
use Rattle.mmdb_cmd_enrich.specs.Added.{Adds, AddsAt, PutsAt, PutsFor, PutsForAddress, PutsFound, PutsFrontText, PutsLead, PutsRecords, PutsRejected, PutsUnread}
use Rattle.mmdb_cmd_enrich.specs.Layers.{CanAskAny, CanAskNone, AnyRejects, HaveAll, AreKeys, AreKeysFor, IsKey, has_record}
use Rattle.mmdb_cmd_enrich.specs.Networks.{IsShown}
use Rattle.mmdb_cmd_enrich.specs.Template.{Template, ReadsBy, IsFrontText, IsReadTo, IsText, IsNoneText, ReadsPlace, cells, is_kept, member, shows_network, text_at}
use Rattle.mmdb_cmd_enrich.specs.Wanted.{AddsOf, IsKeptByAll}
use Rattle.mmdb_cmd_enrich.specs.Working.{IsPlaceIn}
use Rattle.mmdb_cmd_enrich.specs.declared.cache.KeptBy.{KeptBy}
use Rattle.mmdb_cmd_enrich.specs.declared.cache.RecordKeys.{RecordKeys}
use Rattle.mmdb_cmd_enrich.specs.declared.members.MemberKind.{MemberKind}
use Rattle.mmdb_cmd_enrich.specs.declared.members.MemberKind.TheVariants.{Fields, NetworkAndFields, Records}
use Rattle.mmdb_cmd_enrich.specs.declared.members.NamedField.{NamedField}
use Rattle.mmdb_cmd_enrich.specs.declared.place.RowPlace.{RowPlace}
use Rattle.mmdb_cmd_enrich.specs.declared.place.ReadRow.{ReadRow}
use Rattle.mmdb_cmd_enrich.specs.declared.place.ReadRow.TheVariants.{Passed, Place}
use Rattle.mmdb_cmd_enrich.proofs.LayerLaws.{keys_same}
use Rattle.mmdb_cmd_enrich.proofs.ShownLaws.{yes_of, no_of}

-- what is added for records, in whichever network, is added for all of their key
pub added_of_keys : (template : Template) (dbs : List Database) (offsets : List (Option ℕ)) (key : Option ℕ) (by : KeptBy) (text : List ℕ) (outcome : Outcome)
    → IsKeptByAll key by → IfSome key (IsKey dbs offsets) → ((shown : Option IpNetwork) → AddsAt template dbs shown offsets text outcome) → AddsOf (record { template = template; databases = dbs }) by text outcome
added_of_keys template dbs offsets None by text outcome kept is adds =
    subst (λ b. AddsOf (record { template = template; databases = dbs }) b text outcome) (sym kept) (λ shown others none. absurd none)
added_of_keys template dbs offsets (Some key) by text outcome kept is adds =
    let P : List (Option ℕ) → Option IpNetwork → Type 0 = λ o shown. AddsAt template dbs shown o text outcome in
    subst (λ b. AddsOf (record { template = template; databases = dbs }) b text outcome) (sym kept)
    (λ shown others same. subst (λ o. P o shown) (keys_same dbs offsets others key is same) (adds shown))

-- what holds of a number if there is one
pub held : {A : Type 0} (o : Option A) (x : A) (P : A → Type 0) → o ≡ Some x → IfSome o P → P x
held None x P e h = absurd (cc)
held (Some y) x P e h = let same : y ≡ x = cc in subst P same h

-- what follows is of the text that is seen
pub stands_behind : (template : Template) (text : List ℕ) (goes_on : Bool) (place : RowPlace) (address : Option IpAddr) → ReadsBy template text goes_on (Place place) address → StandsBehind text goes_on place.behind
stands_behind (cells rows reading column breaks network paths) text goes_on place address (reads, none, comma, empty) = (omega (arith, none), λ long. none)
stands_behind (member kind long reading path nulls name fields) text goes_on place address (ms, is, fresh, reads, comma) =
    (is.ends.within, λ goes. let not_long : ◌≡◌ {A = Bool} true false = sym goes ∙ is.whole in absurd (cc))

-- the text of records that may be kept is the same in whichever network
pub text_any : (template : Template) (dbs : List Database) (one other : Option IpNetwork) (offsets : List (Option ℕ)) (text : List ℕ) (outcome : Outcome)
    → is_kept template ≡ true → IsText template dbs one offsets text outcome → IsText template dbs other offsets text outcome
text_any (cells rows reading column breaks network paths) dbs one other offsets text outcome kept is = is
text_any (member Fields long reading path nulls name fields) dbs one other offsets text outcome kept is = is
text_any (member NetworkAndFields long reading path nulls name fields) dbs one other offsets text outcome kept is = absurd (cc)
text_any (member Records long reading path nulls name fields) dbs one other offsets text outcome kept is = is

pub records_kept : (template : Template) (dbs : List Database) (shown : Option IpNetwork) (offsets : List (Option ℕ)) (text : List ℕ) (outcome : Outcome)
    → has_record offsets ≡ true → IsText template dbs shown offsets text outcome → is_kept template ≡ true → (other : Option IpNetwork) → AddsAt template dbs other offsets text outcome
records_kept template dbs shown offsets text outcome there is kept other = inr (there, text_any template dbs shown other offsets text outcome kept is)

-- the text where there is no record
pub absent_added : (template : Template) (dbs : List Database) (offsets : List (Option ℕ)) (text : List ℕ)
    → has_record offsets ≡ false → IsNoneText template text → (shown : Option IpNetwork) → AddsAt template dbs shown offsets text Absent
absent_added template dbs offsets text there is shown = inl (there, is, refl)

-- where no network is shown, nothing comes before the text
no_front : (template : Template) (shown : Option IpNetwork) → shows_network template ≡ false → IsFrontText template shown []
no_front (cells rows reading column breaks false paths) shown none = refl
no_front (cells rows reading column breaks true paths) shown none = absurd (cc)
no_front (member kind long reading path nulls name fields) shown none = refl

-- the text of what was found, where no network is shown
pub whole_alone : (template : Template) (dbs : List Database) (has_comma : Bool) (shows : Option IpNetwork → Type 0) (offsets : List (Option ℕ)) (fares : Outcome) (old new : List ℕ)
    → shows_network template ≡ false → PutsRecords template dbs has_comma None offsets fares old new → PutsFound template dbs has_comma shows offsets fares old new
whole_alone template dbs has_comma shows offsets fares old new none (text, outcome, adds, (same, put)) =
    (None, [], text, no_of (shows_network template) (shows None) ⊤ none tt, no_front template None none, subst (AddsAt template dbs None offsets text) (sym same) adds, put)

-- after the network
pub whole_after : (template : Template) (dbs : List Database) (has_comma : Bool) (shows : Option IpNetwork → Type 0) (shown : Option IpNetwork) (offsets : List (Option ℕ)) (fares : Outcome) (old middle new : List ℕ)
    → shows_network template ≡ true → shows shown → PutsFrontText template shown old middle → PutsRecords template dbs has_comma shown offsets fares middle new → PutsFound template dbs has_comma shows offsets fares old new
whole_after template dbs has_comma shows shown offsets fares old middle new wanted is (front, ahead, first) (text, outcome, adds, (same, put)) = (
  shown,
  front,
  text,
  yes_of (shows_network template) (shows shown) ⊤ wanted is,
  ahead,
  subst (AddsAt template dbs shown offsets text) (sym same) adds,
  put ∙ (ap (λ l. l ++ text_at has_comma text) first ∙ append_assoc old front (text_at has_comma text)),
)

match_weaker : (b : Bool) (A B : Type 0) → (A → B) → MatchBool b A ⊤ → MatchBool b B ⊤
match_weaker true A B f a = f a
match_weaker false A B f a = tt

-- what is added for an address
pub found_added : (template : Template) (dbs : List Database) (has_comma : Bool) (address : IpAddr) (shows : Option IpNetwork → Type 0) (offsets : List (Option ℕ)) (fares : Outcome) (old new : List ℕ)
    → CanAskAny dbs address → HaveAll dbs address offsets → ((shown : Option IpNetwork) → shows shown → IsShown dbs address (has_record offsets) shown)
    → PutsFound template dbs has_comma shows offsets fares old new → PutsForAddress template dbs has_comma address fares old new
found_added template dbs has_comma address shows offsets fares old new can have is (shown, front, text, wanted, ahead, adds, put) =
    let here = match_weaker (shows_network template) (shows shown) (IsShown dbs address (has_record offsets) shown) (is shown) wanted in
    (front ++ text_at has_comma text, inr (can, offsets, have, (shown, front, text, here, ahead, adds, refl)), put)

-- where something is kept by the numbers of records, there are such records
pub keys_met : {A : Type 0} (dbs : List Database) (address : IpAddr) (keys : RecordKeys) (kept : Option A) (it : A)
    → kept ≡ Some it → (keys.all ≡ None → keys.first ≡ None → kept ≡ None) → AreKeysFor dbs address keys → CanAskAny dbs address × (offsets : List (Option ℕ)) × HaveAll dbs address offsets × AreKeys dbs offsets keys
keys_met {A} dbs address keys kept it is none (inl (all, first)) = let not : ◌≡◌ {A = Option A} None (Some it) = sym (none all first) ∙ is in absurd (cc)
keys_met dbs address keys kept it is none (inr met) = met

-- the text that is kept of records of an address
pub kept_added : (template : Template) (dbs : List Database) (has_comma : Bool) (address : IpAddr) (offsets : List (Option ℕ)) (text : List ℕ) (outcome fares : Outcome) (old new : List ℕ)
    → shows_network template ≡ false → CanAskAny dbs address → HaveAll dbs address offsets → AddsAt template dbs None offsets text outcome → PutsAt has_comma text outcome fares old new → PutsForAddress template dbs has_comma address fares old new
kept_added template dbs has_comma address offsets text outcome fares old new none can have adds (same, put) =
    let here = no_of (shows_network template) (IsShown dbs address (has_record offsets) None) ⊤ none tt in
    let at = subst (AddsAt template dbs None offsets text) (sym same) adds in
    (text_at has_comma text, inr (can, offsets, have, (None, [], text, here, no_front template None none, at, refl)), put)

-- that of an address that is rejected
pub rejected_added : (template : Template) (dbs : List Database) (has_comma : Bool) (address : IpAddr) (fares : Outcome) (old new : List ℕ)
    → CanAskNone dbs address ⊎ AnyRejects dbs address → PutsRejected template old new → fares ≡ Failed → PutsForAddress template dbs has_comma address fares old new
rejected_added template dbs has_comma address fares old new why (extra, is, put) failed = (extra, inl (why, is, failed), put)

-- that of a row without an address
pub unread_added : (template : Template) (dbs : List Database) (place : RowPlace) (fares : Outcome) (old new : List ℕ)
    → PutsUnread template place old new → fares ≡ Unreadable → PutsFor template dbs place None fares old new
unread_added template dbs place fares old new (extra, is, put) unread = (extra, (is, unread), put)

-- what is added to a row
pub row_added : (template : Template) (dbs : List Database) (row : List ℕ) (goes_on : Bool) (place : RowPlace) (address : Option IpAddr) (fares : Outcome) (old middle new : List ℕ)
    → ReadsBy template row goes_on (Place place) address → PutsLead template row goes_on old middle → PutsFor template dbs place address fares middle new
    → (extra : List ℕ) × Adds template dbs row goes_on extra place.behind fares × (new ≡ old ++ extra)
row_added template dbs row goes_on place address fares old middle new reads (lead, ahead, first) (more, adds, put) =
    (lead ++ more, (Place place, address, reads, (lead, more, ahead, adds, refl, refl)), put ∙ (ap (λ l. l ++ more) first ∙ append_assoc old lead more))

-- what an object is read to be
pub object_read : (kind : MemberKind) (long : Bool) (reading : Reading) (path : List PathStep) (nulls : Bool) (name : List ℕ) (fields : List NamedField) (text : List ℕ) (goes_on : Bool) (line : Line) (read : ReadRow)
    → ReadsLine reading text goes_on path name (Object line) → IsPlaceIn line read
    → IsReadTo (λ place. ReadsPlace (member kind long reading path nulls name fields) text goes_on place line.address) (member kind long reading path nulls name fields) text goes_on read
object_read kind long reading path nulls name fields text goes_on line (Passed outcome) (ms, is, holds) (taken, fares) =
    inr (inr (fares, ms, line.behind, is, sym holds.taken ∙ taken))
object_read kind long reading path nulls name fields text goes_on line (Place place) (ms, is, holds) (free, behind, comma) =
    (ms, subst (IsObject text goes_on ms) (sym behind) is, sym holds.taken ∙ free, holds.address, comma ∙ ap not holds.empty)
