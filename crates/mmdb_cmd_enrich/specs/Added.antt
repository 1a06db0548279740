-- What is added to a row from databases, in the order in which they are asked.
use Rattle.std.specs.Prelude.{◌≡◌, ◌⊎◌, ℕ, List, [], ◌++◌, Option, Some, None, Bool, true, false, ⊤}
use Rattle.std.specs.Bool.{MatchBool}
use Rattle.std.specs.declared.net.ip_addr.IpAddr.{IpAddr}
use Rattle.mmdb_net.specs.declared.network.IpNetwork.{IpNetwork}
use Rattle.mmdb_reader.specs.File.{Database}
use Rattle.mmdb_filter.specs.declared.counts.Outcome.{Outcome}
use Rattle.mmdb_filter.specs.declared.counts.Outcome.TheVariants.{Absent, Unreadable, Failed}
use Rattle.mmdb_cmd_enrich.specs.Layers.{CanAskAny, CanAskNone, AnyRejects, HaveAll, has_record}
use Rattle.mmdb_cmd_enrich.specs.Networks.{IsShown}
use Rattle.mmdb_cmd_enrich.specs.Template.{Template, ReadsBy, IsLead, IsFrontText, IsText, IsNoneText, IsRejectedText, IsUnreadText, shows_network, text_at}
use Rattle.mmdb_cmd_enrich.specs.declared.place.RowPlace.{RowPlace}
use Rattle.mmdb_cmd_enrich.specs.declared.place.ReadRow.{ReadRow}
use Rattle.mmdb_cmd_enrich.specs.declared.place.ReadRow.TheVariants.{Passed, Place}

-- Bytes grow by a text, after a comma where that is wanted, and the row fares so.
abbrev pub PutsAt : Bool → List ℕ → Outcome → Outcome → List ℕ → List ℕ → Type 0
PutsAt has_comma text outcome fares old new = (fares ≡ outcome) × (new ≡ old ++ text_at has_comma text)

-- the text of the records at these offsets, or that where there is none
abbrev pub AddsAt : Template → List Database → Option IpNetwork → List (Option ℕ) → List ℕ → Outcome → Type 0
AddsAt template dbs shown offsets text outcome =
    ((has_record offsets ≡ false) × IsNoneText template text × (outcome ≡ Absent))
    ⊎ ((has_record offsets ≡ true) × IsText template dbs shown offsets text outcome)

-- where the network of an address is shown, it is this one
abbrev pub IsShownFor : Template → List Database → IpAddr → List (Option ℕ) → Option IpNetwork → Type 0
IsShownFor template dbs address offsets shown = MatchBool (shows_network template) (IsShown dbs address (has_record offsets) shown) ⊤

-- That of the records of an address, at these offsets, after what comes before it.
abbrev pub AddsFound : Template → List Database → Bool → IpAddr → List (Option ℕ) → List ℕ → Outcome → Type 0
AddsFound template dbs has_comma address offsets extra outcome =
    (shown : Option IpNetwork) × (front text : List ℕ) × IsShownFor template dbs address offsets shown × IsFrontText template shown front
    × AddsAt template dbs shown offsets text outcome × (extra ≡ front ++ text_at has_comma text)

-- What is added for an address. Where no database can be asked for it, or the lookup fails in one of them, that is what such a row
-- gets.
abbrev pub AddsForAddress : Template → List Database → Bool → IpAddr → List ℕ → Outcome → Type 0
AddsForAddress template dbs has_comma address extra outcome =
    ((CanAskNone dbs address ⊎ AnyRejects dbs address) × IsRejectedText template extra × (outcome ≡ Failed))
    ⊎ (CanAskAny dbs address × (offsets : List (Option ℕ)) × HaveAll dbs address offsets × AddsFound template dbs has_comma address offsets extra outcome)

-- What is added at a place for an address. Where there is none, that is what such a row gets.
abbrev pub AddsFor : Template → List Database → RowPlace → Option IpAddr → List ℕ → Outcome → Type 0
AddsFor template dbs place None extra outcome = IsUnreadText template place extra × (outcome ≡ Unreadable)
AddsFor template dbs place (Some address) extra outcome = AddsForAddress template dbs place.has_comma address extra outcome

-- what is added to a row that was read so, of which such a text is seen, that may go on, and how many bytes of the row follow it
abbrev pub AddsRead : Template → List Database → List ℕ → Bool → ReadRow → Option IpAddr → List ℕ → ℕ → Outcome → Type 0
AddsRead template dbs text goes_on (Passed fares) address extra behind outcome = (extra ≡ []) × (behind ≡ 0) × (outcome ≡ fares)
AddsRead template dbs text goes_on (Place place) address extra behind outcome =
    (lead more : List ℕ) × IsLead template text goes_on lead × AddsFor template dbs place address more outcome × (extra ≡ lead ++ more) × (behind ≡ place.behind)

-- what is added to a row, of which such a text is seen, that may go on
abbrev pub Adds : Template → List Database → List ℕ → Bool → List ℕ → ℕ → Outcome → Type 0
Adds template dbs text goes_on extra behind outcome =
    (read : ReadRow) × (address : Option IpAddr) × ReadsBy template text goes_on read address × AddsRead template dbs text goes_on read address extra behind outcome

-- Bytes grow by what is added at a place for an address.
abbrev pub PutsFor : Template → List Database → RowPlace → Option IpAddr → Outcome → List ℕ → List ℕ → Type 0
PutsFor template dbs place address fares old new = (extra : List ℕ) × AddsFor template dbs place address extra fares × (new ≡ old ++ extra)

-- Bytes grow by what is added for an address.
abbrev pub PutsForAddress : Template → List Database → Bool → IpAddr → Outcome → List ℕ → List ℕ → Type 0
PutsForAddress template dbs has_comma address fares old new = (extra : List ℕ) × AddsForAddress template dbs has_comma address extra fares × (new ≡ old ++ extra)

-- Bytes grow by the text of records at these offsets, of an address in this network, after a comma where that is wanted.
abbrev pub PutsRecords : Template → List Database → Bool → Option IpNetwork → List (Option ℕ) → Outcome → List ℕ → List ℕ → Type 0
PutsRecords template dbs has_comma shown offsets fares old new =
    (text : List ℕ) × (outcome : Outcome) × AddsAt template dbs shown offsets text outcome × PutsAt has_comma text outcome fares old new

-- Bytes grow by that, after what comes before it.
abbrev pub PutsFound : Template → List Database → Bool → (Option IpNetwork → Type 0) → List (Option ℕ) → Outcome → List ℕ → List ℕ → Type 0
PutsFound template dbs has_comma shows offsets fares old new =
    (shown : Option IpNetwork) × (front text : List ℕ) × MatchBool (shows_network template) (shows shown) ⊤ × IsFrontText template shown front
    × AddsAt template dbs shown offsets text fares × (new ≡ old ++ (front ++ text_at has_comma text))

-- Bytes grow by what comes before all that is added to a row.
abbrev pub PutsLead : Template → List ℕ → Bool → List ℕ → List ℕ → Type 0
PutsLead template text goes_on old new = (lead : List ℕ) × IsLead template text goes_on lead × (new ≡ old ++ lead)

-- Bytes grow by what comes before the text of records.
abbrev pub PutsFrontText : Template → Option IpNetwork → List ℕ → List ℕ → Type 0
PutsFrontText template shown old new = (front : List ℕ) × IsFrontText template shown front × (new ≡ old ++ front)

-- Bytes grow by what is added for an address that is rejected.
abbrev pub PutsRejected : Template → List ℕ → List ℕ → Type 0
PutsRejected template old new = (extra : List ℕ) × IsRejectedText template extra × (new ≡ old ++ extra)

-- Bytes grow by what is added to a row without an address.
abbrev pub PutsUnread : Template → RowPlace → List ℕ → List ℕ → Type 0
PutsUnread template place old new = (extra : List ℕ) × IsUnreadText template place extra × (new ≡ old ++ extra)
