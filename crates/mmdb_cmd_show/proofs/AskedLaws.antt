-- What databases that are asked in turn have for an address.
use Rattle.std.proofs.Common.{◌≡◌, ◌⊎◌, inl, inr, ℕ, zero, suc, ◌<◌, List, [], ◌∷◌, length, Option, Some, None, option_map, Bool, true, false, Result, Ok, Err, IfOk, IfErr, refl, sym, ap, ◌∙◌, arith, MatchBool, is_some}
use Rattle.std.specs.List.{HoldsAt, AllWithin}
use Rattle.std.specs.declared.convert.AsSlice.{Ghosts}
use Rattle.std.specs.declared.net.ip_addr.IpAddr.{IpAddr}
use Rattle.mmdb_format.specs.Error.{MemoryApart, kind_of, OfInput, OfDatabase}
use Rattle.mmdb_format.specs.declared.error.MaxMindDbError.{MaxMindDbError}
use Rattle.mmdb_format.specs.declared.error.MaxMindDbError.TheVariants.{Memory, InvalidDatabase, Io, Decoding, ResourceLimit, InvalidNetwork, InvalidInput}
use Rattle.mmdb_decode.specs.Errors.{Fails}
use Rattle.mmdb_value.specs.Values.{value_tree}
use Rattle.mmdb_value.specs.declared.any_value.Value.{Value}
use Rattle.mmdb_reader.specs.Decoding.{FailsToDecode}
use Rattle.mmdb_reader.specs.File.{Database, data_section}
use Rattle.mmdb_reader.specs.Lookup.{Answers, outcome_at}
use Rattle.mmdb_reader.specs.Many.{IsLookup}
use Rattle.mmdb_reader.specs.Selecting.{SelectsTo}
use Rattle.mmdb_reader.specs.declared.path.PathElement.{PathElement}
use Rattle.mmdb_found.specs.Found.{value_found}
use Rattle.mmdb_layout.specs.Asked.{Asks}
use Rattle.mmdb_layout.specs.Reading.{reads_in}
use Rattle.mmdb_cmd_show.specs.Asked.{Rejects, Finds, Reads, CanBeAsked, CanOneBeAsked, IsPassed, Has, FindsAmong, OfName}
use Rattle.mmdb_cmd_show.specs.declared.databases.ReadError.{ReadError}
use Rattle.mmdb_cmd_show.specs.declared.databases.ReadError.TheVariants.{Memory as NoMemory, Unread}
use Rattle.mmdb_cmd_show.specs.declared.databases.ShownDatabase.{ShownDatabase}

-- of a result something else holds
pub on_value : {T E : Type 0} {P Q : T → Type 0} (r : Result T E) → ((v : T) → P v → Q v) → IfOk r P → IfOk r Q
on_value (Ok v) f h = f v h
on_value (Err e) f h = tt

pub on_error : {T E : Type 0} {P Q : E → Type 0} (r : Result T E) → ((e : E) → P e → Q e) → IfErr r P → IfErr r Q
on_error (Ok v) f h = tt
on_error (Err e) f h = f e h

-- of an error, unless memory ran out
pub apart : {P : Type 0} (e : MaxMindDbError) → P → MemoryApart e P
apart Memory h = tt
apart (InvalidDatabase message offset) h = h
apart (Io e) h = h
apart (Decoding message offset path) h = h
apart (ResourceLimit message offset path) h = h
apart (InvalidNetwork e) h = h
apart (InvalidInput message) h = h

pub not_apart : {P : Type 0} (e : MaxMindDbError) → (e ≡ Memory → ⊥) → MemoryApart e P → P
not_apart Memory other h = absurd (other refl)
not_apart (InvalidDatabase message offset) other h = h
not_apart (Io e) other h = h
not_apart (Decoding message offset path) other h = h
not_apart (ResourceLimit message offset path) other h = h
not_apart (InvalidNetwork e) other h = h
not_apart (InvalidInput message) other h = h

declined : {A P : Type 0} (e : MaxMindDbError) (answer : Option A) → (answer ≡ None → P) → Fails false e answer → MemoryApart e P
declined Memory answer f h = tt
declined (InvalidDatabase message offset) answer f h = f h
declined (Io e) answer f h = f h
declined (Decoding message offset path) answer f h = f h
declined (ResourceLimit message offset path) answer f h = f h
declined (InvalidNetwork e) answer f h = f h
declined (InvalidInput message) answer f h = f h

module _ {S : Type 0} {G : Ghosts S ℕ} where
  -- a lookup with an error is one that fails
  pub rejected : (db : Database) (asked : IpAddr) (e : MaxMindDbError) → IsLookup {S = S} {G = G} db asked (Err e) → Rejects db asked
  rejected db asked e h = by_kind h.no_other
    where
      by_kind : (kind_of e ≡ OfInput) ⊎ (kind_of e ≡ OfDatabase) → Rejects db asked
      by_kind (inl is) = inl (h.of_input.0 is)
      by_kind (inr is) = inr (h.of_database.0 is)

  pub not_looked_up : (db : Database) (address : IpAddr) (path : List PathElement) (e : MaxMindDbError) (h : (asked : IpAddr) × Asks db address asked × IsLookup {S = S} {G = G} db asked (Err e)) → MemoryApart e (Reads db address path None)
  not_looked_up db address path e h = apart e (h.0, h.1, inl (rejected db h.0 e h.2, refl))

-- what is read in the record that was found
value_read : (db : Database) (path : List PathElement) (s : List ℕ) (offset : Option ℕ) (value : Option Value) → s ≡ data_section db → SelectsTo value_tree (value_found path s) offset value → Some (option_map value_tree value) ≡ reads_in (data_section db) offset path
value_read db path s None value same h = ap (λ v. Some (option_map value_tree v)) h
value_read db path s (Some offset) value same h = sym h ∙ ap (λ t. value_found path t offset) same

pub read_there : (db : Database) (address asked : IpAddr) (path : List PathElement) (leaf : List Bool) (s : List ℕ) (offset : Option ℕ) (value : Option Value) → Asks db address asked → Answers db asked leaf (outcome_at offset) → s ≡ data_section db → SelectsTo value_tree (value_found path s) offset value → Reads db address path (Some (option_map value_tree value))
read_there db address asked path leaf s offset value asks answers same h = (asked, asks, inr (offset, (leaf, answers), value_read db path s offset value same h))

pub value_there : (db : Database) (path : List PathElement) (s : List ℕ) (offset : Option ℕ) (value : Option Value) → s ≡ data_section db → SelectsTo value_tree (value_found path s) offset value → reads_in (data_section db) offset path ≡ Some (option_map value_tree value)
value_there db path s offset value same h = sym (value_read db path s offset value same h)

pub unread_there : (db : Database) (address asked : IpAddr) (path : List PathElement) (leaf : List Bool) (s : List ℕ) (offset : Option ℕ) (e : MaxMindDbError) → Asks db address asked → Answers db asked leaf (outcome_at offset) → s ≡ data_section db → FailsToDecode false e (value_found path s) offset → MemoryApart e (Reads db address path None)
unread_there db address asked path leaf s None e asks answers same h = absurd h
unread_there db address asked path leaf s (Some offset) e asks answers same h =
    declined e (value_found path s offset) (λ none. (asked, asks, inr (Some offset, (leaf, answers), sym none ∙ ap (λ t. value_found path t offset) same))) h

-- one of databases can be asked
abbrev Can : IpAddr → ShownDatabase → Type 0
Can address shown = CanBeAsked shown.database.now address

abbrev Cannot : IpAddr → ShownDatabase → Type 0
Cannot address shown = ¬ CanBeAsked shown.database.now address

one : (address : IpAddr) (all : List ShownDatabase) (k : ℕ) → k < length all → HoldsAt (Can address) all k → CanOneBeAsked all address
one address [] k within can = absurd (omega arith)
one address (x ∷ all) zero within can = inl (can x)
one address (x ∷ all) (suc k) within can = inr (one address all k (omega arith) can)

none : (address : IpAddr) (all : List ShownDatabase) → AllWithin (Cannot address) all 0 (length all) → CanOneBeAsked all address → ⊥
none address [] cannot can = can
none address (x ∷ all) cannot (inl can) = cannot 0 x (omega arith) (omega arith) can
none address (x ∷ all) cannot (inr can) = none address all (λ k d low high. cannot (suc k) d (omega arith) (omega arith)) can

pub one_can : (address : IpAddr) (all : List ShownDatabase) (r : Bool) → MatchBool r ((k : ℕ) × (k < length all) × HoldsAt (Can address) all k) (AllWithin (Cannot address) all 0 (length all)) → MatchBool r (CanOneBeAsked all address) (¬ CanOneBeAsked all address)
one_can address all true h = one address all h.0 h.1 h.2
one_can address all false h = none address all h

-- a database that can't be asked is passed over exactly where another one can
pub is_passed : (db : Database) (address : IpAddr) (all : List ShownDatabase) (r : Bool) → (¬ CanBeAsked db address) → MatchBool r (CanOneBeAsked all address) (¬ CanOneBeAsked all address) → MatchBool r (IsPassed all db address) (¬ IsPassed all db address)
is_passed db address all true cannot can = (cannot, can)
is_passed db address all false cannot can = λ passed. can passed.1

-- ---- one database after another

pub of_name : {P Q : List ℕ → Type 0} (e : ReadError) → ((name : List ℕ) → P name → Q name) → OfName e P → OfName e Q
of_name NoMemory f h = tt
of_name (Unread name error) f h = f name.now h

pub finds_some : (all others : List ShownDatabase) (shown : ShownDatabase) (address : IpAddr) (path : List PathElement) (value : Option Value) → true ≡ is_some value → Has all shown address path (Some (option_map value_tree value)) → FindsAmong all (shown ∷ others) address path (Ok (option_map value_tree value))
finds_some all others shown address path None some h = absurd (cc)
finds_some all others shown address path (Some v) some h = inr (inl (value_tree v, h, refl))

pub has_none : (all : List ShownDatabase) (shown : ShownDatabase) (address : IpAddr) (path : List PathElement) (value : Option Value) → false ≡ is_some value → Has all shown address path (Some (option_map value_tree value)) → Has all shown address path (Some None)
has_none all shown address path None none h = h
has_none all shown address path (Some v) none h = absurd (cc)
