-- Laws of walks of whole trees, and what they say of lookups.
use Rattle.std.specs.Prelude.{◌≡◌, ℕ, suc, ◌+◌, ◌-◌, ◌≤◌, ◌<◌, ◌⊎◌, ◌↔◌, Bool, true, List, ◌++◌, length, map, take, Some}
use Rattle.std.specs.List.{Contains}
use Rattle.std.specs.declared.net.ip_addr.IpAddr.{IpAddr}
use Rattle.mmdb_format.specs.Unfolding.{Tree}
use Rattle.mmdb_check.specs.Checking.{IsGood}
use Rattle.mmdb_decode.specs.Errors.{answer}
use Rattle.mmdb_value.specs.AnyValue.{value_at}
use Rattle.mmdb_tree.specs.declared.record.TreeRecord.{TreeRecord}
use Rattle.mmdb_tree.specs.declared.record.TreeRecord.TheVariants.{Data, Empty, Invalid, Node}
use Rattle.mmdb_reader.specs.File.{Database, tree_of, before_ipv4, data_section}
use Rattle.mmdb_tree.specs.Tree.{walk}
use Rattle.mmdb_reader.specs.Leaves.{IsLeaf}
use Rattle.mmdb_reader.specs.Lookup.{CanAsk, Answers, IsInvalidAt}
use Rattle.mmdb_reader.specs.Alias.{IsAlias}
use Rattle.mmdb_reader.specs.Listing.{HasValueAt, IsFaulty, Ascends}
use Rattle.mmdb_reader.specs.Options.{default_options}
use Rattle.mmdb_tree.specs.Stops.{Stop, offsets, cost, cut, AreFirst}
use Rattle.mmdb_reader.specs.Stops.{stops, most_stops}
use Rattle.mmdb_reader.specs.Whole.{IsWalked, IsTopmost, HasNoFault, IsWhole, HasReadableRecords}

-- How many inner nodes a walk has taken when it comes to the stop that follows the first n.
abbrev pub inner_before : Database → ℕ → ℕ
inner_before db n = cost (take (suc n) (stops db)) - suc n

-- With the root, and without the stops that are passed, these are at most 129: the positions that still wait.
abbrev pub FewPositionsWait : Type 0
FewPositionsWait = (db : Database) (n : ℕ) → n < length (stops db) → 1 + inner_before db n - n ≤ 129

-- A walk takes the first stops, up to a faulty leaf, and at most one more than a tree may have.
abbrev pub FewStopsAreTaken : Type 0
FewStopsAreTaken = (db : Database) → AreFirst (most_stops db + 1) (stops db) (cut (most_stops db + 1) (stops db))

-- what a leaf has: a fault, no data, or a value at an offset
abbrev pub HasEnd : Database → List Bool → TreeRecord → Type 0
HasEnd db leaf (Node number) = ⊥
HasEnd db leaf Invalid = IsFaulty db default_options leaf
HasEnd db leaf Empty = walk (tree_of db) leaf ≡ db.metadata.node_count
HasEnd db leaf (Data offset) = HasValueAt db leaf offset

-- a topmost alias, or a walked leaf with what it has
abbrev pub IsStop : Database → Stop → Type 0
IsStop db m = (IsTopmost db m.bits × (m.end ≡ Node (walk (tree_of db) m.bits))) ⊎ (IsWalked db m.bits × HasEnd db m.bits m.end)

-- exactly the topmost aliases and the walked leaves, ascending, each once
pub record AreStops (db : Database) (ms : List Stop) : Type 0 where
  pub ascends : Ascends (map (λ m. m.bits) ms)
  pub exact : (m : Stop) → Contains ms m ↔ IsStop db m

-- The stops of a tree are these.
abbrev pub StopsAreExact : Type 0
StopsAreExact = (db : Database) → AreStops db (stops db)

-- Their offsets are those of the values of walked leaves.
abbrev pub OffsetsAreExact : Type 0
OffsetsAreExact =
    (db : Database) (offset : ℕ) → Contains (offsets (stops db)) offset ↔ ((leaf : List Bool) × IsWalked db leaf × HasValueAt db leaf offset)

-- Where no walked leaf is faulty, no lookup fails, below aliases either.
abbrev pub LookupsSucceed : Type 0
LookupsSucceed = (db : Database) → HasNoFault db → (address : IpAddr) → CanAsk db address → ¬ IsInvalidAt db address

-- Each offset that a lookup answers is then one of the stops.
abbrev pub AnsweredOffsetsAreWalked : Type 0
AnsweredOffsetsAreWalked =
    (db : Database) → HasNoFault db → (address : IpAddr) (leaf : List Bool) (offset : ℕ) → Answers db address leaf (Data offset) → Contains (offsets (stops db)) offset

-- each lookup succeeds, and a tree of valid texts, not too deep, unfolds at each offset that a lookup answers
pub record AnswersAll (db : Database) : Type 0 where
  pub lookups : (address : IpAddr) → CanAsk db address → ¬ IsInvalidAt db address
  pub values : (address : IpAddr) (leaf : List Bool) (offset : ℕ) → Answers db address leaf (Data offset) → (t : Tree) × IsGood (data_section db) offset t

-- A whole file does so.
abbrev pub WholeFilesAnswer : Type 0
WholeFilesAnswer = (db : Database) → IsWhole db → AnswersAll db

-- where records are readable too, a `Value` is decoded of each offset that a lookup answers
abbrev pub RecordsAreDecoded : Type 0
RecordsAreDecoded =
    (db : Database) → IsWhole db → HasReadableRecords db → (address : IpAddr) (leaf : List Bool) (offset : ℕ) → Answers db address leaf (Data offset) → (v : Tree) × (answer true (value_at true) (data_section db) offset ≡ Some v)

-- Below an alias the walk goes on as where IPv4 begins.
abbrev pub GoesOnAsIpv4 : Type 0
GoesOnAsIpv4 =
    (db : Database) (alias rest : List Bool) → IsAlias db alias → walk (tree_of db) (alias ++ rest) ≡ walk (tree_of db) (before_ipv4 db ++ rest)

-- the walk below an alias ends after some of the rest, at most 32 bits, on a leaf that leads where a walked leaf of
-- IPv4 does
pub record EndsAsIpv4 (db : Database) (alias rest : List Bool) : Type 0 where
  pub taken : List Bool
  pub left : List Bool
  pub parts : rest ≡ taken ++ left
  pub few : length taken ≤ 32
  pub leaf : IsLeaf db (alias ++ taken)
  pub walked : IsWalked db (before_ipv4 db ++ taken)
  pub same : walk (tree_of db) (alias ++ taken) ≡ walk (tree_of db) (before_ipv4 db ++ taken)

-- It does so below an alias of at most 96 bits, where no walked leaf is faulty.
abbrev pub AliasesEndAsIpv4 : Type 0
AliasesEndAsIpv4 =
    (db : Database) (alias rest : List Bool) → HasNoFault db → IsAlias db alias → length alias ≤ 96 → length alias + length rest ≡ 128 → EndsAsIpv4 db alias rest
