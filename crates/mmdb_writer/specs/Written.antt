-- What was written: a whole file that says of each address what the rows say.
use Rattle.std.specs.Prelude.{◌≡◌, ◌≤◌, ◌↔◌, ℕ, ◌-◌, List, [], ◌∷◌, ◌++◌, Bool, length, map, Option, Some, None, true, false, string_bytes}
use Rattle.std.specs.List.{Contains}
use Rattle.std.specs.declared.net.ip_addr.IpAddr.{IpAddr}
use Rattle.mmdb_format.specs.Unfolding.{Tree}
use Rattle.mmdb_value.specs.Standing.{WholeValue}
use Rattle.mmdb_value.specs.declared.any_value.Value.{Value}
use Rattle.mmdb_reader.specs.Metadata.{MetadataDatum}
use Rattle.mmdb_net.specs.Bits.{zero_bits, IsPrefix}
use Rattle.mmdb_tree.specs.declared.record.TreeRecord.TheVariants.{Data}
use Rattle.mmdb_reader.specs.File.{Database, width, data_section, data_length}
use Rattle.mmdb_reader.specs.declared.options.WithinOptions.{WithinOptions}
use Rattle.mmdb_reader.specs.Alias.{IsAlias}
use Rattle.mmdb_reader.specs.Leaves.{IsLeaf}
use Rattle.mmdb_reader.specs.Listing.{Listed, listed_with, IsListing}
use Rattle.mmdb_reader.specs.Lookup.{CanAsk, Answers, outcome_at}
use Rattle.mmdb_reader.specs.Options.{includes_without_data, skips_empty}
use Rattle.mmdb_reader.specs.Source.{IsDatabaseOf}
use Rattle.mmdb_reader.specs.Whole.{IsWhole}
use Rattle.mmdb_nodes.specs.declared.entry.IpVersion.{IpVersion}
use Rattle.mmdb_nodes.specs.declared.entry.IpVersion.TheVariants.{V4, V6}
use Rattle.mmdb_nodes.specs.declared.size.RecordSize.{RecordSize}
use Rattle.mmdb_nodes.specs.Trees.{bits_in, numbers_of, IsSizeFor}
use Rattle.mmdb_writer.specs.declared.options.Options.{Options}
use Rattle.mmdb_writer.specs.declared.row.Row.{Row}
use Rattle.mmdb_writer.specs.Rows.{wide_bits, Says}

-- how metadata name a version of IP ("Database Metadata")
abbrev pub version_number : IpVersion → ℕ
version_number V4 = 4
version_number V6 = 6

-- The metadata that options ask for, of a tree with `node_count` nodes and records of that size.
abbrev pub asked : Options → ℕ → ℕ → MetadataDatum
asked options node_count record_size = record {
  binary_format_major_version = 2;
  binary_format_minor_version = 0;
  build_epoch = options.build_epoch;
  database_type = string_bytes options.database_type;
  description = map (λ e. (string_bytes e.0, string_bytes e.1)) options.description.entries;
  ip_version = version_number options.ip_version;
  languages = map string_bytes options.languages.items;
  node_count = node_count;
  record_size = record_size;
}

-- The database has the metadata that were asked for, with records of the size that was asked for, or of the least that serves.
pub record IsAsked (options : Options) (db : Database) : Type 0 where
  pub metadata : db.metadata ≡ asked options db.metadata.node_count db.metadata.record_size
  pub size : RecordSize
  pub size_is : db.metadata.record_size ≡ bits_in size
  pub serves : IsSizeFor options.record_size (numbers_of db.metadata.node_count (data_length db)) size

-- an offset of the data section is read as this value; no offset is no value
abbrev pub IsRead : Database → Option ℕ → Option Tree → Type 0
IsRead db None v = v ≡ None
IsRead db (Some offset) v = (t : Tree) × (v ≡ Some t) × WholeValue true (data_section db) offset t

-- Each lookup that may be asked succeeds, and finds the value that the rows say of the address, or none where they say none.
abbrev pub LookupsAgree : Database → List Value → List Row → Type 0
LookupsAgree db values rows = (address : IpAddr) → CanAsk db address →
    (leaf : List Bool) × (found : Option ℕ) × (v : Option Tree) × Answers db address leaf (outcome_at found) × Says values rows (wide_bits address) v × IsRead db found v

-- Two addresses with data are answered with one offset exactly where they have one value: equal values occur once.
abbrev pub SharesEqualValues : Database → Type 0
SharesEqualValues db = (a b : IpAddr) (p q : List Bool) (x y : ℕ) (v w : Tree) → Answers db a p (Data x) → Answers db b q (Data y)
    → WholeValue true (data_section db) x v → WholeValue true (data_section db) y w → (x ≡ y) ↔ (v ≡ w)

-- bits of an address of the database, written with 128 bits
abbrev pub widened : Database → List Bool → List Bool
widened db bits = zero_bits (128 - width db) ++ bits

-- Of two addresses that begin with these bits the rows do not say the same.
pub record IsMixed (db : Database) (values : List Value) (rows : List Row) (block : List Bool) : Type 0 where
  pub one : List Bool
  pub other : List Bool
  pub one_full : length one ≡ width db
  pub other_full : length other ≡ width db
  pub one_here : IsPrefix block one
  pub other_here : IsPrefix block other
  pub v : Option Tree
  pub w : Option Tree
  pub one_has : Says values rows (widened db one) v
  pub other_has : Says values rows (widened db other) w
  pub differ : ¬ (v ≡ w)

-- No leaf lies in a wider block at all of whose addresses the rows say the same, but in that of all addresses, since a tree has a
-- node. So a list of networks has the largest blocks of one value.
abbrev pub HasLargestBlocks : Database → List Value → List Row → Type 0
HasLargestBlocks db values rows = (leaf wider rest : List Bool) (x : Bool) → IsLeaf db leaf → leaf ≡ wider ++ x ∷ rest → ¬ (wider ≡ []) → IsMixed db values rows wider

-- No bits lead to the node where IPv4 begins but its own, so that no list of networks leaves out a leaf as an alias.
abbrev pub HasNoAliases : Database → Type 0
HasNoAliases db = (bits : List Bool) → ¬ IsAlias db bits

-- A largest block of addresses that have this value: the rows say it of each address that begins with these bits, and do not say
-- the same of all in the next wider block, unless that is the block of all addresses.
pub record IsNetwork (db : Database) (values : List Value) (rows : List Row) (block : List Bool) (v : Tree) : Type 0 where
  pub some : ¬ (block ≡ [])
  pub short : length block ≤ width db
  pub alike : (bits : List Bool) → length bits ≡ width db → IsPrefix block bits → Says values rows (widened db bits) (Some v)
  pub largest : (wider : List Bool) (x : Bool) → block ≡ wider ++ x ∷ [] → ¬ (wider ≡ []) → IsMixed db values rows wider

-- the block is listed with an offset at which the value is read
abbrev pub IsListedWith : Database → List Listed → List Bool → Tree → Type 0
IsListedWith db list block v = (offset : ℕ) × Contains list (listed_with block (Data offset)) × WholeValue true (data_section db) offset v

-- The list has these blocks, and nothing else.
pub record ListsNetworks (db : Database) (values : List Value) (rows : List Row) (list : List Listed) : Type 0 where
  pub all : (block : List Bool) (v : Tree) → IsNetwork db values rows block v → IsListedWith db list block v
  pub only : (m : Listed) → Contains list m → (v : Tree) × IsNetwork db values rows m.leaf v × IsListedWith db list m.leaf v

-- So does each list of all networks with data, aliased ones asked for or not.
abbrev pub HandsOutNetworks : Database → List Value → List Row → Type 0
HandsOutNetworks db values rows =
    (options : WithinOptions) (list : List Listed) → includes_without_data options ≡ false → skips_empty options ≡ false → IsListing db options [] list → ListsNetworks db values rows list

-- The file is a database with these metadata, whole, and agrees with the rows.
pub record IsWritten (values : List Value) (rows : List Row) (options : Options) (file : List ℕ) : Type 0 where
  pub db : Database
  pub database : IsDatabaseOf file db
  pub asked : IsAsked options db
  pub whole : IsWhole db
  pub lookups : LookupsAgree db values rows
  pub shared : SharesEqualValues db
  pub largest : HasLargestBlocks db values rows
  pub clear : HasNoAliases db
  pub networks : HandsOutNetworks db values rows
