-- A file in the making.
use Rattle.std.specs.Prelude.{◌≡◌, ◌<◌, ◌≤◌, ◌^◌, ◌⊎◌, ◌==◌, ◌&&◌, Bool, ℕ, List, [], ◌∷◌, ◌++◌, length, map, take, Option, Some, None, slice_get}
use Rattle.std.specs.List.{AllByRecursion, AllZip, filter}
use Rattle.mmdb_net.specs.Bits.{bits_of}
use Rattle.mmdb_blocks.specs.Blocks.{IsBlock}
use Rattle.mmdb_blocks.specs.Networks.{network_bits}
use Rattle.mmdb_format.specs.Unfolding.{Tree}
use Rattle.mmdb_nodes.specs.declared.entry.NodeEntry.{NodeEntry}
use Rattle.mmdb_nodes.specs.Entries.{block_of, IsEntry, IsOrdered}
use Rattle.mmdb_nodes.specs.Trees.{bits_in, most_numbers, numbers_of, nodes_for, LeadsByPrefix}
use Rattle.mmdb_nodes.specs.declared.tree.SearchTree.{SearchTree}
use Rattle.mmdb_reader.specs.File.{Database, data_length}
use Rattle.mmdb_reader.specs.Source.{IsDatabaseOf}
use Rattle.mmdb_reader.specs.Whole.{IsWhole}
use Rattle.mmdb_section.specs.declared.value.SectionPart.TheVariants.{At}
use Rattle.mmdb_section.specs.Known.{HasEachOnce}
use Rattle.mmdb_section.specs.Moved.{NoneTwice}
use Rattle.mmdb_section.specs.Sections.{Tile, AreTiles, IsPart}
use Rattle.mmdb_value.specs.declared.any_value.Value.{Value}
use Rattle.mmdb_value.specs.Values.{value_tree}
use Rattle.mmdb_writer.specs.declared.error.WriteError.{WriteError}
use Rattle.mmdb_writer.specs.declared.options.Options.{Options}
use Rattle.mmdb_writer.specs.declared.row.Row.{Row}
use Rattle.mmdb_writer.specs.declared.writer.Writer.{Writer}
use Rattle.mmdb_writer.specs.Errors.{IsErrorOf, AreMetadataLarge}
use Rattle.mmdb_writer.specs.Limits.{CanBeRead}
use Rattle.mmdb_reader.specs.Metadata.{MetadataDatum}
use Rattle.mmdb_writer.specs.Written.{asked, IsWritten}

-- for each of the trees a value begins at the offset
abbrev pub AllBegin : List Tile → List Tree → List ℕ → Type 0
AllBegin tiles [] [] = Unit {0}
AllBegin tiles [] (offset ∷ offsets) = ⊥
AllBegin tiles (v ∷ vs) [] = ⊥
AllBegin tiles (v ∷ vs) (offset ∷ offsets) = IsPart tiles (At offset) v × AllBegin tiles vs offsets

-- where the value of an index begins, or nowhere
abbrev pub IsOffsetOf : List ℕ → Option ℕ → Option ℕ → Type 0
IsOffsetOf offsets None found = found ≡ None
IsOffsetOf offsets (Some index) found = (offset : ℕ) × (slice_get offsets index ≡ Some offset) × (found ≡ Some offset)

-- the entry has the addresses of the row's network, and the offset of its value
pub record IsEntryOf (offsets : List ℕ) (row : Row) (entry : NodeEntry) : Type 0 where
  pub block : IsBlock (block_of entry)
  pub bits : take entry.prefix (bits_of 128 entry.first) ≡ network_bits row.network
  pub offset : IsOffsetOf offsets row.value entry.offset

-- the writer was made with these options, and these values and rows were added to it
pub record IsMadeOf (values : List Value) (rows : List Row) (options : Options) (writer : Writer) : Type 0 where
  pub options_are : writer.options ≡ options
  pub readable : AllByRecursion (λ value. CanBeRead (value_tree value)) values
  pub tiles : List Tile
  pub once : HasEachOnce tiles writer.section
  pub begin : AllBegin tiles (map value_tree values) writer.offsets.items
  pub entries_are : AllZip (IsEntryOf writer.offsets.items) rows writer.entries.items

-- The data section and the entries have these values and rows: each value begins at one offset.
pub record HasAdded (values : List Value) (rows : List Row) (section : List ℕ) (entries : List NodeEntry) : Type 0 where
  pub tiles : List Tile
  pub laid : AreTiles tiles section
  pub once : NoneTwice tiles
  pub offsets : List ℕ
  pub begin : AllBegin tiles (map value_tree values) offsets
  pub entries_are : AllZip (IsEntryOf offsets) rows entries

-- Whatever was added before: now this value was added too, which has the next index.
abbrev pub AddsValue : Value → Writer → Writer → ℕ → Type 0
AddsValue value old new index = (values : List Value) (rows : List Row) (options : Options) → IsMadeOf values rows options old
    → (index ≡ length values) × IsMadeOf (values ++ value ∷ []) rows options new

-- now this row was added too
abbrev pub AddsRow : Row → Writer → Writer → Type 0
AddsRow row old new = (values : List Value) (rows : List Row) (options : Options) → IsMadeOf values rows options old → IsMadeOf values (rows ++ row ∷ []) options new

-- both have the same addresses
abbrev pub is_same_block : NodeEntry → NodeEntry → Bool
is_same_block e f = (e.first == f.first) && (e.prefix == f.prefix)

-- The entries in the order that a tree wants, in which those of one block are in the order that was given.
pub record AreOrdered (given entries : List NodeEntry) : Type 0 where
  pub ordered : IsOrdered entries
  pub stable : (e : NodeEntry) → filter (is_same_block e) entries ≡ filter (is_same_block e) given

-- the tree, as many bytes as a separator has, the data section, and others
pub record BeginsWith (tree section file : List ℕ) : Type 0 where
  pub separator : List ℕ
  pub len : length separator ≡ 16
  pub behind : List ℕ
  pub whole : file ≡ tree ++ (separator ++ (section ++ behind))

-- the metadata that options ask for, with this tree
abbrev pub asked_with : Options → SearchTree → MetadataDatum
asked_with options tree = asked options tree.node_count (bits_in tree.record_size)

-- what reading back tells: a whole database with these metadata, and `data_len` bytes of data
pub record IsCertified (file : List ℕ) (options : Options) (tree : SearchTree) (data_len : ℕ) : Type 0 where
  pub db : Database
  pub database : IsDatabaseOf file db
  pub metadata : db.metadata ≡ asked_with options tree
  pub section_len : data_length db ≡ data_len
  pub whole : IsWhole db

-- A file that has a tree of the entries and the data section is not read back as it was meant.
pub record IsUnread (options : Options) (section : List ℕ) (entries : List NodeEntry) : Type 0 where
  pub tree : SearchTree
  pub leads : LeadsByPrefix options.ip_version (length section) entries tree
  pub file : List ℕ
  pub begins : BeginsWith tree.bytes.items section file
  pub unread : ¬ IsCertified file options tree (length section)

-- In the order that a tree wants they are no entries of the tree and the section, or a file of them is not read back.
pub record IsNotMeant (options : Options) (section : List ℕ) (given : List NodeEntry) : Type 0 where
  pub entries : List NodeEntry
  pub order : AreOrdered given entries
  pub why : ¬ AllByRecursion (IsEntry options.ip_version (length section)) entries ⊎ IsUnread options section entries

-- Nodes, separator and offsets have more numbers than records can have, or the metadata are too large.
pub record NeedsTooMany (options : Options) (section : List ℕ) (given : List NodeEntry) : Type 0 where
  pub entries : List NodeEntry
  pub order : AreOrdered given entries
  pub many : most_numbers options.record_size < numbers_of (nodes_for options.ip_version entries) (length section)

abbrev pub DoesNotFit : Options → List ℕ → List NodeEntry → Type 0
DoesNotFit options section given = NeedsTooMany options section given ⊎ AreMetadataLarge options

-- nothing else was added
abbrev pub Stays : Writer → Writer → Type 0
Stays old new = (values : List Value) (rows : List Row) (options : Options) → IsMadeOf values rows options old → IsMadeOf values rows options new

-- the file has what was added
abbrev pub Writes : Writer → List ℕ → Type 0
Writes writer file = (values : List Value) (rows : List Row) (options : Options) → IsMadeOf values rows options writer → IsWritten values rows options file

-- the error is one of a file of what was added, with this value too, and with this row too
abbrev pub IsErrorAfter : Writer → WriteError → Type 0
IsErrorAfter writer e = (values : List Value) (rows : List Row) (options : Options) → IsMadeOf values rows options writer → IsErrorOf values rows options e

abbrev pub IsErrorAfterValue : Value → Writer → WriteError → Type 0
IsErrorAfterValue value writer e = (values : List Value) (rows : List Row) (options : Options) → IsMadeOf values rows options writer → IsErrorOf (values ++ value ∷ []) rows options e

abbrev pub IsErrorAfterRow : Row → Writer → WriteError → Type 0
IsErrorAfterRow row writer e = (values : List Value) (rows : List Row) (options : Options) → IsMadeOf values rows options writer → IsErrorOf values (rows ++ row ∷ []) options e

-- ---- what is too large for the format

-- the data section has more bytes than pointers can lead to
abbrev pub HasFullSection : Writer → Type 0
HasFullSection writer = 2 ^ 32 ≤ length writer.section.bytes

-- with what was added a file does not fit
abbrev pub DoesNotFitAfter : Writer → Type 0
DoesNotFitAfter writer = (values : List Value) (rows : List Row) (options : Options) → IsMadeOf values rows options writer → DoesNotFit options writer.section.bytes writer.entries.items

-- a file of a data section and entries that have what was added is not read back as it was meant
abbrev pub IsNotMeantAfter : Writer → Type 0
IsNotMeantAfter writer = (values : List Value) (rows : List Row) (options : Options) → IsMadeOf values rows options writer
    → (section : List ℕ) × (entries : List NodeEntry) × HasAdded values rows section entries × IsNotMeant options section entries

-- The first of the values fill the data section, or all of them with the rows do not fit.
abbrev pub IsTooLarge : List Value → List Row → Options → Type 0
IsTooLarge values rows options =
    ((count : ℕ) × (writer : Writer) × IsMadeOf (take count values) [] options writer × HasFullSection writer)
    ⊎ ((writer : Writer) × IsMadeOf values rows options writer × DoesNotFit options writer.section.bytes writer.entries.items)
