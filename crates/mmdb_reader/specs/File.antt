-- The parts of a file ("Overview", "Binary Search Tree Section", "Data Section Separator" and "Database
-- Metadata" of the MaxMind DB File Format Specification 2.0).
use Rattle.std.specs.Prelude.{◌≡◌, ℕ, ◌+◌, ◌-◌, ◌*◌, ◌^◌, ◌<◌, ◌≤◌, ◌⊎◌, Bool, List, [], ◌∷◌, length, drop, slice_index, slice_range, if◌then◌else◌, ◌==◌}
use Rattle.mmdb_net.specs.Bits.{zero_bits}
use Rattle.mmdb_reader.specs.Metadata.{MetadataDatum}
use Rattle.mmdb_tree.specs.Tree.{SearchTree, search_tree, node_bytes}

-- 0xAB, 0xCD, 0xEF and "MaxMind.com" ("Database Metadata")
abbrev pub marker_bytes : List ℕ
marker_bytes = 171 ∷ 205 ∷ 239 ∷ 77 ∷ 97 ∷ 120 ∷ 77 ∷ 105 ∷ 110 ∷ 100 ∷ 46 ∷ 99 ∷ 111 ∷ 109 ∷ []

-- the marker's bytes are in the file at this offset
pub record IsMarkerAt (file : List ℕ) (offset : ℕ) : Type 0 where
  pub fits : offset + length marker_bytes ≤ length file
  pub reads : (j : ℕ) → j < length marker_bytes → slice_index file (offset + j) ≡ slice_index marker_bytes j

-- They are there, and nowhere after it: the last occurrence begins the metadata.
pub record IsLastMarker (file : List ℕ) (offset : ℕ) : Type 0 where
  pub stands : IsMarkerAt file offset
  pub last : (other : ℕ) → IsMarkerAt file other → other ≤ offset

-- the bytes after the marker, to the file's end
abbrev pub metadata_section : List ℕ → ℕ → List ℕ
metadata_section file marker = drop (marker + length marker_bytes) file

-- A database: the bytes of its file, the offset of the marker, and what the metadata say.
pub record Database : Type 0 where
  pub bytes : List ℕ
  pub marker : ℕ
  pub metadata : MetadataDatum

abbrev pub database : List ℕ → ℕ → MetadataDatum → Database
database bytes marker metadata = record { bytes = bytes; marker = marker; metadata = metadata }

-- the search tree, with which the file begins
abbrev pub tree_of : Database → SearchTree
tree_of db = search_tree db.bytes db.metadata.node_count db.metadata.record_size

-- how many bytes the search tree has ("Calculating the search tree section size")
abbrev pub tree_len : Database → ℕ
tree_len db = db.metadata.node_count * node_bytes db.metadata.record_size

-- how many bytes lie between the tree and the data ("Data Section Separator")
abbrev pub separator : ℕ
separator = 16

-- where the data section begins
abbrev pub data_start : Database → ℕ
data_start db = tree_len db + separator

-- how many bytes the data section has: it ends at the marker
abbrev pub data_length : Database → ℕ
data_length db = db.marker - data_start db

-- the data section
abbrev pub data_section : Database → List ℕ
data_section db = slice_range db.bytes (data_start db) db.marker

-- the database has addresses of IPv6
abbrev pub has_ipv6 : Database → Bool
has_ipv6 db = db.metadata.ip_version == 6

-- how many bits a full address has: 128 in an IPv6 database, 32 in an IPv4 one
abbrev pub width : Database → ℕ
width db = if has_ipv6 db then 128 else 32

-- The zero bits before an IPv4 address: 96 in an IPv6 database, none in an IPv4 one ("IPv4 addresses in
-- an IPv6 tree").
abbrev pub before_ipv4 : Database → List Bool
before_ipv4 db = zero_bits (if has_ipv6 db then 96 else 0)

-- the tree and the separator end before the marker
abbrev pub HasRoom : Database → Type 0
HasRoom db = tree_len db + separator ≤ db.marker

-- What a reader demands of metadata: the format's version, a version of IP, at least one node, a size
-- of records, and a time that a signed number of seconds can hold ("Database Metadata").
pub record IsSupported (metadata : MetadataDatum) : Type 0 where
  pub format : metadata.binary_format_major_version ≡ 2
  pub ip : (metadata.ip_version ≡ 4) ⊎ (metadata.ip_version ≡ 6)
  pub some_node : 0 < metadata.node_count
  pub time : metadata.build_epoch < 2 ^ 63
  pub records : (metadata.record_size ≡ 24) ⊎ ((metadata.record_size ≡ 28) ⊎ (metadata.record_size ≡ 32))

-- A database that a reader has accepted: the metadata are supported, and the tree, the separator and
-- the marker lie in the file in this order.
pub record IsAccepted (db : Database) : Type 0 where
  pub supported : IsSupported db.metadata
  pub room : HasRoom db
  pub few_nodes : db.metadata.node_count < 2 ^ 32
  pub within : db.marker + length marker_bytes ≤ length db.bytes
