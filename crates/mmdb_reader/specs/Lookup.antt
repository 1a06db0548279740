-- What a lookup answers ("Search Lookup Algorithm" and "IPv4 addresses in an IPv6 tree" of the MaxMind DB
-- File Format Specification 2.0).
use Rattle.std.specs.Prelude.{◌≡◌, ℕ, Bool, List, ◌++◌, take, ⊤, Option, Some, None}
use Rattle.std.specs.declared.net.ip_addr.IpAddr.{IpAddr}
use Rattle.std.specs.declared.net.ip_addr.IpAddr.TheVariants.{V4, V6}
use Rattle.mmdb_net.specs.Bits.{IsPrefix}
use Rattle.mmdb_net.specs.Address.{bits_of_address}
use Rattle.mmdb_tree.specs.declared.record.TreeRecord.{TreeRecord}
use Rattle.mmdb_tree.specs.declared.record.TreeRecord.TheVariants.{Data, Empty, Invalid, Node}
use Rattle.mmdb_reader.specs.File.{Database, tree_of, before_ipv4, data_length}
use Rattle.mmdb_tree.specs.Tree.{walk}
use Rattle.mmdb_tree.specs.Records.{record_of}
use Rattle.mmdb_reader.specs.Leaves.{IsLeaf}

-- An address's bits, the highest first. In an IPv6 database an IPv4 address has 96 zero bits before it.
abbrev pub address_bits : Database → IpAddr → List Bool
address_bits db (V4 a) = before_ipv4 db ++ bits_of_address (V4 a)
address_bits db (V6 a) = bits_of_address (V6 a)

-- IPv6 is asked of an IPv6 database alone.
abbrev pub CanAsk : Database → IpAddr → Type 0
CanAsk db (V4 a) = ⊤
CanAsk db (V6 a) = db.metadata.ip_version ≡ 6

-- where a number of the tree leads
abbrev pub record_at : Database → ℕ → TreeRecord
record_at db number = record_of db.metadata.node_count (data_length db) number

-- A lookup finds no data where the walk of a full address is still on a node.
abbrev pub for_lookup : TreeRecord → TreeRecord
for_lookup (Node number) = Empty
for_lookup Empty = Empty
for_lookup (Data offset) = Data offset
for_lookup Invalid = Invalid

-- What a lookup finds where a walk ended on this number: a value at an offset of the data section, no data, or a number
-- that is no place of the data section.
unfoldable pub outcome_of : Database → ℕ → TreeRecord
outcome_of db number = for_lookup (record_at db number)

-- The database may be asked for the address, the leaf is the one on its bits, and it has that outcome.
pub record Answers (db : Database) (address : IpAddr) (leaf : List Bool) (outcome : TreeRecord) : Type 0 where
  pub can_ask : CanAsk db address
  pub is_leaf : IsLeaf db leaf
  pub on_address : IsPrefix leaf (address_bits db address)
  pub outcome_is : outcome_of db (walk (tree_of db) leaf) ≡ outcome

-- the leaf on the address's bits has a number that is no place of the data section
abbrev pub IsInvalidAt : Database → IpAddr → Type 0
IsInvalidAt db address = (leaf : List Bool) × Answers db address leaf Invalid

-- the outcome that an optional offset means
abbrev pub outcome_at : Option ℕ → TreeRecord
outcome_at (Some offset) = Data offset
outcome_at None = Empty

-- The first bits of an address of the database that begins with those of this one: as `address_bits`,
-- with the bits of the address cut after `prefix` of its own.
abbrev pub block_at : Database → IpAddr → ℕ → List Bool
block_at db (V4 a) prefix = before_ipv4 db ++ take prefix (bits_of_address (V4 a))
block_at db (V6 a) prefix = take prefix (bits_of_address (V6 a))
