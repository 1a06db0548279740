-- What C holds of a database that was opened, and what a lookup in it reports.
use Rattle.std.specs.Prelude.{◌≡◌, ◌≢◌, ℕ, ◌+◌, ◌*◌, ◌^◌, ◌<◌, ◌≤◌, List, length, Bool, IsTrue, nat_eq, if◌then◌else◌}
use Rattle.std.specs.declared.net.ip_addr.IpAddr.{IpAddr}
use Rattle.std.specs.declared.net.ip_addr.IpAddr.TheVariants.{V4, V6}
use Rattle.std.specs.declared.net.ipv4_addr.Ipv4Addr.{Ipv4Addr}
use Rattle.std.specs.declared.net.ipv6_addr.Ipv6Addr.{Ipv6Addr}
use Rattle.std.specs.Net.Addr.{ipv4_bits, ipv6_bits}
use Rattle.mmdb_tree.specs.Tree.{SearchTree, search_tree, is_record_size, node_bytes, step}
use Rattle.mmdb_tree.specs.Table.{IsFull}
use Rattle.mmdb_tree.specs.Descents.{Descends}
use Rattle.mmdb_reader.specs.File.{Database, tree_of, data_start, before_ipv4}
use Rattle.mmdb_reader.specs.Source.{IsDatabaseOf}
use Rattle.mmdb_reader.specs.Whole.{IsWhole, HasReadableRecords}
use Rattle.mmdb_tree.specs.declared.record.TreeRecord.{TreeRecord}
use Rattle.mmdb_tree.specs.declared.record.TreeRecord.TheVariants.{Data, Empty, Invalid}
use Rattle.mmdb_reader.specs.Lookup.{Answers}
use Rattle.mmdb_c.specs.declared.db.Facts.{Facts}
use Rattle.mmdb_c.specs.declared.db.Found.{Found}

-- The bytes are those of a database ("Overview" of the MaxMind DB File Format Specification 2.0).
pub record HasDatabase (file : List ℕ) : Type 0 where
  pub db : Database
  pub is : IsDatabaseOf file db

-- The bytes are those of a database that is whole: its metadata, its tree, the separator and all values.
pub record IsWholeFile (file : List ℕ) : Type 0 where
  pub db : Database
  pub is : IsDatabaseOf file db
  pub whole : IsWhole db

-- They are those of a whole database of which each record can be read.
pub record IsReadableFile (file : List ℕ) : Type 0 where
  pub db : Database
  pub is : IsDatabaseOf file db
  pub whole : IsWhole db
  pub readable : HasReadableRecords db

-- the search tree
abbrev pub tree : List ℕ → Facts → SearchTree
tree file facts = search_tree file facts.node_count facts.record_size

-- The numbers are those of the database: of its metadata ("Database Metadata"), where its marker is and its data
-- section begins, and where IPv4 begins in its tree, after how many bits.
pub record IsOf (db : Database) (facts : Facts) : Type 0 where
  pub nodes : facts.node_count ≡ db.metadata.node_count
  pub record_size : facts.record_size ≡ db.metadata.record_size
  pub ip : facts.ip_version ≡ db.metadata.ip_version
  pub major : facts.major_version ≡ db.metadata.binary_format_major_version
  pub minor : facts.minor_version ≡ db.metadata.binary_format_minor_version
  pub built : facts.build_epoch ≡ db.metadata.build_epoch
  pub marker : facts.marker ≡ db.marker
  pub section : facts.data_start ≡ data_start db
  pub before : Descends (tree_of db) 0 (before_ipv4 db) facts.ipv4_depth facts.ipv4_start

-- the numbers are those of the database that the file is
abbrev pub IsOfFile : List ℕ → Facts → Type 0
IsOfFile file facts = (db : Database) → IsDatabaseOf file db → IsOf db facts

-- The tree has room in the file, and each table has where the first sixteen bits of addresses lead.
pub record IsOpened (file : List ℕ) (facts : Facts) (ipv4_numbers ipv4_depths ipv6_numbers ipv6_depths : List ℕ) : Type 0 where
  pub size : IsTrue (is_record_size facts.record_size)
  pub room : facts.node_count * node_bytes facts.record_size + 16 ≤ length file
  pub few : facts.node_count < 2 ^ 32
  pub section : facts.data_start ≤ facts.marker
  pub ipv4_full : facts.ipv4_start < facts.node_count → IsFull (tree file facts) facts.ipv4_start ipv4_numbers ipv4_depths
  pub ipv6_full : facts.ip_version ≡ 6 → IsFull (tree file facts) 0 ipv6_numbers ipv6_depths

-- what the status and the offset say
abbrev pub outcome_reported : Found → TreeRecord
outcome_reported found = if nat_eq found.status 0 then Data found.offset else (if nat_eq found.status 1 then Empty else Invalid)

-- The answer of the database for the address is reported, and how many bits its leaf has. The status is 0, 1 or,
-- where the leaf's number is no offset of the data section, 2.
pub record Reports (db : Database) (address : IpAddr) (found : Found) : Type 0 where
  pub leaf : List Bool
  pub answers : Answers db address leaf (outcome_reported found)
  pub netmask : found.netmask ≡ length leaf
  pub status : found.status ≤ 2

-- the answer of the database that the file is, for the IPv4 address of these bits
abbrev pub ReportsIpv4 : List ℕ → ℕ → Found → Type 0
ReportsIpv4 file bits found =
    (address : Ipv4Addr) (db : Database) → ipv4_bits address ≡ bits → IsDatabaseOf file db → Reports db (V4 address) found

-- the answer of the database that the file is, if it has IPv6, for the IPv6 address of these bits
abbrev pub ReportsIpv6 : List ℕ → ℕ → Found → Type 0
ReportsIpv6 file bits found =
    (address : Ipv6Addr) (db : Database) → ipv6_bits address ≡ bits → IsDatabaseOf file db → db.metadata.ip_version ≡ 6 → Reports db (V6 address) found

-- the file is a database, and has addresses of IPv4 alone
pub record HasNoIpv6 (file : List ℕ) : Type 0 where
  pub db : Database
  pub is : IsDatabaseOf file db
  pub ipv4 : db.metadata.ip_version ≢ 6

-- the number that a node of the database has for a bit ("Node FileLayout")
abbrev pub IsChild : List ℕ → ℕ → Bool → ℕ → Type 0
IsChild file node right number = (db : Database) → IsDatabaseOf file db → number ≡ step (tree_of db) node right
