-- What opening a file finds, and what a reader keeps beside its source, so that lookups need not find it anew.
use Rattle.std.specs.Prelude.{◌≡◌, ℕ, List, true}
use Rattle.mmdb_tree.specs.declared.table.Table.{Table}
use Rattle.mmdb_tree.specs.Descents.{Descends}
use Rattle.mmdb_tree.specs.Table.{IsTable, IsFull}
use Rattle.mmdb_reader.specs.File.{Database, database, tree_of, has_ipv6, before_ipv4, data_start, IsAccepted}
use Rattle.mmdb_reader.specs.Metadata.{metadata_datum}
use Rattle.mmdb_reader.specs.Source.{IsDatabaseOf}
use Rattle.mmdb_reader.specs.declared.file_layout.FileLayout.{FileLayout}

-- the database of the bytes of a file, by the marker and the metadata of a layout
abbrev pub database_of : List ℕ → FileLayout → Database
database_of file layout = database file layout.marker (metadata_datum layout.metadata)

-- The layout has where a database's data section begins, and where IPv4 begins in its tree and after how many bits.
pub record HasPlaces (db : Database) (layout : FileLayout) : Type 0 where
  pub section : layout.data_start ≡ data_start db
  pub ipv4 : Descends (tree_of db) 0 (before_ipv4 db) layout.ipv4_depth layout.ipv4_start

-- The file is a database, and the layout is its.
pub record IsLayoutOf (file : List ℕ) (layout : FileLayout) : Type 0 where
  pub is : IsDatabaseOf file (database_of file layout)
  pub has : HasPlaces (database_of file layout) layout

-- The layout is that of a database that a reader accepts.
pub record IsLayout (db : Database) (layout : FileLayout) : Type 0 where
  pub accepted : IsAccepted db
  pub marker : layout.marker ≡ db.marker
  pub metadata : metadata_datum layout.metadata ≡ db.metadata
  pub has : HasPlaces db layout

-- where the data section begins, where IPv4 begins and after how many bits, and the tables of the first
-- sixteen bits of IPv4 addresses and, in an IPv6 database, of IPv6 ones
pub record IsReader (db : Database) (section start depth : ℕ) (ipv4_walks ipv6_walks : Table) : Type 0 where
  pub accepted : IsAccepted db
  pub section_is : section ≡ data_start db
  pub ipv4 : Descends (tree_of db) 0 (before_ipv4 db) depth start
  pub ipv4_table : IsTable (tree_of db) start ipv4_walks
  pub ipv6_table : has_ipv6 db ≡ true → IsFull (tree_of db) 0 ipv6_walks.numbers.items ipv6_walks.depths.items
