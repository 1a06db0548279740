-- What walks a database.
use Rattle.std.specs.Prelude.{◌≡◌}
use Rattle.mmdb_tree.specs.declared.walked.Walker.{Walker}
use Rattle.mmdb_tree.specs.Nodes.{tree_in}
use Rattle.mmdb_reader.specs.File.{Database, tree_of, width}
use Rattle.mmdb_reader.specs.Stops.{aliased_start}

-- what a walker has at hand is the database's
pub record IsWalkerOf (db : Database) (walker : Walker) : Type 0 where
  pub tree : tree_in walker.nodes ≡ tree_of db
  pub count : walker.nodes.node_count ≡ db.metadata.node_count
  pub width : walker.width ≡ width db
  pub start : walker.ipv4_start ≡ aliased_start db
