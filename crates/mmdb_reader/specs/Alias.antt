-- Aliases: other ways to the node where IPv4 begins ("IPv4 addresses in an IPv6 tree" of the MaxMind DB
-- File Format Specification 2.0).
use Rattle.std.specs.Prelude.{◌≡◌, ℕ, ◌≤◌, ◌<◌, ◌^◌, Bool, true, ◌&&◌, ◌==◌, nat_lt, nat_le, List, length}
use Rattle.mmdb_net.specs.Bits.{number_of}
use Rattle.mmdb_reader.specs.File.{Database, tree_of, has_ipv6}
use Rattle.mmdb_tree.specs.Tree.{walk}
use Rattle.mmdb_reader.specs.Shown.{ipv4_start, has_ipv4_subtree}

-- In an IPv6 database where IPv4 begins on a node other than node 0: bits that lead to that node, and are
-- a number of at least 2^32 where zeros fill them to 128.
pub record IsAlias (db : Database) (s : List Bool) : Type 0 where
  pub ipv6 : has_ipv6 db ≡ true
  pub on_node : ipv4_start db < db.metadata.node_count
  pub not_first : 0 < ipv4_start db
  pub short : length s ≤ 128
  pub high : 2 ^ 32 ≤ number_of 128 s
  pub same : walk (tree_of db) s ≡ ipv4_start db

-- the same as a test of the number to which the bits lead and of the number that they give
abbrev pub is_alias_at : Database → ℕ → ℕ → Bool
is_alias_at db number address =
    has_ipv4_subtree db && (nat_lt 0 (ipv4_start db) && (number == ipv4_start db && nat_le (2 ^ 32) address))

unfoldable pub is_alias : Database → List Bool → Bool
is_alias db s = is_alias_at db (walk (tree_of db) s) (number_of 128 s)
