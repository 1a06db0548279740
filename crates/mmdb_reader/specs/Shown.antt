-- The network that is shown for an answer ("IPv4 addresses in an IPv6 tree" of the MaxMind DB File Format
-- Specification 2.0).
use Rattle.std.specs.Prelude.{◌≡◌, ℕ, Bool, false, not, ◌&&◌, ◌||◌, List, nat_lt}
use Rattle.std.specs.declared.net.ip_addr.IpAddr.{IpAddr}
use Rattle.std.specs.declared.net.ip_addr.IpAddr.TheVariants.{V4, V6}
use Rattle.std.specs.Net.Addr.{is_ipv4}
use Rattle.mmdb_net.specs.Address.{IsMaskedIp}
use Rattle.mmdb_net.specs.Network.{ip_of, prefix_of}
use Rattle.mmdb_net.specs.declared.network.IpNetwork.{IpNetwork}
use Rattle.mmdb_reader.specs.Lookup.{block_at}
use Rattle.mmdb_reader.specs.File.{Database, tree_of, has_ipv6, before_ipv4}
use Rattle.mmdb_tree.specs.Tree.{walk}
use Rattle.mmdb_tree.specs.Descents.{Descends}

-- Where IPv4 begins: the number to which the 96 zero bits of an IPv6 database lead, and else node 0.
abbrev pub ipv4_start : Database → ℕ
ipv4_start db = walk (tree_of db) (before_ipv4 db)

-- An IPv6 database has an IPv4 subtree where IPv4 begins on a node.
abbrev pub has_ipv4_subtree : Database → Bool
has_ipv4_subtree db = has_ipv6 db && nat_lt (ipv4_start db) db.metadata.node_count

-- How many of the zero bits before IPv4 the walk takes until it leaves the nodes, or all of them.
abbrev pub IsIpv4Depth : Database → ℕ → Type 0
IsIpv4Depth db depth = Descends (tree_of db) 0 (before_ipv4 db) depth (ipv4_start db)

-- The answer for an IPv4 address is shown as an IPv4 network, save in an IPv6 database without an IPv4
-- subtree; that for an IPv6 address is shown as an IPv6 network.
abbrev pub is_shown_as_ipv4 : Database → IpAddr → Bool
is_shown_as_ipv4 db (V4 a) = not (has_ipv6 db) || has_ipv4_subtree db
is_shown_as_ipv4 db (V6 a) = false

-- The bits with which a network's addresses begin in a database: its block, with the zero bits before IPv4
-- before that of an IPv4 network.
abbrev pub block_in : Database → IpNetwork → List Bool
block_in db network = block_at db (ip_of network) (prefix_of network)

-- The network is of that kind, its addresses are those that begin with the leaf, and its own address has
-- zeros after the prefix.
pub record IsShownBy (db : Database) (leaf : List Bool) (as_ipv4 : Bool) (network : IpNetwork) : Type 0 where
  pub kind : is_ipv4 (ip_of network) ≡ as_ipv4
  pub block : block_in db network ≡ leaf
  pub masked : IsMaskedIp (ip_of network) (prefix_of network) (ip_of network)

-- The network shown for an answer to a lookup of the address.
abbrev pub ShowsAnswer : Database → IpAddr → List Bool → IpNetwork → Type 0
ShowsAnswer db address leaf network = IsShownBy db leaf (is_shown_as_ipv4 db address) network
