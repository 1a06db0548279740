-- How many nodes a lookup reads.
use Rattle.std.specs.Prelude.{◌≡◌, ℕ, ◌+◌, ◌-◌, ◌<◌, ◌≤◌, true, Bool, List, length}
use Rattle.std.specs.declared.net.ip_addr.IpAddr.{IpAddr}
use Rattle.std.specs.Net.Addr.{is_ipv4}
use Rattle.mmdb_reader.specs.File.{Database, before_ipv4}
use Rattle.mmdb_tree.specs.declared.record.TreeRecord.{TreeRecord}
use Rattle.mmdb_reader.specs.Lookup.{Answers}
use Rattle.mmdb_reader.specs.Shown.{ipv4_start}

-- How many of a leaf's bits come after the sixteenth that follows the start of IPv4.
abbrev pub bits_after_table : Database → List Bool → ℕ
bits_after_table db leaf = length leaf - length (before_ipv4 db) - 16

-- A lookup that came to this leaf reads at most one node for each of its bits; and for an IPv4 address,
-- where IPv4 begins on a node, one for each bit after the sixteenth of IPv4.
pub record CountsNodes (db : Database) (address : IpAddr) (leaf : List Bool) (old new : ℕ) : Type 0 where
  pub least : old ≤ new
  pub most : new ≤ old + length leaf
  pub ipv4 : is_ipv4 address ≡ true → ipv4_start db < db.metadata.node_count → new ≡ old + bits_after_table db leaf

-- The nodes are counted of the leaf that is the answer for the address.
abbrev pub CountsAnswer : Database → IpAddr → ℕ → ℕ → Type 0
CountsAnswer db address old new =
    (leaf : List Bool) (outcome : TreeRecord) → Answers db address leaf outcome → CountsNodes db address leaf old new
