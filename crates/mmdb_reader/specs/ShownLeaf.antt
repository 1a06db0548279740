-- The kind of network that shows a leaf of a list ("IPv4 addresses in an IPv6 tree" of the MaxMind DB File
-- Format Specification 2.0).
use Rattle.std.specs.Prelude.{ℕ, zero, suc, Bool, true, false, not, ◌&&◌, ◌||◌, List, [], ◌∷◌}
use Rattle.mmdb_reader.specs.File.{Database, has_ipv6}
use Rattle.mmdb_reader.specs.Shown.{has_ipv4_subtree}

-- the bits begin with this many zeros
unfoldable pub begins_with_zeros : ℕ → List Bool → Bool
begins_with_zeros zero bits = true
begins_with_zeros (suc count) [] = false
begins_with_zeros (suc count) (x ∷ bits) = not x && begins_with_zeros count bits

-- All leaves of an IPv4 database are shown as IPv4 networks, and those of an IPv6 database with an IPv4
-- subtree that begin with 96 zeros; all others as IPv6 networks.
abbrev pub is_leaf_shown_as_ipv4 : Database → List Bool → Bool
is_leaf_shown_as_ipv4 db leaf = not (has_ipv6 db) || has_ipv4_subtree db && begins_with_zeros 96 leaf
