-- Walks of several addresses side by side ("Search Lookup Algorithm" of the MaxMind DB File Format
-- Specification 2.0).
use Rattle.std.specs.Prelude.{ℕ, ◌<◌, Bool, List, length, slice_index_or}
use Rattle.std.specs.declared.net.ip_addr.IpAddr.{IpAddr}
use Rattle.mmdb_net.specs.Address.{bits_of_address}
use Rattle.mmdb_tree.specs.declared.group.FoundLeaf.{FoundLeaf}
use Rattle.mmdb_tree.specs.Tree.{SearchTree}
use Rattle.mmdb_tree.specs.Descents.{Walks, Descends}

-- The walk along these bits has ended as the leaf says.
abbrev pub HasEnded : SearchTree → ℕ → List Bool → FoundLeaf → Type 0
HasEnded tree start bits leaf = Descends tree start bits leaf.taken leaf.number

-- Each walk along the bits of an address that had come to the old place ends at the new one.
abbrev pub AllEnd : SearchTree → List IpAddr → List FoundLeaf → List FoundLeaf → Type 0
AllEnd tree addresses old new =
    (i : ℕ) (a : IpAddr) (d : FoundLeaf) (start : ℕ) → i < length addresses
    → Walks tree start (bits_of_address (slice_index_or addresses i a)) (slice_index_or old i d).taken (slice_index_or old i d).number
    → HasEnded tree start (bits_of_address (slice_index_or addresses i a)) (slice_index_or new i d)

-- this many bytes of nodes are taken to lie in a core's share of the caches
abbrev pub most_cached : ℕ
most_cached = 16777216
