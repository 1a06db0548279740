-- The tree of a database, as it is walked as a whole ("Binary Search Tree Section" and "IPv4 addresses in an IPv6 tree"
-- of the MaxMind DB File Format Specification 2.0).
use Rattle.std.specs.Prelude.{ℕ, ◌+◌, ◌-◌, ◌*◌, ◌&&◌, Bool, List, length, Option, Some, None, if◌then◌else◌, nat_le, nat_lt}
use Rattle.mmdb_tree.specs.Stops.{WalkedTree, Stop, stops_of, stops_below, walk_cost_of}
use Rattle.mmdb_reader.specs.File.{Database, tree_of, width, data_length}
use Rattle.mmdb_reader.specs.Shown.{ipv4_start, has_ipv4_subtree}

-- Aliases lead to where IPv4 begins, in an IPv6 database where that is a node other than node 0.
abbrev pub aliased_start : Database → Option ℕ
aliased_start db = if has_ipv4_subtree db && nat_lt 0 (ipv4_start db) then Some (ipv4_start db) else None

abbrev pub walked_tree : Database → WalkedTree
walked_tree db = record { tree = tree_of db; width = width db; ipv4_start = aliased_start db; data_length = data_length db }

-- All stops of a walk: the topmost aliases, and the leaves that are below no alias.
abbrev pub stops : Database → List Stop
stops db = stops_of (walked_tree db)

-- the stops of a walk that begins at bits
abbrev pub stops_in : Database → List Bool → List Stop
stops_in db bits = stops_below (walked_tree db) (width db - length bits) bits

-- Whether a walk that begins at bits stops at most three times for each node of the tree, and once more.
abbrev pub has_few_stops : Database → List Bool → Bool
has_few_stops db bits = nat_le (length (stops_in db bits)) (3 * db.metadata.node_count + 1)

-- how many stops a tree may have
abbrev pub most_stops : Database → ℕ
most_stops db = 3 * db.metadata.node_count

-- What the walk costs: all stops, or those up to the one at which it fails.
abbrev pub walk_cost : Database → ℕ
walk_cost db = walk_cost_of (walked_tree db)
