-- How a walk of the whole tree is taken.
use Rattle.std.specs.Prelude.{◌≡◌, ℕ, ◌+◌, ◌*◌, ◌||◌, ◌&&◌, ◌==◌, List, length, Bool, nat_lt}
use Rattle.std.specs.List.{list_any}
use Rattle.mmdb_offsets.specs.OffsetSet.{holds}
use Rattle.mmdb_tree.specs.declared.walked.Point.{Point}
use Rattle.mmdb_tree.specs.declared.walked.Walker.{Walker}
use Rattle.mmdb_tree.specs.declared.walked.WalkEnd.{WalkEnd}
use Rattle.mmdb_tree.specs.declared.walked.WalkEnd.TheVariants.{Whole, AtFault, TooMany}
use Rattle.mmdb_tree.specs.Nodes.{tree_in}
use Rattle.mmdb_tree.specs.Tree.{step}
use Rattle.mmdb_tree.specs.Stops.{WalkedTree, stops_of, offsets, IsClean}

-- the tree that a walker walks
abbrev pub walked_by : Walker → WalkedTree
walked_by walker = record {
  tree = tree_in walker.nodes;
  width = walker.width;
  ipv4_start = walker.ipv4_start;
  data_length = walker.data_len;
}

-- the bits of the upper half are high if one of the first 96 bits is 1
abbrev pub half_of : WalkedTree → Point → Bool → Point
half_of walked p right = record {
  number = step walked.tree p.number right;
  prefix = p.prefix + 1;
  high = p.high || (right && nat_lt (p.prefix + 32) walked.width);
}

-- the set holds exactly the offsets of the stops
abbrev pub HoldsOffsetsOf : WalkedTree → List Bool → Type 0
HoldsOffsetsOf walked set = (q : ℕ) → holds set q ≡ list_any (λ o. o == q) (offsets (stops_of walked))

-- what a walk says that took this many positions
abbrev pub IsVerdict : WalkedTree → List Bool → ℕ → WalkEnd → Type 0
IsVerdict walked set taken Whole = IsClean walked × (HoldsOffsetsOf walked set × (taken + 1 ≡ 2 * length (stops_of walked)))
IsVerdict walked set taken (AtFault number) = ¬ IsClean walked
IsVerdict walked set taken TooMany = ¬ IsClean walked
