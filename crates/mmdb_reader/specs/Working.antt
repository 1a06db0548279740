-- What contracts of private functions and proofs name.
use Rattle.std.specs.Prelude.{◌≡◌, ℕ, Bool, List, ◌++◌, take, Option, Some, None, ◌+◌, ◌*◌, ◌<◌, ◌≤◌, length, ◌-◌, ◌⊎◌, ◌^◌, zero, suc, [], ◌∷◌, false, if◌then◌else◌, Result, IfSome, IfErr, Ok, Err}
use Rattle.std.specs.declared.net.ip_addr.IpAddr.{IpAddr}
use Rattle.mmdb_net.specs.Bits.{IsPrefix, bits_of}
use Rattle.mmdb_tree.specs.declared.record.TreeRecord.{TreeRecord}
use Rattle.mmdb_tree.specs.declared.record.TreeRecord.TheVariants.{Data, Empty, Invalid}
use Rattle.mmdb_reader.specs.File.{Database, tree_of, IsMarkerAt, width}
use Rattle.mmdb_tree.specs.Tree.{walk, step}
use Rattle.mmdb_reader.specs.Leaves.{IsLeaf}
use Rattle.mmdb_reader.specs.Lookup.{address_bits, CanAsk}
use Rattle.mmdb_reader.specs.Shown.{block_in}
use Rattle.mmdb_decode.specs.Errors.{answer}
use Rattle.mmdb_reader.specs.declared.options.WithinOptions.{WithinOptions}
use Rattle.mmdb_reader.specs.declared.positions.Position.{Position}
use Rattle.mmdb_reader.specs.Listing.{listed, is_hidden}
use Rattle.mmdb_reader.specs.Positions.{bits_to, listed_of_stack, IsPlaced, IsStack}
use Rattle.mmdb_net.specs.Network.{ip_of}
use Rattle.mmdb_net.specs.declared.network.IpNetwork.{IpNetwork}
use Rattle.mmdb_reader.specs.Ranges.{positions_for}
use Rattle.mmdb_format.specs.Error.{OfDatabase, kind_of}
use Rattle.mmdb_format.specs.declared.error.MaxMindDbError.{MaxMindDbError}
use Rattle.mmdb_reader.specs.declared.reader.Leaf.{Leaf}
use Rattle.mmdb_reader.specs.Numbered.{numbered_block}
use Rattle.mmdb_tree.specs.declared.walked.Walked.{Walked}
use Rattle.mmdb_tree.specs.Walked.{HoldsOffsetsOf, IsVerdict}
use Rattle.mmdb_reader.specs.Stops.{walked_tree, walk_cost}

-- the leaf is the one on the address's bits, and its walk leads to that number
pub record IsLeafAt (db : Database) (address : IpAddr) (leaf : List Bool) (number : ℕ) : Type 0 where
  pub can_ask : CanAsk db address
  pub is_leaf : IsLeaf db leaf
  pub on_address : IsPrefix leaf (address_bits db address)
  pub reached : walk (tree_of db) leaf ≡ number

-- the bits that lead to a leaf
abbrev pub block_of : Database → Leaf → List Bool
block_of db leaf = numbered_block db leaf.address.width leaf.address.bits leaf.prefix

-- no marker is in the file
abbrev pub HasNoMarker : List ℕ → Type 0
HasNoMarker file = (offset : ℕ) → ¬ IsMarkerAt file offset

-- the walk goes on below a node that has bits left
abbrev pub HasHalves : Database → Position → Type 0
HasHalves db p = (p.number < db.metadata.node_count) × (p.prefix < width db)

-- the walk ends at a full address, and at what is no node
abbrev pub IsEnd : Database → Position → Type 0
IsEnd db p = (width db ≤ p.prefix) ⊎ (db.metadata.node_count ≤ p.number)

-- the lower or the upper half of a position's addresses
abbrev pub half_of : Database → Position → Bool → Position
half_of db p right = record {
  number = step (tree_of db) p.number right;
  address = p.address + (if right then 2 ^ (width db - p.prefix - 1) else 0);
  prefix = p.prefix + 1;
}

-- how many positions a walk below one passes at most
unfoldable pub positions_below : ℕ → ℕ
positions_below zero = 1
positions_below (suc left) = suc (positions_below left + positions_below left)

unfoldable pub positions_left : ℕ → List Position → ℕ
positions_left width [] = 0
positions_left width (p ∷ below) = positions_left width below + positions_below (width - p.prefix)

-- where the walk below a range begins
pub record IsStart (db : Database) (options : WithinOptions) (range : List Bool) (p : Position) : Type 0 where
  pub placed : IsPlaced db (width db - length range + 1) 0 p
  pub lists : listed_of_stack db options (p ∷ []) ≡ listed db options range

-- the positions list the same leaves, in less or as much walk, and are placed
pub record ListsSame (db : Database) (options : WithinOptions) (capacity : ℕ) (old new : List Position) : Type 0 where
  pub placed : IsStack db capacity new
  pub lists : listed_of_stack db options new ≡ listed_of_stack db options old
  pub left : positions_left (width db) new ≤ positions_left (width db) old

-- the last position is a leaf below no alias
pub record IsLowest (db : Database) (options : WithinOptions) (capacity : ℕ) (old stack : List Position) (leaf : Position) : Type 0 where
  pub on : ListsSame db options capacity old (stack ++ leaf ∷ [])
  pub shown : is_hidden db options (bits_to db leaf) ≡ false
  pub ends : IsEnd db leaf

-- an alias was met, below which nothing is listed
pub record IsNothing (db : Database) (options : WithinOptions) (capacity : ℕ) (old stack : List Position) : Type 0 where
  pub placed : IsStack db capacity stack
  pub lists : listed_of_stack db options stack ≡ listed_of_stack db options old
  pub left : positions_left (width db) stack < positions_left (width db) old

-- The database may be asked for the range, whose addresses begin with the first `prefix` bits of the
-- address there.
pub record IsRangeOf (db : Database) (network : IpNetwork) (address prefix : ℕ) : Type 0 where
  pub can_ask : CanAsk db (ip_of network)
  pub block : take prefix (bits_of (width db) address) ≡ block_in db network
  pub within : prefix ≤ width db
  pub positions : width db - prefix + 1 ≡ positions_for network

-- an error is a fault, and an offset is that of a value
abbrev pub finding_of_answer : Option (Result (Option ℕ) MaxMindDbError) → Option TreeRecord
finding_of_answer None = None
finding_of_answer (Some (Err e)) = Some Invalid
finding_of_answer (Some (Ok None)) = Some Empty
finding_of_answer (Some (Ok (Some offset))) = Some (Data offset)

-- each fault is one of the database
abbrev pub FaultsAreOfDatabase : Option (Result (Option ℕ) MaxMindDbError) → Type 0
FaultsAreOfDatabase answer = IfSome answer (λ a. IfErr a (λ e. kind_of e ≡ OfDatabase))

-- the set holds exactly the offsets of the stops
abbrev pub HoldsOffsets : Database → List Bool → Type 0
HoldsOffsets db set = HoldsOffsetsOf (walked_tree db) set

-- what a walk of a whole tree found of it: its end, the offsets in the set, and how many positions it took
pub record IsWalkOf (db : Database) (walked : Walked) (set : List Bool) : Type 0 where
  pub verdict : IsVerdict (walked_tree db) set walked.taken walked.end
  pub counted : walked.taken ≡ walk_cost db
  pub bound : walked.taken ≤ 6 * db.metadata.node_count + 130
