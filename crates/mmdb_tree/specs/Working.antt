-- What contracts of private functions and proofs name.
use Rattle.std.specs.Prelude.{◌≡◌, ℕ, ◌+◌, ◌^◌, ◌<◌, ◌≤◌, Bool, List, [], ◌++◌, length, slice_index_or, ◌-◌, false, get_or, slice_index, ◌∷◌, ◌⊎◌, ◌||◌, ◌&&◌, ◌==◌, not, true, nat_lt, nat_le}
use Rattle.mmdb_net.specs.Bits.{bits_of, bit_of, number_of}
use Rattle.mmdb_tree.specs.declared.table.Entry.{Entry}
use Rattle.mmdb_tree.specs.Tree.{SearchTree, walk}
use Rattle.mmdb_tree.specs.Descents.{Descends, Walks}
use Rattle.std.specs.declared.net.ip_addr.IpAddr.{IpAddr}
use Rattle.mmdb_net.specs.Address.{bits_of_address}
use Rattle.mmdb_tree.specs.declared.group.FoundLeaf.{FoundLeaf}
use Rattle.mmdb_tree.specs.Groups.{HasEnded}
use Rattle.std.specs.List.{list_any}
use Rattle.mmdb_offsets.specs.OffsetSet.{holds}
use Rattle.mmdb_tree.specs.declared.record.TreeRecord.{TreeRecord}
use Rattle.mmdb_tree.specs.declared.walked.Point.{Point}
use Rattle.mmdb_tree.specs.Stops.{WalkedTree, stops_below, record_in, is_ipv4_start, offset_of, at_stop, is_fault}

-- Of a walk that had come to the old entry along this many bits, the new one has where it comes by one bit more.
abbrev pub Follows : SearchTree → ℕ → Bool → Entry → Entry → Type 0
Follows tree width bit old new = (start : ℕ) (bits : List Bool) → length bits ≡ width → Descends tree start bits old.taken old.number → Descends tree start (bits ++ (bit ∷ [])) new.taken new.number

-- The first entries are one for each string of this many bits, in the order of the numbers that they give: where the
-- walk from `start` along it ends, and after how many bits.
abbrev pub HasLevel : SearchTree → ℕ → ℕ → List ℕ → List ℕ → Type 0
HasLevel tree start width numbers depths =
    (i : ℕ) → i < 2 ^ width → Descends tree start (bits_of width i) (slice_index depths i) (slice_index numbers i)

-- A walk along these bits that had come to the old place has come to the new one, wherever it began.
abbrev pub WalksOn : SearchTree → List Bool → FoundLeaf → FoundLeaf → Type 0
WalksOn tree bits old new = (start : ℕ) → Walks tree start bits old.taken old.number → Walks tree start bits new.taken new.number

-- A walk along these bits that had come to the old place ends at the new one, wherever it began.
abbrev pub WalksToEnd : SearchTree → List Bool → FoundLeaf → FoundLeaf → Type 0
WalksToEnd tree bits old new = (start : ℕ) → Walks tree start bits old.taken old.number → HasEnded tree start bits new

-- Each has gone on, where its bits are such.
abbrev pub AllWalkOn : (ℕ → List Bool → Type 0) → SearchTree → List FoundLeaf → List FoundLeaf → Type 0
AllWalkOn Along tree old new =
    (i : ℕ) (d : FoundLeaf) (bits : List Bool) → Along i bits → WalksOn tree bits (slice_index_or old i d) (slice_index_or new i d)

-- these are the bits of the address at an index
abbrev pub IsBitsOf : List IpAddr → ℕ → List Bool → Type 0
IsBitsOf addresses i bits = (i < length addresses) × ((a : IpAddr) → bits ≡ bits_of_address (slice_index_or addresses i a))

-- the first 32 bits are those of a word, the highest first
abbrev pub BeginsWith : ℕ → List Bool → Type 0
BeginsWith word bits = (k : ℕ) → k < 32 → (k < length bits) × (get_or bits k false ≡ bit_of word (31 - k))

-- they are those of the word at an index
abbrev pub AlongWords : List ℕ → ℕ → List Bool → Type 0
AlongWords words i bits = BeginsWith (slice_index words i) bits

-- each address begins with the word at its index
abbrev pub AreWordsOf : List IpAddr → List ℕ → Type 0
AreWordsOf addresses words = (i : ℕ) (bits : List Bool) → IsBitsOf addresses i bits → BeginsWith (slice_index words i) bits

-- A number is reached by an alias, where the bits to it are high: 2^32 or more.
abbrev pub is_alias_of : WalkedTree → ℕ → Bool → Bool
is_alias_of walked number high = is_ipv4_start walked.ipv4_start number && high

abbrev pub goes_on_from : WalkedTree → ℕ → Bool → Bool
goes_on_from walked number high = not (is_alias_of walked number high) && nat_lt number walked.tree.node_count

abbrev pub end_from : WalkedTree → ℕ → Bool → TreeRecord
end_from walked number high = at_stop (record_in walked number) (is_alias_of walked number high)

-- the walk goes on below a point
pub record GoesOn (walked : WalkedTree) (p : Point) : Type 0 where
  pub inner : p.prefix < walked.width
  pub on : goes_on_from walked p.number p.high ≡ true

-- it stops there
abbrev pub IsStopped : WalkedTree → Point → Type 0
IsStopped walked p = (walked.width ≤ p.prefix) ⊎ (goes_on_from walked p.number p.high ≡ false)

-- there is room for the point, and for what it can grow into
pub record IsPlaced (walked : WalkedTree) (index : ℕ) (p : Point) : Type 0 where
  pub within : p.prefix ≤ walked.width
  pub room : index + (walked.width - p.prefix) ≤ walked.width

-- each point is placed
abbrev pub IsStack : WalkedTree → List Point → Type 0
IsStack walked stack = (index : ℕ) (d : Point) → index < length stack → IsPlaced walked index (slice_index_or stack index d)

-- the set has grown by the offset of what a walk stops at
abbrev pub Keeps : WalkedTree → Point → List Bool → List Bool → Type 0
Keeps walked p old new = (q : ℕ) → holds new q ≡ (holds old q || list_any (λ o. o == q) (offset_of (end_from walked p.number p.high)))

-- A point is taken: where the walk goes on below it, it is put on the stack, and else what the walk stops at is no
-- fault, and its offset is put into the set.
abbrev pub Takes : WalkedTree → Point → List Point → List Point → List Bool → List Bool → Type 0
Takes walked p old new had has =
    (GoesOn walked p × (new ≡ old ++ p ∷ []) × (has ≡ had))
    ⊎ (IsStopped walked p × (is_fault (end_from walked p.number p.high) ≡ false) × (new ≡ old) × Keeps walked p had has)

-- the point to which bits lead
pub record IsPointAt (walked : WalkedTree) (bits : List Bool) (p : Point) : Type 0 where
  pub number : p.number ≡ walk walked.tree bits
  pub prefix : p.prefix ≡ length bits
  pub high : p.high ≡ nat_le (2 ^ 32) (number_of walked.width bits)

-- whether a walk below a point stops at most so often, wherever the point is
abbrev pub IsFewFrom : WalkedTree → Point → ℕ → Bool → Type 0
IsFewFrom walked p most few =
    (bits : List Bool) → length bits ≤ walked.width → IsPointAt walked bits p
    → few ≡ nat_le (length (stops_below walked (walked.width - length bits) bits)) most

-- A point is put on the stack where the walk goes on below it.
abbrev pub Puts : WalkedTree → Point → List Point → List Point → Type 0
Puts walked p old new = (GoesOn walked p × (new ≡ old ++ p ∷ [])) ⊎ (IsStopped walked p × (new ≡ old))
