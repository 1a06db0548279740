-- Entries, and which offset an address has by them. Addresses are numbers, those of IPv4 below 2 ^ 32.
use Rattle.std.specs.Prelude.{◌≡◌, ◌≢◌, ℕ, ◌^◌, ◌<◌, ◌≤◌, ◌⊎◌, Bool, true, ◌&&◌, List, [], ◌∷◌, Option, Some, None, IfSome, nat_lt, nat_le, if◌then◌else◌, slice_get}
use Rattle.std.specs.List.{AllByRecursion}
use Rattle.mmdb_blocks.specs.declared.block.Block.{Block}
use Rattle.mmdb_blocks.specs.Blocks.{end, IsBlock}
use Rattle.mmdb_nodes.specs.declared.entry.NodeEntry.{NodeEntry}
use Rattle.mmdb_nodes.specs.declared.entry.IpVersion.{IpVersion}
use Rattle.mmdb_nodes.specs.declared.entry.IpVersion.TheVariants.{V4, V6}

-- how many bits an address has
abbrev pub width : IpVersion → ℕ
width V4 = 32
width V6 = 128

-- the addresses of an entry
abbrev pub block_of : NodeEntry → Block
block_of entry = record { first = entry.first; prefix = entry.prefix }

abbrev pub has : NodeEntry → ℕ → Bool
has entry address = nat_le entry.first address && nat_lt address (end (block_of entry))

-- a block of addresses of this version, with an offset of a data section of that length, or with none
pub record IsEntry (version : IpVersion) (data_len : ℕ) (entry : NodeEntry) : Type 0 where
  pub block : IsBlock (block_of entry)
  pub within : end (block_of entry) ≤ 2 ^ width version
  pub offset : IfSome entry.offset (λ offset. offset < data_len)

-- by their first addresses, and of those that begin alike the shorter prefix first
abbrev pub ComesBefore : NodeEntry → NodeEntry → Type 0
ComesBefore one other = (one.first < other.first) ⊎ ((one.first ≡ other.first) × (one.prefix ≤ other.prefix))

abbrev pub IsOrdered : List NodeEntry → Type 0
IsOrdered [] = Unit {0}
IsOrdered (entry ∷ entries) = AllByRecursion (ComesBefore entry) entries × IsOrdered entries

-- The entry has the address, and each other one that has it has a shorter prefix, or the same one and an earlier place.
pub record IsLongest (entries : List NodeEntry) (address : ℕ) (entry : NodeEntry) : Type 0 where
  pub place : ℕ
  pub at : slice_get entries place ≡ Some entry
  pub here : has entry address ≡ true
  pub longest : (j : ℕ) (other : NodeEntry) → slice_get entries j ≡ Some other → has other address ≡ true → (other.prefix < entry.prefix) ⊎ ((other.prefix ≡ entry.prefix) × (j ≤ place))

-- no entry has the address
abbrev pub HasNone : List NodeEntry → ℕ → Type 0
HasNone entries address = (j : ℕ) (entry : NodeEntry) → slice_get entries j ≡ Some entry → has entry address ≢ true

-- the offset that an address has: that of the longest prefix, of equal ones the last; none where no entry has the address, or
-- that one has none
abbrev pub Gives : List NodeEntry → ℕ → Option ℕ → Type 0
Gives entries address found = (HasNone entries address × (found ≡ None)) ⊎ ((entry : NodeEntry) × IsLongest entries address entry × (found ≡ entry.offset))

-- the offset of the last entry that has an address, or what was found before: in order that is the one of the longest prefix
abbrev pub offset_after : Option ℕ → List NodeEntry → ℕ → Option ℕ
offset_after found [] address = found
offset_after found (entry ∷ entries) address = offset_after (if has entry address then entry.offset else found) entries address

abbrev pub offset_in : List NodeEntry → ℕ → Option ℕ
offset_in entries address = offset_after None entries address
