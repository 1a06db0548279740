-- What rows say of an address, which is 128 bits: before those of IPv4 are 96 zeros ("IPv4 addresses in an IPv6 tree" of the
-- MaxMind DB File Format Specification 2.0).
use Rattle.std.specs.Prelude.{◌≡◌, ℕ, ◌-◌, ◌<◌, ◌≤◌, ◌⊎◌, Bool, List, ◌++◌, length, Option, Some, None, slice_get}
use Rattle.std.specs.declared.net.ip_addr.IpAddr.{IpAddr}
use Rattle.mmdb_net.specs.Bits.{zero_bits, IsPrefix}
use Rattle.mmdb_net.specs.Address.{address_width, bits_of_address}
use Rattle.mmdb_blocks.specs.Networks.{network_bits}
use Rattle.mmdb_format.specs.Unfolding.{Tree}
use Rattle.mmdb_value.specs.declared.any_value.Value.{Value}
use Rattle.mmdb_value.specs.Values.{value_tree}
use Rattle.mmdb_writer.specs.declared.row.Row.{Row}

-- the bits of an address, written with 128 bits
abbrev pub wide_bits : IpAddr → List Bool
wide_bits address = zero_bits (128 - address_width address) ++ bits_of_address address

-- how many bits the addresses of a row begin with
abbrev pub prefix_of : Row → ℕ
prefix_of row = length (network_bits row.network)

-- the row's network has the address
abbrev pub Has : Row → List Bool → Type 0
Has row address = IsPrefix (network_bits row.network) address

-- The row has the address, and each other one that has it has a shorter prefix, or the same one and an earlier place.
pub record IsRowOf (rows : List Row) (address : List Bool) (row : Row) : Type 0 where
  pub place : ℕ
  pub at : slice_get rows place ≡ Some row
  pub here : Has row address
  pub longest : (j : ℕ) (other : Row) → slice_get rows j ≡ Some other → Has other address → (prefix_of other < prefix_of row) ⊎ ((prefix_of other ≡ prefix_of row) × (j ≤ place))

-- no row has the address
abbrev pub HasNoRow : List Row → List Bool → Type 0
HasNoRow rows address = (j : ℕ) (row : Row) → slice_get rows j ≡ Some row → ¬ Has row address

-- the value of an index, or none
abbrev pub IsValueOf : List Value → Option ℕ → Option Tree → Type 0
IsValueOf values None v = v ≡ None
IsValueOf values (Some index) v = (value : Value) × (slice_get values index ≡ Some value) × (v ≡ Some (value_tree value))

-- The value that an address has: that of the row with the longest prefix, of equal ones of the last; none where no row has the
-- address, or that one has no value.
abbrev pub Says : List Value → List Row → List Bool → Option Tree → Type 0
Says values rows address v = (HasNoRow rows address × (v ≡ None)) ⊎ ((row : Row) × IsRowOf rows address row × IsValueOf values row.value v)
