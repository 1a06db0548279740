-- Addresses as numbers of 32 or 128 bits.
use Rattle.std.specs.Prelude.{◌≡◌, ℕ, ◌-◌, ◌*◌, ◌/◌, ◌^◌, Bool, List, ◌++◌, take, nat_eq, if◌then◌else◌}
use Rattle.mmdb_net.specs.Bits.{bits_of}
use Rattle.mmdb_reader.specs.File.{Database, before_ipv4}

-- The first bits of an address of the database that begins with those of a number of this many bits, cut after `prefix`
-- of its own: as `block_at`.
abbrev pub numbered_block : Database → ℕ → ℕ → ℕ → List Bool
numbered_block db width bits prefix =
    if nat_eq width 32 then before_ipv4 db ++ take prefix (bits_of 32 bits) else take prefix (bits_of 128 bits)

-- all bits of a number of this many bits are 0 after the first `prefix`
abbrev pub HasZerosAfter : ℕ → ℕ → ℕ → Type 0
HasZerosAfter width prefix bits = bits ≡ bits / 2 ^ (width - prefix) * 2 ^ (width - prefix)
