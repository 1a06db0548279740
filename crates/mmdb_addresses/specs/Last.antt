-- The last address before an index. Only contracts of private functions and proofs name it.
use Rattle.std.specs.Prelude.{ℕ, ◌<◌, List, Option, Some, None, false}
use Rattle.std.specs.declared.net.ip_addr.IpAddr.{IpAddr}
use Rattle.mmdb_addresses.specs.Rows.{StandsAt}

-- an address that was found, or else the last one before it
abbrev pub later_of : Option IpAddr → Option IpAddr → Option IpAddr
later_of (Some address) last = Some address
later_of None last = last

-- the last address that begins before an index, or none where none does
abbrev pub IsLastBefore : List ℕ → ℕ → Option IpAddr → Type 0
IsLastBefore text end (Some address) =
    (at : ℕ) × StandsAt text false at address × ((k : ℕ) (other : IpAddr) → at < k → k < end → ¬ StandsAt text false k other)
IsLastBefore text end None = (k : ℕ) (other : IpAddr) → k < end → ¬ StandsAt text false k other
