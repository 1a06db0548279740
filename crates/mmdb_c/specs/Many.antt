-- What lookups of several addresses report.
use Rattle.std.specs.Prelude.{◌≡◌, ℕ, ◌+◌, ◌*◌, ◌%◌, ◌^◌, ◌<◌, true, false, List, length, slice_index_or}
use Rattle.mmdb_c.specs.declared.db.Found.{Found}
use Rattle.mmdb_c.specs.declared.many.Address.{Address}
use Rattle.mmdb_c.specs.Opened.{ReportsIpv4, ReportsIpv6, HasNoIpv6}

-- the number that the bits of an IPv4 address give, and of an IPv6 address
abbrev pub ipv4_given : Address → ℕ
ipv4_given address = address.low % 2 ^ 32

abbrev pub ipv6_given : Address → ℕ
ipv6_given address = address.high * 2 ^ 64 + address.low

-- For an address of IPv4 the answer of the database that the file is, as for a lookup of it alone; for one of IPv6 too,
-- or the status 11 where the database has IPv4 alone.
pub record ReportsGiven (file : List ℕ) (address : Address) (found : Found) : Type 0 where
  pub ipv4 : address.is_ipv6 ≡ false → ReportsIpv4 file (ipv4_given address) found
  pub ipv6 : address.is_ipv6 ≡ true → ReportsIpv6 file (ipv6_given address) found
  pub not_asked : address.is_ipv6 ≡ true → HasNoIpv6 file → found.status ≡ 11

-- Each address has its answer at its own index.
abbrev pub ReportsEach : List ℕ → List Address → List Found → Type 0
ReportsEach file addresses found =
    (i : ℕ) (a : Address) (d : Found) → i < length addresses → ReportsGiven file (slice_index_or addresses i a) (slice_index_or found i d)

-- ---- how the walks get there
