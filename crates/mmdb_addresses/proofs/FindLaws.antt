-- What is found where there are two ways to be found, or the same thing is said otherwise.
use Rattle.std.proofs.Common.{◌⊎◌, Option, Some, None}
use Rattle.std.proofs.Math.Logic.{inr, ⊎_elim}
use Rattle.std.specs.declared.net.ip_addr.IpAddr.{IpAddr}
use Rattle.mmdb_addresses.specs.Addresses.{Finds}

pub finds_second : (P Q : IpAddr → Type 0) (found : Option IpAddr) → ((a : IpAddr) → P a → ⊥) → Finds Q found → Finds (λ a. P a ⊎ Q a) found
finds_second P Q (Some a) never is = inr is
finds_second P Q None never none = λ a either. ⊎_elim (never a) (none a) either

pub finds_like : (P Q : IpAddr → Type 0) (found : Option IpAddr) → ((a : IpAddr) → P a → Q a) → ((a : IpAddr) → Q a → P a) → Finds P found → Finds Q found
finds_like P Q (Some a) to from is = to a is
finds_like P Q None to from none = λ a is. none a (from a is)
