use Rattle.std.proofs.Common.{◌≡◌, ◌<◌, ◌≤◌, ◌-◌, ℕ, false, length, get_or}
use Rattle.std.specs.declared.net.ip_addr.IpAddr.{IpAddr}
use Rattle.mmdb_addresses.specs.Bytes.{is_run_byte}
use Rattle.mmdb_addresses.specs.Rows.{StandsAt}
use Rattle.mmdb_addresses.proofs.rows.address_anywhere.Given as goal

abbrev pub invariant-loop-end : goal.invariant-loop-end
invariant-loop-end l = record {
  within : l.end ≤ length l.text;
  border : 0 < l.end → is_run_byte (get_or l.text l.end 0) ≡ false;
  none : (at : ℕ) (address : IpAddr) → at < l.end → StandsAt l.text l.goes_on at address → ⊥;
}

abbrev pub decreases-loop-end : goal.decreases-loop-end
decreases-loop-end l = length l.text - l.end
