use Rattle.std.proofs.Common.{◌≡◌, ℕ, ◌<◌, length, slice_index_or}
use Rattle.std.specs.declared.net.ip_addr.IpAddr.{IpAddr}
use Rattle.mmdb_c.specs.declared.many.Address.{Address}
use Rattle.mmdb_c.specs.Working.{IsIpOf}
use Rattle.mmdb_c.proofs.many.ips_of.Given as goal

abbrev pub invariant-loop-i : goal.invariant-loop-i
invariant-loop-i l = record {
  long : length l.ips ≡ 64;
  done : (j : ℕ) (d : IpAddr) → j < l.i → (a : Address) → IsIpOf (slice_index_or l.addresses j a) (slice_index_or l.ips j d);
}
