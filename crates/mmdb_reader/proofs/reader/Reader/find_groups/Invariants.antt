use Rattle.std.proofs.Common.{◌≡◌, ℕ, ◌-◌, ◌<◌, ◌≤◌, length, slice_index_or}
use Rattle.std.specs.declared.net.ip_addr.IpAddr.{IpAddr}
use Rattle.mmdb_tree.specs.declared.group.FoundLeaf.{FoundLeaf}
use Rattle.mmdb_reader.specs.Many.{IsFoundFor}
use Rattle.mmdb_reader.proofs.reader.Reader.find_groups.Given as goal

abbrev pub invariant-loop-done : goal.invariant-loop-done
invariant-loop-done g l = record {
  within : l.done ≤ length l.addresses;
  long : length l.leaves ≡ length l.addresses;
  found : (i : ℕ) (a : IpAddr) (d : FoundLeaf) → i < l.done → IsFoundFor l.self (slice_index_or l.addresses i a) (slice_index_or l.leaves i d);
}

abbrev pub decreases-loop-done : goal.decreases-loop-done
decreases-loop-done g l = length l.addresses - l.done
