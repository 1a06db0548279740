use Rattle.std.proofs.Common.{◌≡◌, ℕ, ◌<◌, length, slice_index_or}
use Rattle.std.specs.declared.net.ip_addr.IpAddr.{IpAddr}
use Rattle.mmdb_tree.specs.declared.group.FoundLeaf.{FoundLeaf}
use Rattle.mmdb_reader.specs.Many.{IsFoundFor}
use Rattle.mmdb_reader.proofs.reader.Reader.find_each.Given as goal

abbrev pub invariant-loop-i : goal.invariant-loop-i
invariant-loop-i g l = record {
  long : length l.leaves ≡ length l.addresses;
  found : (j : ℕ) (a : IpAddr) (d : FoundLeaf) → j < l.i → IsFoundFor l.self (slice_index_or l.addresses j a) (slice_index_or l.leaves j d);
}
