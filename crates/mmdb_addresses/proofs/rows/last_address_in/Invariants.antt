use Rattle.std.proofs.Common.{◌≡◌, ◌<◌, ◌≤◌, ◌-◌, false, length, get_or}
use Rattle.mmdb_addresses.specs.Bytes.{is_run_byte}
use Rattle.mmdb_addresses.specs.Last.{IsLastBefore}
use Rattle.mmdb_addresses.proofs.rows.last_address_in.Given as goal

abbrev pub invariant-loop-end : goal.invariant-loop-end
invariant-loop-end l = record {
  within : l.end ≤ length l.text;
  border : 0 < l.end → is_run_byte (get_or l.text l.end 0) ≡ false;
  last : IsLastBefore l.text l.end l.last;
}

abbrev pub decreases-loop-end : goal.decreases-loop-end
decreases-loop-end l = length l.text - l.end
