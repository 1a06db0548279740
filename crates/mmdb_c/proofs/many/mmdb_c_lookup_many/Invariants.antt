use Rattle.std.proofs.Common.{◌≡◌, ℕ, ◌<◌, length, slice_index_or}
use Rattle.mmdb_c.specs.declared.db.Found.{Found}
use Rattle.mmdb_c.specs.declared.many.Address.{Address}
use Rattle.mmdb_c.specs.Many.{ReportsGiven}
use Rattle.mmdb_c.proofs.many.mmdb_c_lookup_many.Given as goal

abbrev pub invariant-loop-i : goal.invariant-loop-i
invariant-loop-i l = record {
  long : length l.found ≡ length l.fn.found;
  done : (j : ℕ) (d : Found) → j < l.i → (a : Address) → ReportsGiven l.db.file.now (slice_index_or l.addresses j a) (slice_index_or l.found j d);
}
