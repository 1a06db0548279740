use Rattle.std.proofs.Common.{refl}
use Rattle.mmdb_compare.proofs.Known.{known_begin}
use Rattle.mmdb_compare.proofs.equality.SideBySide.of_one.Goals as goal

pub invariant_of-result-2 : goal.invariant_of-result-2
invariant_of-result-2 c = known_begin _ _ _ refl c.in_ok-new.ensures
