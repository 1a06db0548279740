use Rattle.std.proofs.Common.{◌≡◌, ℕ, ◌<◌, List, Bool, length, slice_index}
use Rattle.mmdb_tree.specs.Working.{BeginsWith, IsBitsOf}
use Rattle.mmdb_tree.proofs.group.first_words.Given as goal

abbrev pub invariant-loop-i : goal.invariant-loop-i
invariant-loop-i l = record {
  long : length l.words ≡ 64;
  done : (j : ℕ) (bits : List Bool) → j < l.i → IsBitsOf l.addresses j bits → BeginsWith (slice_index l.words j) bits;
}
