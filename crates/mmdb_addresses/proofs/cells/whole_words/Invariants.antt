use Rattle.std.proofs.Common.{◌≡◌, ◌-◌, ◌<◌, ◌≤◌, ℕ, false, length, get_or}
use Rattle.mmdb_addresses.specs.Bytes.{ends_word}
use Rattle.mmdb_addresses.proofs.cells.whole_words.Given as goal

abbrev pub invariant-loop-cut : goal.invariant-loop-cut
invariant-loop-cut l = (k : ℕ) → length l.text - l.cut ≤ k → k < length l.text → ends_word (get_or l.text k 0) ≡ false
