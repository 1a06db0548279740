use Rattle.std.proofs.Common.{◌≡◌, ◌<◌, ◌+◌, ℕ, true, length, slice_index}
use Rattle.json.specs.Word.{is_space}
use Rattle.mmdb_objects.proofs.objects.last_brace.Given as goal

abbrev pub invariant-loop-behind : goal.invariant-loop-behind
invariant-loop-behind l = (i : ℕ) → length l.text < i + l.behind → i < length l.text → is_space (slice_index l.text i) ≡ true
