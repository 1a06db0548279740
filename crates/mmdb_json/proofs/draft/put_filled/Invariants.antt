use Rattle.std.proofs.Common.{◌≡◌, ◌≤◌, ◌++◌, length, drop}
use Rattle.mmdb_json.specs.Drafts.{filled, IsBehind}
use Rattle.mmdb_json.proofs.draft.put_filled.Given as goal

abbrev pub invariant-loop-hole : goal.invariant-loop-hole
invariant-loop-hole l = (l.from ≤ length l.text) × (l.out.items ++ filled l.from l.text (drop l.hole-index l.holes) ≡ l.fn.out.items ++ filled 0 l.text l.holes) × IsBehind l.fn.out.items l.out.items
