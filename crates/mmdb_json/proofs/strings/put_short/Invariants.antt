use Rattle.std.proofs.Common.{◌≡◌, ◌++◌, ◌∷◌, [], length}
use Rattle.json.specs.Print.{escape, quoted}
use Rattle.mmdb_json.specs.Drafts.{IsBehind}
use Rattle.mmdb_json.proofs.strings.put_short.Given as goal

abbrev pub invariant-loop-left : goal.invariant-loop-left
invariant-loop-left l = (l.out.items ++ (escape l.left ++ 34 ∷ []) ≡ l.fn.out.items ++ quoted l.text) × IsBehind l.fn.out.items l.out.items

abbrev pub decreases-loop-left : goal.decreases-loop-left
decreases-loop-left l = length l.left
