use Rattle.std.proofs.Common.{◌≡◌, ◌∷◌, ◌++◌, get_or, take}
use Rattle.std.specs.Net.Text.{groups_text}
use Rattle.mmdb_net.proofs.text.put_short_groups.Given as goal

abbrev pub invariant-loop-segment : goal.invariant-loop-segment
invariant-loop-segment l =
    l.out.items ≡ l.fn.out.items ++ groups_text (get_or l.segments 0 0 ∷ take l.segment-index l.rest)
