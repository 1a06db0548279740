use Rattle.std.proofs.Common.{arith}
use Rattle.std.proofs.lemmas.Grind.{common_steps}
use Rattle.std.specs.Net.Text.{hex}
use Rattle.mmdb_net.proofs.text.put_next_short_group.Goals as goal

pub returns-then-segment-ge4096 : goal.returns-then-segment-ge4096
unfolding hex
returns-then-segment-ge4096 c = grind (arith, common_steps)

pub returns-then-segment-ge256 : goal.returns-then-segment-ge256
unfolding hex
returns-then-segment-ge256 c = grind (arith, common_steps)

pub returns-then-segment-ge16 : goal.returns-then-segment-ge16
unfolding hex
returns-then-segment-ge16 c = grind (arith, common_steps)

pub returns-else-segment-ge16 : goal.returns-else-segment-ge16
unfolding hex
returns-else-segment-ge16 c = grind (arith, common_steps)
