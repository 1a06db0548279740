use Rattle.std.proofs.Common.{arith}
use Rattle.std.proofs.lemmas.Grind.{common_steps}
use Rattle.std.specs.Net.Text.{hex_groups_text}
use Rattle.mmdb_net.proofs.text.put_compressed.Goals as goal

pub returns-then-longest-lt2 : goal.returns-then-longest-lt2
unfolding hex_groups_text
returns-then-longest-lt2 c = grind (arith, common_steps)

pub returns : goal.returns
unfolding hex_groups_text
returns c = grind (arith, common_steps)
