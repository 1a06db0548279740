use Rattle.std.proofs.Common.{rules, append_assoc}
use Rattle.mmdb_blocks.proofs.syntax.nft_opening.Goals as goal

pub returns : goal.returns
returns c = simp append_assoc (search rules)
