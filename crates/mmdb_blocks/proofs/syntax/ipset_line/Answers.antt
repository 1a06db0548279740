use Rattle.std.proofs.Common.{rules, append_assoc}
use Rattle.mmdb_blocks.proofs.syntax.ipset_line.Goals as goal

pub returns-in-Swap : goal.returns-in-Swap
returns-in-Swap c = rw c.in-Swap.is (simp append_assoc (search rules))

pub returns-in-Destroy : goal.returns-in-Destroy
returns-in-Destroy c = rw c.in-Destroy.is (simp append_assoc (search rules))
