use Rattle.std.proofs.Common.{sym, subst}
use Rattle.mmdb_cmd_enrich.specs.Kept.{AreKept}
use Rattle.mmdb_cmd_enrich.proofs.cache.AddedCache.keep.Goals as goal

pub returns-then-keeps : goal.returns-then-keeps
returns-then-keeps c = λ wanted kept adds. c.put.ensures wanted (subst (AreKept wanted) (sym c.keeps.ensures) kept) adds

pub returns-else-keeps : goal.returns-else-keeps
returns-else-keeps c = λ wanted kept adds. subst (AreKept wanted) (sym c.keeps.ensures) kept
