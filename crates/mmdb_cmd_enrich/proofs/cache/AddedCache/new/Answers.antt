use Rattle.mmdb_cmd_enrich.proofs.KeptLaws.{nothing_kept}
use Rattle.mmdb_cmd_enrich.proofs.cache.AddedCache.new.Goals as goal

pub returns : goal.returns
returns c = λ wanted. nothing_kept wanted _ c.loop.invariant.empty
