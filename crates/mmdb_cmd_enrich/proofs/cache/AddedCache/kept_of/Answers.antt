use Rattle.mmdb_decode.proofs.Options.{if_weaker}
use Rattle.mmdb_cmd_enrich.specs.Layers.{IsKey, IsFirstKey}
use Rattle.mmdb_cmd_enrich.proofs.AddedLaws.{held}
use Rattle.mmdb_cmd_enrich.proofs.cache.AddedCache.kept_of.Goals as goal

pub returns-clause-kept : goal.returns-clause-kept
returns-clause-kept c = λ wanted offsets kept are shown.
    c.in-Some-kept.ensures wanted kept shown offsets (held c.args.keys.first c.in-Some.first (IsFirstKey offsets) c.in-Some.is are.1)

pub returns-in-Some-all-clause-kept : goal.returns-in-Some-all-clause-kept
returns-in-Some-all-clause-kept c =
    if_weaker c.kept-in-Some-all.result _ _
    (λ it adds wanted offsets kept are shown. adds wanted kept shown offsets (held c.args.keys.all c.in-Some-all.all (IsKey wanted.databases offsets) c.in-Some-all.is are.0))
    c.kept-in-Some-all.ensures
