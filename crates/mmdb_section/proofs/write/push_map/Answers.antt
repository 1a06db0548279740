use Rattle.std.proofs.Common.{length}
use Rattle.mmdb_section.specs.Working.{IsHeader, WritesPairs, WritesMap}
use Rattle.mmdb_section.proofs.StandLemmas.{both_put}
use Rattle.mmdb_section.proofs.WriteLemmas.{map_written}
use Rattle.mmdb_section.specs.Bytes.{header_bytes, pairs_bytes}
use Rattle.mmdb_section.proofs.BytesLemmas.{then_put}
use Rattle.mmdb_section.proofs.write.push_map.Goals as goal

pub returns-clause-says : goal.returns-clause-says
returns-clause-says c =
    let pairs = c.args.pairs.now in
    both_put c.push_pairs.result (IsHeader 7 (length pairs)) (WritesPairs pairs) (WritesMap pairs) _ _ _ (map_written pairs) c.in_ok-push_header.ensures.says c.push_pairs.ensures.says

pub returns-clause-bytes : goal.returns-clause-bytes
returns-clause-bytes c =
    let pairs = c.args.pairs.now in
    then_put c.push_pairs.result _ _ _ (header_bytes 7 (length pairs)) (pairs_bytes pairs) c.in_ok-push_header.ensures.bytes c.push_pairs.ensures.bytes
