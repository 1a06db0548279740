use Rattle.std.proofs.Common.{length}
use Rattle.mmdb_section.specs.Working.{IsHeader, WritesParts, WritesArray}
use Rattle.mmdb_section.proofs.StandLemmas.{both_put}
use Rattle.mmdb_section.proofs.WriteLemmas.{array_written}
use Rattle.mmdb_section.specs.Bytes.{header_bytes, parts_bytes}
use Rattle.mmdb_section.proofs.BytesLemmas.{then_put}
use Rattle.mmdb_section.proofs.write.push_array.Goals as goal

pub returns-clause-says : goal.returns-clause-says
returns-clause-says c =
    let parts = c.args.parts.now in
    both_put c.push_parts.result (IsHeader 11 (length parts)) (WritesParts parts) (WritesArray parts) _ _ _ (array_written parts) c.in_ok-push_header.ensures.says c.push_parts.ensures.says

pub returns-clause-bytes : goal.returns-clause-bytes
returns-clause-bytes c =
    let parts = c.args.parts.now in
    then_put c.push_parts.result _ _ _ (header_bytes 11 (length parts)) (parts_bytes parts) c.in_ok-push_header.ensures.bytes c.push_parts.ensures.bytes
