use Rattle.mmdb_section.specs.Working.{IsControl, IsSize, IsHeader}
use Rattle.mmdb_section.proofs.StandLemmas.{both_put}
use Rattle.mmdb_section.proofs.HeaderLemmas.{header_made}
use Rattle.std.proofs.Common.{ap, ◌++◌, ℕ}
use Rattle.mmdb_section.specs.Bytes.{control_bytes, size_bytes, header_bytes}
use Rattle.mmdb_section.proofs.BytesLemmas.{then_put, same_put}
use Rattle.mmdb_section.proofs.header.push_header.Goals as goal

pub returns-clause-says : goal.returns-clause-says
returns-clause-says c =
    both_put c.push_size.result (IsControl c.args.kind c.low_bits-low.result) (IsSize c.low_bits-low.result c.args.size) (IsHeader c.args.kind c.args.size) _ _ _
    (header_made c.args.kind c.low_bits-low.result c.args.size) c.in_ok-push_control.ensures.says c.push_size.ensures.says

pub returns-clause-bytes : goal.returns-clause-bytes
unfolding header_bytes
returns-clause-bytes c =
    let low = c.low_bits-low.result in
    same_put c.push_size.result _ _ (control_bytes c.args.kind low ++ size_bytes c.args.size) (header_bytes c.args.kind c.args.size)
    (then_put c.push_size.result _ _ _ (control_bytes c.args.kind low) (size_bytes c.args.size) c.in_ok-push_control.ensures.bytes c.push_size.ensures.bytes)
    (ap (λ (n : ℕ). control_bytes c.args.kind n ++ size_bytes c.args.size) c.low_bits-low.ensures.bits)
