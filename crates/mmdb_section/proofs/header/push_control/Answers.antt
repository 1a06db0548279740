use Rattle.mmdb_section.specs.Working.{IsControl}
use Rattle.mmdb_section.proofs.StandLemmas.{put}
use Rattle.mmdb_section.proofs.HeaderLemmas.{control_short, control_extended}
use Rattle.mmdb_section.specs.Bytes.{control_bytes}
use Rattle.mmdb_section.proofs.BytesLemmas.{these_put, short_control, extended_control}
use Rattle.mmdb_section.proofs.header.push_control.Goals as goal

pub returns-then-kind-lt8-clause-says : goal.returns-then-kind-lt8-clause-says
returns-then-kind-lt8-clause-says c =
    let e = c.extend_from_slice in
    put e.result (IsControl c.args.kind c.args.low) _ _ _ e.ensures.items (control_short c.args.kind c.args.low c.requires.no_pointer c.requires.low)

pub returns-else-kind-lt8-clause-says : goal.returns-else-kind-lt8-clause-says
returns-else-kind-lt8-clause-says c =
    let e = c.extend_from_slice-else-kind-lt8 in
    put e.result (IsControl c.args.kind c.args.low) _ _ _ e.ensures.items (control_extended c.args.kind c.args.low c.if-kind-lt8.false c.requires.low)

pub returns-then-kind-lt8-clause-bytes : goal.returns-then-kind-lt8-clause-bytes
returns-then-kind-lt8-clause-bytes c =
    let e = c.extend_from_slice in
    these_put e.result _ _ (control_bytes c.args.kind c.args.low) _ e.ensures.items (short_control c.args.kind c.args.low c.if-kind-lt8.true)

pub returns-else-kind-lt8-clause-bytes : goal.returns-else-kind-lt8-clause-bytes
returns-else-kind-lt8-clause-bytes c =
    let e = c.extend_from_slice-else-kind-lt8 in
    these_put e.result _ _ (control_bytes c.args.kind c.args.low) _ e.ensures.items (extended_control c.args.kind c.args.low c.if-kind-lt8.false)
