use Rattle.std.proofs.Common.{rules}
use Rattle.mmdb_section.specs.Working.{IsPointer}
use Rattle.mmdb_section.proofs.StandLemmas.{put}
use Rattle.mmdb_section.proofs.HeaderLemmas.{pointer_one, pointer_two, pointer_three, pointer_four}
use Rattle.mmdb_section.specs.Bytes.{pointer_bytes}
use Rattle.mmdb_section.proofs.BytesLemmas.{these_put, one_pointer, two_pointer, three_pointer, four_pointer}
use Rattle.mmdb_section.proofs.pointer.push_pointer.Goals as goal

pub returns-then-target-lt2048-clause-says : goal.returns-then-target-lt2048-clause-says
returns-then-target-lt2048-clause-says c =
    let e = c.extend_from_slice in
    put e.result (IsPointer c.args.target) _ _ _ e.ensures.items (pointer_one c.args.target c.if-target-lt2048.true)

pub returns-then-target-lt526336-clause-says : goal.returns-then-target-lt526336-clause-says
returns-then-target-lt526336-clause-says c =
    let e = c.extend_from_slice-then-target-lt526336 in
    put e.result (IsPointer c.args.target) _ _ _ e.ensures.items (pointer_two c.args.target c.if-target-lt2048.false c.if-target-lt526336.true)

pub returns-then-target-lt134744064-clause-says : goal.returns-then-target-lt134744064-clause-says
returns-then-target-lt134744064-clause-says c =
    let e = c.extend_from_slice-then-target-lt134744064 in
    put e.result (IsPointer c.args.target) _ _ _ e.ensures.items (pointer_three c.args.target c.if-target-lt526336.false c.if-target-lt134744064.true)

pub returns-else-target-lt134744064-clause-says : goal.returns-else-target-lt134744064-clause-says
returns-else-target-lt134744064-clause-says c =
    let e = c.extend_from_slice-else-target-lt134744064 in
    put e.result (IsPointer c.args.target) _ _ _ e.ensures.items (pointer_four c.args.target (search rules))

pub returns-then-target-lt2048-clause-bytes : goal.returns-then-target-lt2048-clause-bytes
returns-then-target-lt2048-clause-bytes c =
    let e = c.extend_from_slice in
    these_put e.result _ _ (pointer_bytes c.args.target) _ e.ensures.items (one_pointer c.args.target c.if-target-lt2048.true)

pub returns-then-target-lt526336-clause-bytes : goal.returns-then-target-lt526336-clause-bytes
returns-then-target-lt526336-clause-bytes c =
    let e = c.extend_from_slice-then-target-lt526336 in
    these_put e.result _ _ (pointer_bytes c.args.target) _ e.ensures.items (two_pointer c.args.target c.if-target-lt2048.false c.if-target-lt526336.true)

pub returns-then-target-lt134744064-clause-bytes : goal.returns-then-target-lt134744064-clause-bytes
returns-then-target-lt134744064-clause-bytes c =
    let e = c.extend_from_slice-then-target-lt134744064 in
    these_put e.result _ _ (pointer_bytes c.args.target) _ e.ensures.items (three_pointer c.args.target c.if-target-lt526336.false c.if-target-lt134744064.true)

pub returns-else-target-lt134744064-clause-bytes : goal.returns-else-target-lt134744064-clause-bytes
returns-else-target-lt134744064-clause-bytes c =
    let e = c.extend_from_slice-else-target-lt134744064 in
    these_put e.result _ _ (pointer_bytes c.args.target) _ e.ensures.items (four_pointer c.args.target c.if-target-lt134744064.false)
