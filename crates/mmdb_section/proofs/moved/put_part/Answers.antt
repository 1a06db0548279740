use Rattle.std.proofs.Common.{rules, ◌≡◌, Some}
use Rattle.mmdb_format.specs.Header.{header_at}
use Rattle.mmdb_format.specs.Pointer.{pointer_at}
use Rattle.mmdb_section.specs.MovedWorking.{MovesScalar, MovesPart}
use Rattle.mmdb_section.proofs.MovedLemmas.{scalar_part, pointer_moved}
use Rattle.mmdb_section.proofs.StandLemmas.{weaker_if}
use Rattle.mmdb_section.proofs.moved.put_part.Goals as goal

pub returns-then-header-ne-POINTER : goal.returns-then-header-ne-POINTER
returns-then-header-ne-POINTER c =
    let head : header_at c.args.section.now c.args.at ≡ Some c.in_ok-header.header = search rules in
    weaker_if c.put_scalar.result (MovesScalar c.args.section.now c.in_ok-header.header) (MovesPart c.args.section.now c.args.moved.now c.args.at) _ _ (λ end xs. scalar_part c.args.section.now c.args.moved.now c.args.at c.in_ok-header.header end xs head) c.put_scalar.ensures

pub returns : goal.returns
returns c =
    let head : header_at c.args.section.now c.args.at ≡ Some c.in_ok-header.header = search rules in
    let kind : c.in_ok-header.header.kind ≡ 1 = search rules in
    let leading : pointer_at c.args.section.now c.in_ok-header.header.body c.in_ok-header.header.size ≡ Some c.in_ok-pointer.pointer = search rules in
    let a = c.in_ok-put_place.ensures in
    record { more = a.more; grown = a.grown; is = pointer_moved c.args.section.now c.args.moved.now c.args.at c.in_ok-header.header c.in_ok-pointer.pointer a.more head kind leading a.is }
