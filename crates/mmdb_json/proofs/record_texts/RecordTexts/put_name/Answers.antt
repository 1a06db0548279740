use Rattle.std.proofs.Common.{rules, ◌≡◌, refl, subst}
use Rattle.mmdb_json.specs.Appended.{AppendsName}
use Rattle.mmdb_json.proofs.Keeping.{some_goes}
use Rattle.std.specs.Prelude.{Some, IfSome}
use Rattle.mmdb_format.specs.Header.{header_at}
use Rattle.mmdb_format.specs.Pointer.{pointer_at}
use Rattle.mmdb_json.proofs.Containers.{name_behind_pointer, own_name}
use Rattle.mmdb_json.proofs.record_texts.RecordTexts.put_name.Goals as goal

pub returns-then-put_name_at-clause-name : goal.returns-then-put_name_at-clause-name
returns-then-put_name_at-clause-name c =
    let here : header_at c.args.self.now c.args.offset ≡ Some c.in_ok-header.header = search rules in
    let leads : pointer_at c.args.self.now c.in_ok-header.header.body c.in_ok-header.header.size ≡ Some c.in_ok-pointer.pointer = search rules in
    let (end, a) = c.if-put_name_at.ensures.name refl in
    name_behind_pointer c.args.self.now c.args.offset end c.in_ok-header.header c.in_ok-pointer.pointer c.args.budget.now c.put_name_at.new.budget c.args.out.now c.put_name_at.new.out here c.if-header-ne-POINTER.false leads a

pub returns-then-header-ne-POINTER-clause-name : goal.returns-then-header-ne-POINTER-clause-name
returns-then-header-ne-POINTER-clause-name c =
    let s = c.self.inside.section.now in
    subst (λ l. IfSome c.put_own_name.result (λ end. AppendsName l c.args.offset end c.args.budget.now c.put_own_name.new.budget c.args.out.now c.put_own_name.new.out)) c.self.view_is
    (some_goes c.put_own_name.result (λ end a. own_name s c.args.offset end c.args.budget.now c.put_own_name.new.budget c.args.out.now c.put_own_name.new.out a) c.put_own_name.ensures)
