use Rattle.std.proofs.Common.{rules, ◌≡◌, sym, subst}
use Rattle.mmdb_section.specs.declared.moved.Place.TheVariants as places
use Rattle.mmdb_section.specs.Moved.{HasPlace}
use Rattle.mmdb_section.proofs.MovedLemmas.{by_pointer, by_line}
use Rattle.mmdb_section.proofs.moved.put_place.Goals as goal

pub returns-in_ok-push_pointer-in-Some-At : goal.returns-in_ok-push_pointer-in-Some-At
returns-in_ok-push_pointer-in-Some-At c =
    let a = c.in_ok-push_pointer-in-Some-At.ensures.says in
    let is : c.in-Some-At.field-0.now ≡ places.At c.in-Some-At.to = search rules in
    let has = subst (HasPlace c.args.moved.now c.args.from) is c.in-Some-At.ensures.found in
    record { more = a.more; grown = a.grown; is = by_pointer c.args.moved.now c.args.from c.in-Some-At.to a.more has a.is }

pub returns-in_ok-extend_from_slice-in-Some-InLine : goal.returns-in_ok-extend_from_slice-in-Some-InLine
returns-in_ok-extend_from_slice-in-Some-InLine c =
    let is : c.in-Some-InLine.field-0.now ≡ places.InLine c.in-Some-InLine.bytes = search rules in
    let has = subst (HasPlace c.args.moved.now c.args.from) is c.in-Some-InLine.ensures.found in
    record { more = c.deref.result.now; grown = c.in_ok-extend_from_slice-in-Some-InLine.ensures.items; is = by_line c.args.moved.now c.args.from c.in-Some-InLine.bytes c.deref.result.now has (sym c.deref.ensures.value) }
