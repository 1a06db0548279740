use Rattle.std.proofs.Common.{◌≡◌, List, refl, sym, subst}
use Rattle.mmdb_section.specs.declared.moved.Moved.{Moved}
use Rattle.mmdb_section.specs.declared.moved.Place.TheVariants as places
use Rattle.mmdb_section.specs.Moved.{HasPlace, AreInOrder}
use Rattle.mmdb_section.proofs.moved.MovedSection.offset.Goals as goal

pub returns-in_err-to-clause-none : goal.returns-in_err-to-clause-none
returns-in_err-to-clause-none c = λ is tiles moved to moves.
    c.in_err-to.ensures.none refl (subst AreInOrder (sym c.deref.ensures.value) moved.ordered) (places.At to) (subst (λ (ms : List Moved). HasPlace ms c.args.from (places.At to)) (sym c.deref.ensures.value) moves)

pub returns-in-InLine-clause-none : goal.returns-in-InLine-clause-none
returns-in-InLine-clause-none c = λ is tiles moved to moves.
    let found : HasPlace c.args.self.now.moved.items c.args.from c.in_ok-to.field-0.now = subst (λ (ms : List Moved). HasPlace ms c.args.from c.in_ok-to.field-0.now) c.deref.ensures.value c.in_ok-to.ensures.found in
    let line = subst (HasPlace c.args.self.now.moved.items c.args.from) c.in-InLine.is found in
    let same : places.InLine c.in-InLine.field-0 ≡ places.At to = moved.one c.args.from (places.InLine c.in-InLine.field-0) (places.At to) line moves in
    cc
