use Rattle.std.proofs.Common.{List, refl, subst}
use Rattle.mmdb_section.specs.declared.moved.Moved.{Moved}
use Rattle.mmdb_section.specs.MovedWorking.{MovesValue}
use Rattle.mmdb_section.proofs.MovedLemmas.{taken}
use Rattle.mmdb_section.proofs.StandLemmas.{alone}
use Rattle.mmdb_section.proofs.moved.MovedSection.take.Goals as goal

pub returns : goal.returns
returns c =
    let s = c.args.section.now in
    let put = alone (MovesValue s c.deref.result.now c.args.at c.in_ok-end.end) c.new-value.result.items c.put_value.new.out.items c.new-value.ensures.items c.in_ok-end.ensures in
    let moves = subst (λ (ms : List Moved). MovesValue s ms c.args.at c.in_ok-end.end c.put_value.new.out.items) c.deref.ensures.value put in
    taken s c.args.at c.in_ok-end.end c.args.self.now c.place.new.self _ _ c.put_value.new.out.items c.in-Ok.ensures.1 refl c.in_ok-push.ensures.items moves c.in_ok-place.ensures
