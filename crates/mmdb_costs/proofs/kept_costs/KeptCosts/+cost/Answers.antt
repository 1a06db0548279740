use Rattle.std.proofs.Common.{◌≡◌, ◌+◌, ◌-◌, Some, refl, sym, subst, ◌∙◌, arith}
use Rattle.mmdb_format.specs.Pointer.{pointer_at}
use Rattle.mmdb_costs.specs.Working.{HasCost, HasKeyCost}
use Rattle.mmdb_costs.proofs.Adding.{pointer_costs, contained_array, contained_map, elements_go_on, elements_end, pairs_go_on, pairs_end}
use Rattle.mmdb_costs.proofs.kept_costs.KeptCosts.+cost.Goals as goal

pub elements-loop-i-preserved : goal.elements-loop-i-preserved
elements-loop-i-preserved t c =
    let l = c.loop-i in
    record {
      same = c.part_at.ensures.same ∙ l.invariant.same;
      passed = omega arith;
      on = elements_go_on c.args.self.now c.args.start c.args.count (c.args.count - l._i) (c.args.count - (l._i + 1)) l.all c.in_ok-part_at.field-0 c.in_ok-all.all l.invariant.on (omega arith)
          (subst (λ s. HasCost s l.all.end c.in_ok-part_at.field-0) l.invariant.same c.in_ok-part_at.ensures.cost) c.in_ok-all.ensures.end c.in_ok-all.ensures.values c.in_ok-all.ensures.bytes;
    }

pub elements-returns-clause-cost : goal.elements-returns-clause-cost
elements-returns-clause-cost t c = elements_end c.args.self.now c.args.start c.args.count (c.args.count - c.loop-i._i) c.loop-i.all c.loop-i.invariant.on (omega arith)

pub pairs-loop-i-preserved : goal.pairs-loop-i-preserved
pairs-loop-i-preserved t c =
    let l = c.loop-i in
    record {
      same = c.part_at.ensures.same ∙ l.invariant.same;
      passed = omega arith;
      on = pairs_go_on c.args.self.now c.args.start c.args.count (c.args.count - l._i) (c.args.count - (l._i + 1)) l.all c.in_ok-key.key c.in_ok-value.value c.in_ok-and.field-0 c.in_ok-all.all l.invariant.on (omega arith)
          (subst (λ s. HasKeyCost s l.all.end c.in_ok-key.key) (c.self.view_is ∙ l.invariant.same) c.in_ok-key.ensures) (subst (λ s. HasCost s c.in_ok-key.key.end c.in_ok-value.value) l.invariant.same c.in_ok-value.ensures.cost)
          c.in_ok-and.ensures.values c.in_ok-and.ensures.bytes c.in_ok-all.ensures.end c.in_ok-all.ensures.values c.in_ok-all.ensures.bytes;
    }

pub pairs-returns-clause-cost : goal.pairs-returns-clause-cost
pairs-returns-clause-cost t c = pairs_end c.args.self.now c.args.start c.args.count (c.args.count - c.loop-i._i) c.loop-i.all c.loop-i.invariant.on (omega arith)

pub part_of_array-returns-clause-cost : goal.part_of_array-returns-clause-cost
part_of_array-returns-clause-cost t c = contained_array c.args.self.now c.args.header c.in_ok-elements.field-0 c.contained.result c.requires c.in_ok-elements.ensures.cost c.contained.ensures.end c.contained.ensures.values c.contained.ensures.bytes c.contained.ensures.within

pub part_of_map-returns-clause-cost : goal.part_of_map-returns-clause-cost
part_of_map-returns-clause-cost t c = contained_map c.args.self.now c.args.header c.in_ok-pairs.field-0 c.contained.result c.requires c.in_ok-pairs.ensures.cost c.contained.ensures.end c.contained.ensures.values c.contained.ensures.bytes c.contained.ensures.within

pub part_of_pointer-returns-clause-cost : goal.part_of_pointer-returns-clause-cost
part_of_pointer-returns-clause-cost t c =
    let leads : pointer_at c.args.self.now c.args.header.body c.args.header.size ≡ Some c.in-Ok.pointer = subst (λ s. pointer_at s c.args.header.body c.args.header.size ≡ Some c.in-Ok.pointer) c.self.view_is (sym c.in-Ok.ensures) in
    pointer_costs c.args.self.now c.args.header c.in-Ok.pointer _ c.requires.kind leads refl c.in_ok-cost_at.ensures.cost
