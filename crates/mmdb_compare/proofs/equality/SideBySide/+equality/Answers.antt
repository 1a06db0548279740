use Rattle.std.proofs.Common.{rules, ◌≡◌, ◌+◌, ◌-◌, true, refl, sym, ap, subst, arith, ◌∙◌}
use Rattle.std.specs.Option.{is_some}
use Rattle.mmdb_cache.specs.declared.table.Memo.{Memo}
use Rattle.mmdb_compare.specs.declared.equality.KnownMap.{KnownMap}
use Rattle.mmdb_compare.specs.declared.pairs.Offsets.{Offsets}
use Rattle.mmdb_compare.specs.declared.place.PairPosition.{PairPosition}
use Rattle.mmdb_compare.specs.Same.{Sections}
use Rattle.mmdb_compare.specs.SideBySide.{IsSame, IsSameKey, AreSamePairs, AreSamePairsUpTo}
use Rattle.mmdb_compare.proofs.Same.{pairs_go_on, pairs_end, elements_go_on, elements_end, table_same, array_same, end_any}
use Rattle.mmdb_compare.proofs.Known.{known_here, read_known}
use Rattle.mmdb_compare.proofs.equality.SideBySide.+equality.Goals as goal

pub has_same_elements-loop-i-preserved : goal.has_same_elements-loop-i-preserved
has_same_elements-loop-i-preserved t c =
    let l = c.loop-i in
    let value : IsSame l.self l.place c.has_same_value.new.place c.args.depth = search rules in
    record {
      sections = search rules;
      within = omega arith;
      on = elements_go_on c.args.self.now c.args.place.now l.place c.has_same_value.new.place c.args.count (c.args.count - l._i) (c.args.count - (l._i + 1)) c.args.depth l.invariant.on (omega arith) (subst (λ s. IsSame s l.place c.has_same_value.new.place c.args.depth) l.invariant.sections value);
    }

pub has_same_elements-returns-clause-elements : goal.has_same_elements-returns-clause-elements
has_same_elements-returns-clause-elements t c = λ _. elements_end c.args.self.now c.args.place.now c.loop-i.place c.args.count (c.args.count - c.loop-i._i) c.args.depth c.loop-i.invariant.on (omega arith)

pub has_same_pairs-loop-i-preserved : goal.has_same_pairs-loop-i-preserved
has_same_pairs-loop-i-preserved t c =
    let l = c.loop-i in
    let key : IsSameKey l.self l.place c.has_same_key.new.place = search rules in
    let value : IsSame l.self c.has_same_key.new.place c.has_same_value.new.place c.args.depth = search rules in
    record {
      sections = search rules;
      within = omega arith;
      on = pairs_go_on c.args.self.now c.args.place.now l.place c.has_same_key.new.place c.has_same_value.new.place c.args.count (c.args.count - l._i) (c.args.count - (l._i + 1)) c.args.depth l.invariant.on (omega arith) (subst (λ s. IsSameKey s l.place c.has_same_key.new.place) l.invariant.sections key) (subst (λ s. IsSame s c.has_same_key.new.place c.has_same_value.new.place c.args.depth) l.invariant.sections value);
    }

pub has_same_pairs-returns-clause-pairs : goal.has_same_pairs-returns-clause-pairs
has_same_pairs-returns-clause-pairs t c = λ _. pairs_end c.args.self.now c.args.place.now c.loop-i.place c.args.count (c.args.count - c.loop-i._i) c.args.depth c.loop-i.invariant.on (omega arith)

pub has_same_array-returns-clause-same : goal.has_same_array-returns-clause-same
has_same_array-returns-clause-same t c = λ yes.
    let inner = c.has_same_elements-is_same.new.place in
    let left = ap (λ (p : PairPosition). p.left) c.leave.ensures in
    array_same c.args.self.now c.args.place.now c.enter.new.self inner c.leave.new.self c.args.old c.args.new c.args.old.header.size c.args.depth (c.args.depth - 1) c.requires.old c.requires.new c.requires.arrays.0 c.requires.arrays.1 refl (search rules) (omega arith) (search rules) (search rules) (search rules) (c.has_same_elements-is_same.ensures.elements yes) (search rules) (search rules) (omega (arith, left))

pub has_same_map-returns-clause-same : goal.has_same_map-returns-clause-same
has_same_map-returns-clause-same t c = λ yes.
    let inner = c.has_same_pairs-is_same.new.place in
    let left = ap (λ (p : PairPosition). p.left) c.leave-2.ensures in
    table_same c.args.self.now c.args.place.now c.enter.new.self inner c.leave-2.new.self c.args.old c.args.new c.args.old.header.size c.args.depth (c.args.depth - 1) c.requires.old c.requires.new c.requires.maps.0 c.requires.maps.1 refl (search rules) (omega arith) (search rules) (search rules) (search rules) (c.has_same_pairs-is_same.ensures.pairs yes) (search rules) (search rules) (omega (arith, left))

pub has_same_map-returns-then-is_some-2-clause-same : goal.has_same_map-returns-then-is_some-2-clause-same
has_same_map-returns-then-is_some-2-clause-same t c = λ yes.
    let shared = c.has_same_shared-is_same in
    let (behind, pairs, rest) = shared.ensures.pairs yes in
    let left = ap (λ (p : PairPosition). p.left) c.leave.ensures in
    let some_old : is_some c.args.old.after ≡ true = search rules in
    let some_new : is_some c.args.new.after ≡ true = search rules in
    let to_old = ap (λ (p : PairPosition). p.in_old) c.leave.ensures in
    let to_new = ap (λ (p : PairPosition). p.in_new) c.leave.ensures in
    table_same c.args.self.now c.args.place.now c.enter.new.self behind c.leave.new.self c.args.old c.args.new c.args.old.header.size c.args.depth (c.args.depth - 1) c.requires.old c.requires.new c.requires.maps.0 c.requires.maps.1 refl (search rules) (omega arith) (search rules) (search rules) (search rules) pairs (to_old ∙ end_any c.args.old.after _ behind.in_old some_old) (to_new ∙ end_any c.args.new.after _ behind.in_new some_new) (omega (arith, left, rest))

pub has_same_shared-returns-then-map-depth-clause-pairs : goal.has_same_shared-returns-then-map-depth-clause-pairs
has_same_shared-returns-then-map-depth-clause-pairs t c = λ yes.
    let i = c.self.inside in
    let offsets = c.in-Some.offsets in
    let map = c.in-Some-get.map in
    let known : Memo Offsets KnownMap = record { key = offsets; value = map } in
    let is : Sections = record { in_old = i.in_old.now; in_new = i.in_new.now } in
    let at = c.in-Some.ensures in
    let left = c.takes.new.self.left in
    subst (λ s. AreSamePairsUpTo s c.args.place.now left c.args.count c.args.depth) c.self.view_is (known_here is known c.args.place.now left c.args.count c.args.depth (c.self.invariant known c.in-Some-get.ensures) at.0.0 at.1.0 c.if-map-count.true c.if-map-depth.true (c.takes.ensures.left yes))

pub has_same_shared-keep-requires : goal.has_same_shared-keep-requires
has_same_shared-keep-requires t c =
    let after = c.has_same_pairs-2.new in
    let at = c.in-Some.ensures in
    let cost = c.saturating_sub.ensures in
    let pairs = subst (λ s. AreSamePairs s c.args.place.now after.place c.args.count c.args.depth) (sym c.if-not-has_same_pairs.ensures.sections) (c.if-not-has_same_pairs.ensures.pairs refl) in
    read_known after.self c.in-Some.offsets c.args.place.now after.place c.saturating_sub.result c.args.count c.args.depth at.0.0 at.1.0 (omega (arith, cost)) pairs
