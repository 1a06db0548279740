use Rattle.std.proofs.Common.{◌≡◌, ◌+◌, ◌<◌, true, false, List, [], ◌∷◌, ◌++◌, sym, ap, ◌∙◌, refl, subst, arith}
use Rattle.std.proofs.lemmas.List.{nil_from_length}
use Rattle.mmdb_offsets.specs.OffsetSet.{holds}
use Rattle.mmdb_tree.specs.Stops.{most_stops_of}
use Rattle.mmdb_tree.specs.Walked.{walked_by, half_of}
use Rattle.mmdb_tree.specs.Working.{Takes, GoesOn}
use Rattle.mmdb_tree.specs.declared.walked.Point.{Point}
use Rattle.mmdb_tree.proofs.Sweeps.{IsSwept, AreNodes, AreNodes-top, AreNodes-push, node-room, nodes-below, nodes-left, swept-start, swept-node, swept-taken, swept-both, swept-whole}
use Rattle.mmdb_tree.proofs.walked.Walker.sweep_nodes.Goals as goal

abbrev root : Point
root = record { number = 0; prefix = 0; high = false }

pub loop-nodes-init : goal.loop-nodes-init
loop-nodes-init c =
    let walked = walked_by c.args.self.now in
    let one : c.args.stack.now.items ++ root ∷ [] ≡ root ∷ [] = ap (λ (xs : List Point). xs ++ root ∷ []) c.requires.empty in
    let first = AreNodes-push walked [] root (λ index d h. absurd (omega arith)) (record { placed = record { within = omega arith; room = omega arith }; on = c.if-not-goes_on.ensures }) in
    record {
      are = subst (AreNodes walked) (sym one) first;
      kept = refl;
      room = c.requires.room;
      set = c.requires.set;
      swept = subst (λ (s : List Point). IsSwept walked s 1 (holds c.args.set.now)) (sym one) (swept-start walked root (holds c.args.set.now) refl refl refl c.requires.none);
    }

pub half_of-lower-requires : goal.half_of-lower-requires
half_of-lower-requires c = (AreNodes-top (walked_by c.args.self.now) c.loop-nodes.stack.items c.loop-nodes.point c.loop-nodes.invariant.are).on

pub half_of-requires : goal.half_of-requires
half_of-requires c = (AreNodes-top (walked_by c.args.self.now) c.loop-nodes.stack.items c.loop-nodes.point c.loop-nodes.invariant.are).on

pub take-requires-clause-room : goal.take-requires-clause-room
take-requires-clause-room c = omega (arith, node-room (walked_by c.args.self.now) c.loop-nodes.stack.items c.loop-nodes.point c.loop-nodes.invariant.are, c.loop-nodes.stack.ok.0, c.loop-nodes.invariant.room)

pub loop-nodes-preserved-then-goes_on : goal.loop-nodes-preserved-then-goes_on
loop-nodes-preserved-then-goes_on c =
    let walked = walked_by c.args.self.now in
    let xs = c.loop-nodes.stack.items in
    let p = c.loop-nodes.point in
    let on = AreNodes-top walked xs p c.loop-nodes.invariant.are in
    let takes : Takes walked (half_of walked p true) xs c.take.new.stack.items c.loop-nodes.set c.take.new.set =
    subst (λ (u : Point). Takes walked u xs c.take.new.stack.items c.loop-nodes.set c.take.new.set) c.half_of.ensures (c.if-not-take.ensures.taken refl) in
    let lower : half_of walked p false ≡ c.half_of-lower.result = sym c.half_of-lower.ensures in
    let swept = swept-taken walked xs c.take.new.stack.items (half_of walked p true) (half_of walked p false) (c.loop-nodes.nodes + 1) c.loop-nodes.set c.take.new.set takes (swept-node walked xs p c.loop-nodes.nodes (holds c.loop-nodes.set) on.on c.loop-nodes.invariant.swept) in
    record {
      are = subst (λ (l : Point). AreNodes walked (c.take.new.stack.items ++ l ∷ [])) lower (nodes-below walked xs c.take.new.stack.items p c.loop-nodes.set c.take.new.set takes c.loop-nodes.invariant.are (subst (GoesOn walked) (sym lower) c.if-goes_on.ensures));
      kept = c.if-not-take.ensures.room ∙ c.loop-nodes.invariant.kept;
      room = omega (arith, c.if-not-take.ensures.room, c.loop-nodes.invariant.room);
      set = c.if-not-take.ensures.length ∙ c.loop-nodes.invariant.set;
      swept = subst (λ (l : Point). IsSwept walked (c.take.new.stack.items ++ l ∷ []) (c.loop-nodes.nodes + 1) (holds c.take.new.set)) lower swept;
    }

pub returns-in_default-clause-whole : goal.returns-in_default-clause-whole
returns-in_default-clause-whole c =
    let walked = walked_by c.args.self.now in
    let xs = c.loop-nodes.stack.items in
    let p = c.loop-nodes.point in
    let on = AreNodes-top walked xs p c.loop-nodes.invariant.are in
    let takes : Takes walked (half_of walked p true) xs c.take.new.stack.items c.loop-nodes.set c.take.new.set =
    subst (λ (u : Point). Takes walked u xs c.take.new.stack.items c.loop-nodes.set c.take.new.set) c.half_of.ensures (c.if-not-take.ensures.taken refl) in
    let swept = swept-both walked xs c.take.new.stack.items p c.half_of-lower.result c.loop-nodes.nodes c.loop-nodes.set c.take.new.set c.keep.new.set (sym c.half_of-lower.ensures) on.on takes
    c.if-goes_on.ensures (sym c.if-not-keep.false ∙ c.keep.ensures.kept) c.keep.ensures.set c.loop-nodes.invariant.swept in
    let none : c.take.new.stack.items ≡ [] = nil_from_length c.take.new.stack.items (omega (arith, c.in_default.ensures.cases.0, c.take.new.stack.ok.0)) in
    let few : c.loop-nodes.nodes < most_stops_of walked = omega (arith, c.loop-nodes-test.true) in
    (swept-whole walked c.take.new.stack.items c.loop-nodes.nodes c.keep.new.set none few swept).0

pub returns-in_default-clause-counted : goal.returns-in_default-clause-counted
returns-in_default-clause-counted c =
    let walked = walked_by c.args.self.now in
    let xs = c.loop-nodes.stack.items in
    let p = c.loop-nodes.point in
    let on = AreNodes-top walked xs p c.loop-nodes.invariant.are in
    let takes : Takes walked (half_of walked p true) xs c.take.new.stack.items c.loop-nodes.set c.take.new.set =
    subst (λ (u : Point). Takes walked u xs c.take.new.stack.items c.loop-nodes.set c.take.new.set) c.half_of.ensures (c.if-not-take.ensures.taken refl) in
    let swept = swept-both walked xs c.take.new.stack.items p c.half_of-lower.result c.loop-nodes.nodes c.loop-nodes.set c.take.new.set c.keep.new.set (sym c.half_of-lower.ensures) on.on takes
    c.if-goes_on.ensures (sym c.if-not-keep.false ∙ c.keep.ensures.kept) c.keep.ensures.set c.loop-nodes.invariant.swept in
    let none : c.take.new.stack.items ≡ [] = nil_from_length c.take.new.stack.items (omega (arith, c.in_default.ensures.cases.0, c.take.new.stack.ok.0)) in
    let few : c.loop-nodes.nodes < most_stops_of walked = omega (arith, c.loop-nodes-test.true) in
    (swept-whole walked c.take.new.stack.items c.loop-nodes.nodes c.keep.new.set none few swept).1

pub loop-nodes-preserved : goal.loop-nodes-preserved
loop-nodes-preserved c =
    let walked = walked_by c.args.self.now in
    let xs = c.loop-nodes.stack.items in
    let p = c.loop-nodes.point in
    let on = AreNodes-top walked xs p c.loop-nodes.invariant.are in
    let takes : Takes walked (half_of walked p true) xs c.take.new.stack.items c.loop-nodes.set c.take.new.set =
    subst (λ (u : Point). Takes walked u xs c.take.new.stack.items c.loop-nodes.set c.take.new.set) c.half_of.ensures (c.if-not-take.ensures.taken refl) in
    let swept = swept-both walked xs c.take.new.stack.items p c.half_of-lower.result c.loop-nodes.nodes c.loop-nodes.set c.take.new.set c.keep.new.set (sym c.half_of-lower.ensures) on.on takes
    c.if-goes_on.ensures (sym c.if-not-keep.false ∙ c.keep.ensures.kept) c.keep.ensures.set c.loop-nodes.invariant.swept in
    let left = nodes-left walked xs c.take.new.stack.items p c.loop-nodes.set c.take.new.set takes c.loop-nodes.invariant.are in
    record {
      are = subst (AreNodes walked) c.in-Some.ensures.items left;
      kept = c.in-Some.ensures.capacity ∙ c.if-not-take.ensures.room ∙ c.loop-nodes.invariant.kept;
      room = omega (arith, c.if-not-take.ensures.room, c.in-Some.ensures.capacity, c.loop-nodes.invariant.room);
      set = c.keep.ensures.length ∙ c.if-not-take.ensures.length ∙ c.loop-nodes.invariant.set;
      swept = subst (λ (s : List Point). IsSwept walked s (c.loop-nodes.nodes + 1) (holds c.keep.new.set)) c.in-Some.ensures.items swept;
    }
