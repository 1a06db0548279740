use Rattle.std.proofs.Common.{◌≡◌, ◌+◌, ◌<◌, true, false, List, [], ◌∷◌, ◌++◌, sym, ap, subst, arith}
use Rattle.std.proofs.lemmas.List.{nil_from_length}
use Rattle.mmdb_tree.specs.Walked.{walked_by, half_of}
use Rattle.mmdb_tree.specs.Working.{GoesOn, IsStopped, Puts}
use Rattle.mmdb_tree.specs.declared.walked.Point.{Point}
use Rattle.mmdb_tree.proofs.Sweeps.{AreNodes, AreNodes-top, AreNodes-push, node-room}
use Rattle.mmdb_tree.proofs.Counts.{IsCounted, count_below, counted-start, counted-on, counted-both, counted-none, counted-many, nodes-put, nodes-on, few-one, few-yes, few-no}
use Rattle.mmdb_tree.proofs.walked.Walker.few_from.Goals as goal

pub returns-then-not-goes_on : goal.returns-then-not-goes_on
returns-then-not-goes_on c = few-one (walked_by c.args.self.now) c.args.start c.args.most c.if-not-goes_on.ensures c.requires.some

pub loop-nodes-init : goal.loop-nodes-init
loop-nodes-init c =
    let walked = walked_by c.args.self.now in
    let start = c.args.start in
    let within = c.requires.within in
    let one : c.args.stack.now.items ++ start ∷ [] ≡ start ∷ [] = ap (λ (xs : List Point). xs ++ start ∷ []) c.requires.empty in
    let first = AreNodes-push walked [] start (λ index d h. absurd (omega arith)) (record { placed = record { within = within; room = omega arith }; on = c.if-not-goes_on.ensures }) in
    record {
      are = subst (AreNodes walked) (sym one) first;
      room = c.requires.room;
      counted = subst (λ (s : List Point). IsCounted walked s 1 (count_below walked start)) (sym one) (counted-start walked start);
    }

pub half_of-lower-requires : goal.half_of-lower-requires
half_of-lower-requires c = (AreNodes-top (walked_by c.args.self.now) c.loop-nodes.stack.items c.loop-nodes.point c.loop-nodes.invariant.are).on

pub half_of-requires : goal.half_of-requires
half_of-requires c = (AreNodes-top (walked_by c.args.self.now) c.loop-nodes.stack.items c.loop-nodes.point c.loop-nodes.invariant.are).on

pub put-requires : goal.put-requires
put-requires c = omega (arith, node-room (walked_by c.args.self.now) c.loop-nodes.stack.items c.loop-nodes.point c.loop-nodes.invariant.are, c.loop-nodes.stack.ok.0, c.loop-nodes.invariant.room)

pub loop-nodes-preserved-then-goes_on : goal.loop-nodes-preserved-then-goes_on
loop-nodes-preserved-then-goes_on c =
    let walked = walked_by c.args.self.now in
    let xs = c.loop-nodes.stack.items in
    let new = c.put.new.stack.items in
    let p = c.loop-nodes.point in
    let on = (AreNodes-top walked xs p c.loop-nodes.invariant.are).on in
    let puts : Puts walked (half_of walked p true) xs new = subst (λ (u : Point). Puts walked u xs new) c.half_of.ensures c.put.ensures.put in
    let lower : half_of walked p false ≡ c.half_of-lower.result = sym c.half_of-lower.ensures in
    record {
      are = subst (λ (l : Point). AreNodes walked (new ++ l ∷ [])) lower (nodes-on walked xs new p puts c.loop-nodes.invariant.are (subst (GoesOn walked) (sym lower) c.if-goes_on.ensures));
      room = omega (arith, c.put.ensures.room, c.loop-nodes.invariant.room);
      counted = subst (λ (l : Point). IsCounted walked (new ++ l ∷ []) (c.loop-nodes.nodes + 1) (count_below walked c.args.start)) lower (counted-on walked xs new p c.loop-nodes.nodes (count_below walked c.args.start) on puts c.loop-nodes.invariant.counted);
    }

pub returns-in_default : goal.returns-in_default
returns-in_default c =
    let walked = walked_by c.args.self.now in
    let xs = c.loop-nodes.stack.items in
    let new = c.put.new.stack.items in
    let p = c.loop-nodes.point in
    let all = count_below walked c.args.start in
    let on = (AreNodes-top walked xs p c.loop-nodes.invariant.are).on in
    let puts : Puts walked (half_of walked p true) xs new = subst (λ (u : Point). Puts walked u xs new) c.half_of.ensures c.put.ensures.put in
    let stopped : IsStopped walked (half_of walked p false) = subst (IsStopped walked) c.half_of-lower.ensures c.if-goes_on.ensures in
    let none : new ≡ [] = nil_from_length new (omega (arith, c.in_default.ensures.cases.0, c.put.new.stack.ok.0)) in
    let few : c.loop-nodes.nodes < c.args.most = omega (arith, c.loop-nodes-test.true) in
    let is = counted-none walked new (c.loop-nodes.nodes + 1) all none (counted-both walked xs new p c.loop-nodes.nodes all on puts stopped c.loop-nodes.invariant.counted) in
    few-yes walked c.args.start c.args.most (omega (arith, is, few))

pub loop-nodes-preserved : goal.loop-nodes-preserved
loop-nodes-preserved c =
    let walked = walked_by c.args.self.now in
    let xs = c.loop-nodes.stack.items in
    let new = c.put.new.stack.items in
    let p = c.loop-nodes.point in
    let all = count_below walked c.args.start in
    let on = (AreNodes-top walked xs p c.loop-nodes.invariant.are).on in
    let puts : Puts walked (half_of walked p true) xs new = subst (λ (u : Point). Puts walked u xs new) c.half_of.ensures c.put.ensures.put in
    let stopped : IsStopped walked (half_of walked p false) = subst (IsStopped walked) c.half_of-lower.ensures c.if-goes_on.ensures in
    record {
      are = subst (AreNodes walked) c.in-Some.ensures.items (nodes-put walked xs new p puts c.loop-nodes.invariant.are);
      room = omega (arith, c.put.ensures.room, c.in-Some.ensures.capacity, c.loop-nodes.invariant.room);
      counted = subst (λ (s : List Point). IsCounted walked s (c.loop-nodes.nodes + 1) all) c.in-Some.ensures.items (counted-both walked xs new p c.loop-nodes.nodes all on puts stopped c.loop-nodes.invariant.counted);
    }

pub returns : goal.returns
returns c =
    let walked = walked_by c.args.self.now in
    let p = c.loop-nodes.point in
    let on = (AreNodes-top walked c.loop-nodes.stack.items p c.loop-nodes.invariant.are).on in
    let many = counted-many walked c.loop-nodes.stack.items p c.loop-nodes.nodes (count_below walked c.args.start) on c.loop-nodes.invariant.counted in
    few-no walked c.args.start c.args.most (omega (arith, many, c.loop-nodes-test.false))
