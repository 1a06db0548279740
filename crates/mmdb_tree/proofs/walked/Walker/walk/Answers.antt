use Rattle.std.proofs.Common.{◌≡◌, ◌+◌, suc, length, ℕ, Bool, true, false, not, List, [], ◌∷◌, ◌++◌, ◌==◌, sym, ap, ◌∙◌, refl, subst, arith, length-append}
use Rattle.std.proofs.lemmas.List.{nil_from_length}
use Rattle.std.proofs.lemmas.Bool.{not-true, not-false}
use Rattle.std.specs.List.{list_any}
use Rattle.mmdb_offsets.specs.OffsetSet.{holds}
use Rattle.mmdb_tree.specs.Stops.{WalkedTree, is_fault, most_stops_of}
use Rattle.mmdb_tree.specs.Walked.{walked_by, half_of}
use Rattle.mmdb_tree.specs.Working.{IsStack, IsStopped, Keeps, end_from}
use Rattle.mmdb_tree.specs.declared.walked.Point.{Point}
use Rattle.mmdb_tree.proofs.Points.{IsStack-front, IsStack-push, IsStack-halves, below-room, below-width}
use Rattle.mmdb_tree.proofs.Progress.{IsProgress, progress-start, progress-node, progress-stop, rejected-fault, rejected-many, walked-all, cost-is, length-is, fault-is, offsets-are}
use Rattle.mmdb_tree.proofs.walked.Walker.walk.Goals as goal

abbrev root : Point
root = record { number = 0; prefix = 0; high = false }

start_placed : (walked : WalkedTree) → IsStack walked (root ∷ [])
start_placed walked = IsStack-push walked [] root (λ index d h. absurd (omega arith)) (record { within = omega arith; room = omega arith })

pub loop-stack-init : goal.loop-stack-init
loop-stack-init c =
    let walked = walked_by c.args.self.now in
    let none : c.args.stack.now.items ≡ [] = c.requires.empty in
    let one : c.args.stack.now.items ++ root ∷ [] ≡ root ∷ [] = ap (λ (xs : List Point). xs ++ root ∷ []) none in
    record {
      stops = omega arith;
      placed = subst (IsStack walked) (sym one) (start_placed walked);
      room = c.requires.room;
      taken = omega (arith, ap length none, c.args.stack.now.ok.0);
      set = c.requires.set;
      progress = subst (λ (s : List Point). IsProgress walked s 0 0 (holds c.args.set.now)) (sym one) (progress-start walked root (holds c.args.set.now) refl refl refl c.requires.none);
    }

pub overflow_add-taken : goal.overflow_add-taken
overflow_add-taken c =
    let below = below-width (walked_by c.args.self.now) c.loop-stack.stack.items c.loop-stack.point c.loop-stack.invariant.placed in
    let wide = c.args.self.now.narrow in
    omega (arith, below, wide, c.loop-stack.stack.ok.0, c.loop-stack.invariant.taken, c.loop-stack.invariant.stops, c.args.self.now.few)

pub push_reserved-requires : goal.push_reserved-requires
push_reserved-requires c =
    let below = below-room (walked_by c.args.self.now) c.loop-stack.stack.items c.loop-stack.point c.loop-stack.invariant.placed in
    let inner = (c.if-goes_on.ensures).inner in
    omega (arith, below, inner, c.loop-stack.stack.ok.0, c.loop-stack.invariant.room)

pub loop-stack-smaller-then-goes_on : goal.loop-stack-smaller-then-goes_on
loop-stack-smaller-then-goes_on c =
    let below = below-width (walked_by c.args.self.now) c.loop-stack.stack.items c.loop-stack.point c.loop-stack.invariant.placed in
    let wide = c.args.self.now.narrow in
    omega (arith, below, wide, c.loop-stack.stack.ok.0, c.push_reserved.new.self.ok.0, c.loop-stack.invariant.stops, ap length c.push_reserved.ensures.items, length-append c.loop-stack.stack.items (c.half_of.result ∷ []))

pub loop-stack-preserved-then-goes_on : goal.loop-stack-preserved-then-goes_on
loop-stack-preserved-then-goes_on c =
    let walked = walked_by c.args.self.now in
    let xs = c.loop-stack.stack.items in
    let p = c.loop-stack.point in
    let has : ℕ → Bool = holds c.loop-stack.set in
    let two : c.push_reserved.new.self.items ++ c.half_of-point.result ∷ [] ≡ (xs ++ half_of walked p true ∷ []) ++ half_of walked p false ∷ [] =
    cc (c.push_reserved.ensures.items, c.half_of.ensures, c.half_of-point.ensures) in
    let next = progress-node walked xs p c.loop-stack.taken c.loop-stack.stops has c.loop-stack.invariant.progress (c.if-goes_on.ensures) c.loop-stack.invariant.stops in
    record {
      stops = c.loop-stack.invariant.stops;
      placed = subst (IsStack walked) (sym two) (IsStack-halves walked xs p c.loop-stack.invariant.placed (c.if-goes_on.ensures).inner);
      room = omega (arith, c.push_reserved.ensures.capacity, c.loop-stack.invariant.room);
      taken = omega (arith, c.loop-stack.invariant.taken, ap length c.push_reserved.ensures.items, length-append xs (c.half_of.result ∷ []), c.push_reserved.new.self.ok.0, c.loop-stack.stack.ok.0);
      set = c.loop-stack.invariant.set;
      progress = subst (λ (s : List Point). IsProgress walked s (c.loop-stack.taken + 1) c.loop-stack.stops has) (sym two) next;
    }

pub overflow_add-stops : goal.overflow_add-stops
overflow_add-stops c = omega (arith, c.loop-stack.invariant.stops, c.args.self.now.few)

-- ---- at a fault

fault_of : (c : goal.Then-not-keep) → is_fault (end_from (walked_by c.args.self.now) c.loop-stack.point.number c.loop-stack.point.high) ≡ true
fault_of c = not-false _ (sym c.keep.ensures.kept ∙ c.if-not-keep.true)

pub returns-then-not-keep-clause-verdict : goal.returns-then-not-keep-clause-verdict
returns-then-not-keep-clause-verdict c = λ whole.
    let walked = walked_by c.args.self.now in
    let p = c.loop-stack.point in
    let rejected = rejected-fault walked c.loop-stack.stack.items p c.loop-stack.taken c.loop-stack.stops (holds c.loop-stack.set) c.loop-stack.invariant.progress (end_from walked p.number p.high) refl c.if-goes_on.ensures c.loop-stack.invariant.stops (fault_of c) in
    let wrong : true ≡ false = sym rejected.1 ∙ fault-is walked ∙ whole.faultless in
    cc

pub returns-then-not-keep-clause-counted : goal.returns-then-not-keep-clause-counted
returns-then-not-keep-clause-counted c =
    let walked = walked_by c.args.self.now in
    let p = c.loop-stack.point in
    let rejected = rejected-fault walked c.loop-stack.stack.items p c.loop-stack.taken c.loop-stack.stops (holds c.loop-stack.set) c.loop-stack.invariant.progress (end_from walked p.number p.high) refl c.if-goes_on.ensures c.loop-stack.invariant.stops (fault_of c) in
    rejected.0 ∙ cost-is walked

pub returns-then-not-keep-clause-bound : goal.returns-then-not-keep-clause-bound
returns-then-not-keep-clause-bound c =
    let below = below-width (walked_by c.args.self.now) c.loop-stack.stack.items c.loop-stack.point c.loop-stack.invariant.placed in
    let wide = c.args.self.now.narrow in
    omega (arith, below, wide, c.loop-stack.stack.ok.0, c.loop-stack.invariant.taken, c.loop-stack.invariant.stops)

-- ---- after a stop

stopped : (walked : WalkedTree) (xs : List Point) (p : Point) (taken stops : ℕ) (old new : List Bool) → IsProgress walked (xs ++ p ∷ []) taken stops (holds old) → IsStopped walked p → true ≡ not (is_fault (end_from walked p.number p.high)) → Keeps walked p old new
    → IsProgress walked xs (taken + 1) (stops + 1) (holds new)
stopped walked xs p taken stops old new progress ended fine keeps = progress-stop walked xs p taken stops (holds old) progress (end_from walked p.number p.high) refl ended (holds new) (not-true _ (sym fine)) keeps

pub returns-then-stops-most-clause-verdict : goal.returns-then-stops-most-clause-verdict
returns-then-stops-most-clause-verdict c = λ whole.
    let walked = walked_by c.args.self.now in
    let w = stopped walked c.loop-stack.stack.items c.loop-stack.point c.loop-stack.taken c.loop-stack.stops c.loop-stack.set c.keep.new.set c.loop-stack.invariant.progress c.if-goes_on.ensures (sym c.if-not-keep.false ∙ c.keep.ensures.kept) c.keep.ensures.set in
    let many : c.loop-stack.stops + 1 ≡ suc (most_stops_of walked) = omega (arith, c.if-stops-most.true, c.loop-stack.invariant.stops) in
    let rejected = rejected-many walked c.loop-stack.stack.items (c.loop-stack.taken + 1) (c.loop-stack.stops + 1) (holds c.keep.new.set) w many in
    omega (arith, rejected.1, length-is walked, whole.few)

pub returns-then-stops-most-clause-counted : goal.returns-then-stops-most-clause-counted
returns-then-stops-most-clause-counted c =
    let walked = walked_by c.args.self.now in
    let w = stopped walked c.loop-stack.stack.items c.loop-stack.point c.loop-stack.taken c.loop-stack.stops c.loop-stack.set c.keep.new.set c.loop-stack.invariant.progress c.if-goes_on.ensures (sym c.if-not-keep.false ∙ c.keep.ensures.kept) c.keep.ensures.set in
    let many : c.loop-stack.stops + 1 ≡ suc (most_stops_of walked) = omega (arith, c.if-stops-most.true, c.loop-stack.invariant.stops) in
    (rejected-many walked c.loop-stack.stack.items (c.loop-stack.taken + 1) (c.loop-stack.stops + 1) (holds c.keep.new.set) w many).0 ∙ cost-is walked

pub returns-then-stops-most-clause-bound : goal.returns-then-stops-most-clause-bound
returns-then-stops-most-clause-bound c =
    let below = below-width (walked_by c.args.self.now) c.loop-stack.stack.items c.loop-stack.point c.loop-stack.invariant.placed in
    let wide = c.args.self.now.narrow in
    omega (arith, below, wide, c.loop-stack.stack.ok.0, c.loop-stack.invariant.taken, c.loop-stack.invariant.stops)

pub returns-in_default-clause-verdict : goal.returns-in_default-clause-verdict
returns-in_default-clause-verdict c =
    let walked = walked_by c.args.self.now in
    let w = stopped walked c.loop-stack.stack.items c.loop-stack.point c.loop-stack.taken c.loop-stack.stops c.loop-stack.set c.keep.new.set c.loop-stack.invariant.progress c.if-goes_on.ensures (sym c.if-not-keep.false ∙ c.keep.ensures.kept) c.keep.ensures.set in
    let none : c.loop-stack.stack.items ≡ [] = nil_from_length c.loop-stack.stack.items (omega (arith, c.in_default.ensures.cases.0, c.loop-stack.stack.ok.0)) in
    let all = walked-all walked c.loop-stack.stack.items (c.loop-stack.taken + 1) (c.loop-stack.stops + 1) (holds c.keep.new.set) w none (omega (arith, c.if-stops-most.false)) in (
      record { faultless = sym (fault-is walked) ∙ all.2; few = omega (arith, all.1, length-is walked, c.if-stops-most.false) },
      ((λ q. all.3 q ∙ ap (λ (os : List ℕ). list_any (λ o. o == q) os) (offsets-are walked)), omega (arith, all.1, length-is walked, c.loop-stack.invariant.taken, c.in_default.ensures.cases.0)),
    )

pub returns-in_default-clause-counted : goal.returns-in_default-clause-counted
returns-in_default-clause-counted c =
    let walked = walked_by c.args.self.now in
    let w = stopped walked c.loop-stack.stack.items c.loop-stack.point c.loop-stack.taken c.loop-stack.stops c.loop-stack.set c.keep.new.set c.loop-stack.invariant.progress c.if-goes_on.ensures (sym c.if-not-keep.false ∙ c.keep.ensures.kept) c.keep.ensures.set in
    let none : c.loop-stack.stack.items ≡ [] = nil_from_length c.loop-stack.stack.items (omega (arith, c.in_default.ensures.cases.0, c.loop-stack.stack.ok.0)) in
    (walked-all walked c.loop-stack.stack.items (c.loop-stack.taken + 1) (c.loop-stack.stops + 1) (holds c.keep.new.set) w none (omega (arith, c.if-stops-most.false))).0 ∙ cost-is walked

pub loop-stack-smaller : goal.loop-stack-smaller
loop-stack-smaller c =
    let below = below-width (walked_by c.args.self.now) c.loop-stack.stack.items c.loop-stack.point c.loop-stack.invariant.placed in
    let wide = c.args.self.now.narrow in
    omega (arith, below, wide, c.loop-stack.stack.ok.0, c.loop-stack.invariant.stops, c.in-Some.ensures.cases)

pub loop-stack-preserved : goal.loop-stack-preserved
loop-stack-preserved c =
    let walked = walked_by c.args.self.now in
    let w = stopped walked c.loop-stack.stack.items c.loop-stack.point c.loop-stack.taken c.loop-stack.stops c.loop-stack.set c.keep.new.set c.loop-stack.invariant.progress c.if-goes_on.ensures (sym c.if-not-keep.false ∙ c.keep.ensures.kept) c.keep.ensures.set in
    record {
      stops = omega (arith, c.if-stops-most.false);
      placed = subst (IsStack walked) c.in-Some.ensures.items (IsStack-front walked c.loop-stack.stack.items c.loop-stack.point c.loop-stack.invariant.placed);
      room = omega (arith, c.in-Some.ensures.capacity, c.loop-stack.invariant.room);
      taken = omega (arith, c.loop-stack.invariant.taken, c.in-Some.ensures.cases);
      set = c.keep.ensures.length ∙ c.loop-stack.invariant.set;
      progress = subst (λ (s : List Point). IsProgress walked s (c.loop-stack.taken + 1) (c.loop-stack.stops + 1) (holds c.keep.new.set)) c.in-Some.ensures.items w;
    }
