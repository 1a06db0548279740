use Rattle.std.proofs.lemmas.Result.{err_from_is_err_and}
use Rattle.std.proofs.Common.{◌≡◌, ◌∙◌, refl, sym, subst, arith}
use Rattle.mmdb_query.specs.Kept.{ChoiceFits}
use Rattle.mmdb_query.specs.Taking.{asks}
use Rattle.mmdb_query.specs.Steps.{TakesStep, StopsStep}
use Rattle.mmdb_query.proofs.KeptLaws.{fresh_choice}
use Rattle.mmdb_query.proofs.TakeLaws.{started, step_taken, stepped_back, fits_on, ended, ended_early, too_many, all_same}
use Rattle.mmdb_query.proofs.each.put_each.Goals as goal

pub loop-init : goal.loop-init
loop-init g c =
    let s = g.W.Walk.sections c.args.walk.now in
    let a = asks g.C.Conditions.says g.C.Conditions.is_unread g.S.Sink.puts g.S.Sink.is_unread g.S.Sink.leaves c.args.conditions.now (g.S.Sink.form c.args.sink.now) s in
    record {
      way = started g.W.Walk.comes a c.args.walk.now (g.S.Sink.took c.args.sink.now) (g.O.Write.contents c.args.out.now);
      choice = fresh_choice g.C.Conditions.says s c.new-choice.result c.new-choice.ensures.fresh;
      sink = c.requires;
      conditions = c.new-choice.ensures.conditions;
      form = refl;
      sections = refl;
      few = omega arith;
    }

pub returns-in_default-clause-taken : goal.returns-in_default-clause-taken
returns-in_default-clause-taken g c =
    let s = g.W.Walk.sections c.args.walk.now in
    let a = asks g.C.Conditions.says g.C.Conditions.is_unread g.S.Sink.puts g.S.Sink.is_unread g.S.Sink.leaves c.args.conditions.now (g.S.Sink.form c.args.sink.now) s in
    ended g.W.Walk.comes a c.args.walk.now c.loop.walk (g.S.Sink.took c.args.sink.now) (g.S.Sink.took c.loop.sink) (g.O.Write.contents c.args.out.now) (g.O.Write.contents c.loop.out) c.loop.unread c.loop.counter c.loop.invariant.way c.in_default.ensures.step

pub loop-preserved : goal.loop-preserved
loop-preserved g c =
    let s = g.W.Walk.sections c.args.walk.now in
    let of = asks g.C.Conditions.says g.C.Conditions.is_unread g.S.Sink.puts g.S.Sink.is_unread g.S.Sink.leaves c.args.conditions.now (g.S.Sink.form c.args.sink.now) in
    let sections = g.W.Item.Answer.sections in
    let had = g.W.Item.Answer.had in
    let i = c.loop.invariant in
    let item = c.in-Some.item in
    let old = g.S.Sink.took c.args.sink.now in
    let one = g.S.Sink.took c.loop.sink in
    let new = g.S.Sink.took c.put_item.new.sink in
    let before = g.O.Write.contents c.args.out.now in
    let at = g.O.Write.contents c.loop.out in
    let after = g.O.Write.contents c.put_item.new.out in
    let added = c.in_ok-unread.field-0 in
    let same = all_same sections (g.W.Walk.sections c.loop.walk) s item c.in-Some.ensures.of i.sections in
    let takes : TakesStep of sections had item added one new at after =
    subst (λ m. TakesStep (asks g.C.Conditions.says g.C.Conditions.is_unread g.S.Sink.puts g.S.Sink.is_unread g.S.Sink.leaves m (g.S.Sink.form c.args.sink.now)) sections had item added one new at after) i.conditions
    (subst (λ f. TakesStep (asks g.C.Conditions.says g.C.Conditions.is_unread g.S.Sink.puts g.S.Sink.is_unread g.S.Sink.leaves c.loop.choice.conditions.now f) sections had item added one new at after) i.form
    c.in_ok-unread.ensures.put) in
    let step = stepped_back g.W.Walk.comes had item c.loop.walk c.next_item.new.self c.put_item.new.walk c.in-Some.ensures.step c.put_item.ensures.walk in
    let few = i.few in
    let once = c.in_ok-unread.ensures.few in
    record {
      way = step_taken g.W.Walk.comes of s sections had item c.args.walk.now c.loop.walk c.put_item.new.walk old one new before at after c.loop.unread added c.loop.counter i.way step same takes;
      choice = fits_on sections (ChoiceFits g.C.Conditions.says) s item c.loop.choice c.put_item.new.choice same i.choice c.put_item.ensures.choice;
      sink = fits_on sections g.S.Sink.fits s item c.loop.sink c.put_item.new.sink same i.sink c.put_item.ensures.sink;
      conditions = c.put_item.ensures.same ∙ i.conditions;
      form = c.put_item.ensures.form ∙ i.form;
      sections = subst (λ t. t ≡ s) (sym c.put_item.ensures.sections) (subst (λ t. t ≡ s) (sym c.next_item.ensures.sections) i.sections);
      few = omega (arith, few, once);
    }

pub returns-in_err-unread-clause-failed : goal.returns-in_err-unread-clause-failed
returns-in_err-unread-clause-failed g c =
    let s = g.W.Walk.sections c.args.walk.now in
    let of = asks g.C.Conditions.says g.C.Conditions.is_unread g.S.Sink.puts g.S.Sink.is_unread g.S.Sink.leaves c.args.conditions.now (g.S.Sink.form c.args.sink.now) in
    let sections = g.W.Item.Answer.sections in
    let had = g.W.Item.Answer.had in
    let i = c.loop.invariant in
    let item = c.in-Some.item in
    let one = g.S.Sink.took c.loop.sink in
    let at = g.O.Write.contents c.loop.out in
    let after = g.O.Write.contents c.put_item.new.out in
    let e = c.in_err-unread.field-0.0 in
    let same = all_same sections (g.W.Walk.sections c.loop.walk) s item c.in-Some.ensures.of i.sections in
    let stops : StopsStep of sections had item one at after e =
    subst (λ m. StopsStep (asks g.C.Conditions.says g.C.Conditions.is_unread g.S.Sink.puts g.S.Sink.is_unread g.S.Sink.leaves m (g.S.Sink.form c.args.sink.now)) sections had item one at after e) i.conditions
    (subst (λ f. StopsStep (asks g.C.Conditions.says g.C.Conditions.is_unread g.S.Sink.puts g.S.Sink.is_unread g.S.Sink.leaves c.loop.choice.conditions.now f) sections had item one at after e) i.form
    c.in_err-unread.ensures.put) in
    let p = err_from_is_err_and c.from_residual.result c.from_residual.ensures.1 in
    rw (p.1, p.2) (ended_early g.W.Walk.comes of s sections had item c.args.walk.now c.loop.walk c.next_item.new.self (g.S.Sink.took c.args.sink.now) one (g.O.Write.contents c.args.out.now) at after c.loop.unread c.loop.counter e i.way c.in-Some.ensures.step same stops)

pub returns-clause-failed : goal.returns-clause-failed
returns-clause-failed g c =
    let s = g.W.Walk.sections c.args.walk.now in
    let a = asks g.C.Conditions.says g.C.Conditions.is_unread g.S.Sink.puts g.S.Sink.is_unread g.S.Sink.leaves c.args.conditions.now (g.S.Sink.form c.args.sink.now) s in
    let past = c.loop-test.false in
    let within = c.loop.auto.counter-end in
    too_many g.W.Walk.comes a c.args.walk.now c.loop.walk (g.S.Sink.took c.args.sink.now) (g.S.Sink.took c.loop.sink) (g.O.Write.contents c.args.out.now) (g.O.Write.contents c.loop.out) c.loop.unread c.loop.counter c.loop.invariant.way (omega (arith, past, within))
