use Rattle.std.proofs.Common.{◌∙◌, refl, sym, ap, subst}
use Rattle.std.proofs.lemmas.Result.{on_ok_weaker}
use Rattle.mmdb_compare.specs.Together.{Abreast}
use Rattle.mmdb_cmd_diff.proofs.Gathering.{IsAlong, along-begins, along-ends, along-part, compared-as, same-refl, same-trans, taken-part}
use Rattle.mmdb_cmd_diff.proofs.comparison.take_all.Goals as goal

pub loop-init : goal.loop-init
loop-init g c = record {
  databases = refl;
  same = same-refl c.args.so_far.now;
  along = λ compared so few at. along-begins c.args.together.now.left c.args.so_far.now c.args.together.now (g.O.Write.contents c.args.out.now) refl at so few;
}

pub loop-preserved : goal.loop-preserved
loop-preserved g c =
    let first = c.args.so_far.now in
    let left = c.args.together.now.left in
    let now = c.loop.so_far in
    let next = c.take_part.new.so_far in
    let before = c.loop.together in
    let after = c.next_part.new.self in
    let kept = c.loop.invariant in
    let part = c.in-Some.part in
    let taken_on = c.in_ok-take_part.ensures in
    record {
      databases = ap (λ t. t.databases) c.take_part.ensures.together ∙ (c.next_part.ensures.databases ∙ kept.databases);
      same = same-trans first now next kept.same c.take_part.ensures.same;
      along = λ compared so few at.
          let along = kept.along compared so few at in
          let compared_now = compared-as first.pairs.shown.sections now.pairs.shown.sections _ _ left (ap (λ z. z.sections) kept.same.shown) (c.next_part.ensures.databases ∙ kept.databases) compared in
          let step = c.in-Some.ensures.next in
          let is_taken = taken-part left first now next before after _ _ (g.O.Write.contents c.take_part.new.out) along kept.same part step in
          let on = taken_on.goes_on left compared_now along.so_far along.few is_taken in
          subst (λ (t : Abreast). IsAlong left first next t (g.O.Write.contents c.args.out.now) (g.O.Write.contents c.take_part.new.out)) (sym c.take_part.ensures.together)
          (along-part left first now next before after _ _ (g.O.Write.contents c.take_part.new.out) along kept.same part step on (taken_on.few along.few));
    }

pub returns-in_default-clause-told : goal.returns-in_default-clause-told
returns-in_default-clause-told g c compared so few at =
    let first = c.args.so_far.now in
    let left = c.args.together.now.left in
    let now = c.loop.so_far in
    let kept = c.loop.invariant in
    let along = kept.along compared so few at in
    let compared_now = compared-as first.pairs.shown.sections now.pairs.shown.sections _ _ left (ap (λ z. z.sections) kept.same.shown) (c.next_part.ensures.databases ∙ kept.databases) compared in
    on_ok_weaker c.compare_waiting.result
    (λ on. along-ends left first now c.compare_waiting.new.so_far c.loop.together c.next_part.new.self _ _ _ along kept.same c.in_default.ensures.next on)
    (c.compare_waiting.ensures.goes_on left compared_now along.so_far)
