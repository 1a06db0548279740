use Rattle.std.proofs.Common.{◌≡◌, None, arith, ◌∙◌, subst}
use Rattle.std.proofs.lemmas.List.{length-set}
use Rattle.std.proofs.lemmas.Result.{err_from_is_err_and}
use Rattle.mmdb_query.specs.Reading.{value_of, values_of}
use Rattle.mmdb_query_forms.specs.Puts.{PutsRead, PutsFound}
use Rattle.mmdb_query_forms.proofs.KeptLaws.{kept_of_place, cache_put, none_there, some_there, unread_there, apart_map}
use Rattle.mmdb_query_forms.proofs.kept.put_first.Goals as goal

pub put_value_at-requires : goal.put_value_at-requires
put_value_at-requires g c =
    kept_of_place c.args.printer.form c.args.path.now (g.A.Answer.sections c.args.answer.now) c.loop-place.caches.items c.loop-place.place c.index_mut.result.now c.loop-place.invariant.kept (omega arith) c.index_mut.ensures.value

pub returns-in_err-put_value_at-clause-unread : goal.returns-in_err-put_value_at-clause-unread
returns-in_err-put_value_at-clause-unread g c =
    let path = c.args.path.now in
    let sections = g.A.Answer.sections c.args.answer.now in
    let offsets = (g.A.Answer.had c.args.answer.now).offsets in
    let i = c.loop-place.place in
    let long = c.loop-place.invariant.many in
    let many = c.requires.kept.many c.requires.some in
    let p = err_from_is_err_and c.from_residual.result c.from_residual.ensures.1 in
    rw (p.1, p.2) (apart_map (value_of sections offsets i path ≡ None) (values_of sections offsets path ≡ None) c.in_err-put_value_at.field-0.0
    (unread_there path c.args.printer.form sections offsets i (omega (arith, long, many)) c.loop-place.invariant.way) c.in_err-put_value_at.ensures.unread)

pub returns-then-branch-clause-shown : goal.returns-then-branch-clause-shown
returns-then-branch-clause-shown g c =
    let form = c.args.printer.form in
    let path = c.args.path.now in
    let sections = g.A.Answer.sections c.args.answer.now in
    let offsets = (g.A.Answer.had c.args.answer.now).offsets in
    let i = c.loop-place.place in
    let new = c.put_value_at.new.out.items in
    let long = c.loop-place.invariant.many in
    let many = c.requires.kept.many c.requires.some in
    let found = subst (λ f. PutsFound form (value_of sections offsets i path) f c.loop-place.out.items new) c.if-branch.true c.in_ok-put_value_at.ensures.found in
    subst (λ t. PutsRead form (values_of sections offsets path) t new) c.loop-place.invariant.same
    (some_there path form sections offsets i c.loop-place.out.items new (omega (arith, long, many)) c.loop-place.invariant.way found)

pub loop-place-preserved : goal.loop-place-preserved
loop-place-preserved g c =
    let form = c.args.printer.form in
    let path = c.args.path.now in
    let sections = g.A.Answer.sections c.args.answer.now in
    let offsets = (g.A.Answer.had c.args.answer.now).offsets in
    let i = c.loop-place.place in
    let caches = c.loop-place.caches.items in
    let new = c.put_value_at.new.out.items in
    let long = c.loop-place.invariant.many in
    let many = c.requires.kept.many c.requires.some in
    let found = subst (λ f. PutsFound form (value_of sections offsets i path) f c.loop-place.out.items new) c.if-branch.false c.in_ok-put_value_at.ensures.found in
    record {
      many = length-set caches i c.put_value_at.new.cache ∙ long;
      kept = cache_put form path sections caches i c.put_value_at.new.cache c.loop-place.invariant.kept (omega arith) c.put_value_at.ensures.kept;
      way = none_there path form sections offsets i c.loop-place.out.items new (omega (arith, long, many)) c.loop-place.invariant.way found;
      same = found.1 ∙ c.loop-place.invariant.same;
    }
