use Rattle.std.proofs.Common.{[], IfOk, get_or, subst}
use Rattle.mmdb_query.specs.Reading.{reads_in, value_found, value_of}
use Rattle.mmdb_query_forms.specs.Puts.{PutsFound, PutsKept}
use Rattle.mmdb_query_forms.proofs.kept.put_value_at.Goals as goal

pub returns-in-Some-2-clause-found : goal.returns-in-Some-2-clause-found
returns-in-Some-2-clause-found g c =
    let form = c.args.printer.form in
    let path = c.args.path.now in
    let s = get_or (g.A.Answer.sections c.args.answer.now) c.args.place [] in
    let old = c.args.out.now.items in
    let new = c.put_kept.new.out.items in
    let put = subst (λ f. PutsKept form c.args.cache.now c.in-Some.offset f old new) c.in-Some-2.is (c.in_ok-found.ensures form) in
    subst (λ o. PutsFound form (reads_in value_found s o path) c.in-Some-2.found old new) c.in-Some.ensures (put path s c.requires)

pub returns-in-None-clause-found : goal.returns-in-None-clause-found
returns-in-None-clause-found g c =
    let form = c.args.printer.form in
    let read = value_of (g.A.Answer.sections c.args.answer.now) (g.A.Answer.had c.args.answer.now).offsets c.args.place c.args.path.now in
    let old = c.args.out.now.items in
    let same = subst (λ f. PutsKept form c.args.cache.now c.in-Some.offset f old c.put_kept.new.out.items) c.in-None.is (c.in_ok-found.ensures form) in
    subst (λ t. IfOk c.put_value_anew.result (λ found. PutsFound form read found t c.put_value_anew.new.out.items)) same c.put_value_anew.ensures.found
