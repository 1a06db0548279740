use Rattle.std.proofs.Common.{rules, ◌≡◌, [], Some, true, get_or, length, sym, subst}
use Rattle.mmdb_query.specs.Reading.{reads_in, value_found}
use Rattle.mmdb_value.specs.Values.{value_tree}
use Rattle.mmdb_query_forms.specs.Puts.{PutsFound}
use Rattle.mmdb_query_forms.proofs.kept.put_value_anew.Goals as goal

pub returns-in_ok-put_value-in-Ok-Some-clause-kept : goal.returns-in_ok-put_value-in-Ok-Some-clause-kept
returns-in_ok-put_value-in-Ok-Some-clause-kept g c =
    let form = c.args.printer.form in
    let path = c.args.path.now in
    let s = get_or (g.A.Answer.sections c.args.answer.now) c.args.at.place [] in
    let old = c.args.out.now.items in
    let tree = value_tree c.in-Ok-Some.value in
    let read = rw c.in-Ok-Some.field-0-is at c.in-Ok-Some.ensures in
    let is = subst (λ o. reads_in value_found s o path ≡ Some (Some tree)) c.requires.offset read in
    let found = subst (λ t. PutsFound form (reads_in value_found s (Some c.args.at.offset) path) true old t) (sym c.as_slice.ensures.value) (tree, is, c.in_ok-put_value-in-Ok-Some.ensures) in
    let start : length old ≡ c.len-start.result = search rules in
    c.keep_text.ensures form path s old start found c.requires.kept
