use Rattle.std.proofs.Common.{rules, ◌≡◌, [], ◌++◌, Some, None, true, false, get_or, length, sym, ap, ◌∙◌, subst}
use Rattle.mmdb_query.specs.Reading.{reads_in, value_found, value_of}
use Rattle.mmdb_query_forms.specs.Kept.{has_value}
use Rattle.mmdb_query_forms.specs.Puts.{PutsRead, PutsFound, PutsKept}
use Rattle.mmdb_query_forms.proofs.KeptLaws.{put_found}
use Rattle.mmdb_query_forms.proofs.kept.put_record_at.Goals as goal

pub returns-in-Some-true-clause-shown : goal.returns-in-Some-true-clause-shown
returns-in-Some-true-clause-shown g c =
    let form = c.args.printer.form in
    let s = get_or (g.A.Answer.sections c.args.answer.now) c.args.at.place [] in
    let old = c.args.out.now.items in
    let new = c.put_kept.new.out.items in
    let put = subst (λ f. PutsKept form c.args.cache.now c.args.at.offset f old new) (c.in-Some-true.is ∙ ap Some c.in-Some-true.field-0-test) (c.in_ok-put_kept.ensures form) in
    let (tree, some, puts) = subst (λ o. PutsFound form (reads_in value_found s o []) true old new) (sym c.requires.offset) (put [] s c.requires.kept) in
    (Some tree, some, puts)

pub returns-in_ok-put_none-in-Some-false-clause-shown : goal.returns-in_ok-put_none-in-Some-false-clause-shown
returns-in_ok-put_none-in-Some-false-clause-shown g c =
    let form = c.args.printer.form in
    let s = get_or (g.A.Answer.sections c.args.answer.now) c.args.at.place [] in
    let old = c.args.out.now.items in
    let new = c.put_kept.new.out.items in
    let put = subst (λ f. PutsKept form c.args.cache.now c.args.at.offset f old new) (c.in-Some-false.is ∙ ap Some c.in-Some-false.field-0-test) (c.in_ok-put_kept.ensures form) in
    let (none, same) = subst (λ o. PutsFound form (reads_in value_found s o []) false old new) (sym c.requires.offset) (put [] s c.requires.kept) in
    let (shown, shows, grown) = c.in_ok-put_none-in-Some-false.ensures in
    (None, none, (shown, shows, grown ∙ ap (λ t. t ++ shown) same))

pub returns-else-not-has_value-clause-shown : goal.returns-else-not-has_value-clause-shown
returns-else-not-has_value-clause-shown g c =
    let form = c.args.printer.form in
    let read = value_of (g.A.Answer.sections c.args.answer.now) (g.A.Answer.had c.args.answer.now).offsets c.args.at.place [] in
    let same = subst (λ f. PutsKept form c.args.cache.now c.args.at.offset f c.args.out.now.items c.put_kept.new.out.items) c.in-None.is (c.in_ok-put_kept.ensures form) in
    subst (λ t. PutsRead form read t c.put_record.new.out.items) same c.in_ok-has_value-in-None.ensures.shown

pub returns-else-not-has_value-clause-kept : goal.returns-else-not-has_value-clause-kept
returns-else-not-has_value-clause-kept g c =
    let form = c.args.printer.form in
    let sections = g.A.Answer.sections c.args.answer.now in
    let s = get_or sections c.args.at.place [] in
    let read = value_of sections (g.A.Answer.had c.args.answer.now).offsets c.args.at.place [] in
    let old = c.put_kept.new.out.items in
    let some : has_value read ≡ true = sym c.in_ok-has_value-in-None.ensures.found ∙ c.if-not-has_value.false in
    let put = put_found form read old c.put_record.new.out.items some c.in_ok-has_value-in-None.ensures.shown in
    let at_offset = subst (λ o. PutsFound form (reads_in value_found s o []) true old c.put_record.new.out.items) c.requires.offset put in
    let found = subst (λ t. PutsFound form (reads_in value_found s (Some c.args.at.offset) []) true old t) (sym c.as_slice.ensures.value) at_offset in
    let start : length old ≡ c.len-start.result = search rules in
    c.keep_text.ensures form [] s old start found c.requires.kept
