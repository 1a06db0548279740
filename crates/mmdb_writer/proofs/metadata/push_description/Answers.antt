use Rattle.std.proofs.Common.{rules, ◌≡◌, inl, inr, length, string_bytes, subst}
use Rattle.std.specs.Map.Iter.{deref_pair}
use Rattle.std.proofs.lemmas.Map.Iter.{iter_turn}
use Rattle.mmdb_section.specs.declared.section.SectionError.TheVariants.{TooLarge}
use Rattle.mmdb_writer.specs.Errors.{IsLong, IsDescriptionLarge}
use Rattle.mmdb_writer.proofs.metadata.push_description.Goals as goal

pub returns-in_err-push_sized_text-2 : goal.returns-in_err-push_sized_text-2
returns-in_err-push_sized_text-2 c =
    let entries = c.args.options.now.description.entries in
    let turn =
    iter_turn deref_pair c.args.options.now.description.entries c.loop-language.yielded c.into_iter-language-iterator.result c.loop-language.language-iterator c.next.new.self c.next.result (search rules) c.loop-language.yielded_by (c.in-Some.language, c.in-Some.text) c.in-Some.is c.next.ensures.steps in
    let bytes : c.deref.result.now ≡ string_bytes c.in-Some.language.now = search rules in
    let large : c.in_err-push_sized_text-2.field-0.0 ≡ TooLarge → IsDescriptionLarge c.args.options.now =
    λ is. inr (record { place = length c.loop-language.yielded; language = c.in-Some.language.now; text = c.in-Some.text.now; at = turn.1; long = inl (subst IsLong bytes (c.in_err-push_sized_text-2.ensures is)) }) in
    search rules

pub returns-in_err-push_sized_text-3 : goal.returns-in_err-push_sized_text-3
returns-in_err-push_sized_text-3 c =
    let turn =
    iter_turn deref_pair c.args.options.now.description.entries c.loop-language.yielded c.into_iter-language-iterator.result c.loop-language.language-iterator c.next.new.self c.next.result (search rules) c.loop-language.yielded_by (c.in-Some.language, c.in-Some.text) c.in-Some.is c.next.ensures.steps in
    let bytes : c.deref-in-loop-language.result.now ≡ string_bytes c.in-Some.text.now = search rules in
    let large : c.in_err-push_sized_text-3.field-0.0 ≡ TooLarge → IsDescriptionLarge c.args.options.now =
    λ is. inr (record { place = length c.loop-language.yielded; language = c.in-Some.language.now; text = c.in-Some.text.now; at = turn.1; long = inr (subst IsLong bytes (c.in_err-push_sized_text-3.ensures is)) }) in
    search rules
