use Rattle.std.proofs.Common.{rules, ◌≡◌, ◌<◌, inr, ℕ, zero, suc, List, [], ◌∷◌, String, Global, Some, length, get_or, string_bytes, sym, ap, subst, arith}
use Rattle.std.specs.List.{slice_get}
use Rattle.mmdb_section.specs.declared.section.SectionError.TheVariants.{TooLarge}
use Rattle.mmdb_writer.specs.Errors.{IsLong, AreLanguagesLarge}
use Rattle.mmdb_writer.proofs.metadata.push_languages.Goals as goal

-- an element by its index
there : {X : Type 0} (xs : List X) (i : ℕ) (x : X) → i < length xs → x ≡ get_or xs i x → slice_get xs i ≡ Some x
there [] i x lt is = absurd (omega arith)
there (y ∷ ys) zero x lt is = ap Some (sym is)
there (y ∷ ys) (suc i) x lt is = there ys i x (omega arith) is

pub returns-in_err-push_sized_text-2 : goal.returns-in_err-push_sized_text-2
returns-in_err-push_sized_text-2 c =
    let language = c.language-item.result in
    let at : slice_get c.args.options.now.languages.items c.loop-language.language-index ≡ Some language =
    subst (λ (xs : List (String Global)). slice_get xs c.loop-language.language-index ≡ Some language) c.deref-language-items.ensures.value (there c.deref-language-items.result.now c.loop-language.language-index language c.loop-language-test.true c.language-item.is) in
    let bytes : c.deref.result.now ≡ string_bytes language = search rules in
    let large : c.in_err-push_sized_text-2.field-0.0 ≡ TooLarge → AreLanguagesLarge c.args.options.now =
    λ is. inr (record { place = c.loop-language.language-index; language = language; at = at; long = subst IsLong bytes (c.in_err-push_sized_text-2.ensures is) }) in
    search rules
