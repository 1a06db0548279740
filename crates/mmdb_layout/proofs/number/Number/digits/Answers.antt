use Rattle.std.proofs.Common.{rules, arith, ◌≡◌, ◌-◌, ◌++◌, ℕ, List, length, take, refl, subst, sym, ap, ◌∙◌, length-append}
use Rattle.std.specs.Str.Parse.{AllDigits, digits_value}
use Rattle.std.specs.Vec.{vec_len}
use Rattle.fast_float.proofs.Rows.{AllDigits-append}
use Rattle.mmdb_layout.proofs.DigitLaws.{zeros, padded, padded_all, padded_worth, padded_long, put_together}
use Rattle.mmdb_layout.proofs.number.Number.digits.Goals as goal

pub returns : goal.returns
returns c =
    let whole : List ℕ = c.args.self.now.numeral.whole in
    let fraction : List ℕ = c.args.self.now.numeral.fraction in
    let before : ℕ = c.args.size - c.args.zeros - c.count.result in
    let count = c.count.ensures.value in
    let room = c.requires in
    let first : c.in_ok-digits.digits.items ≡ zeros before = search rules in
    let joined : c.extend_from_slice-2.new.self.items ≡ (zeros before ++ whole) ++ fraction = rw (c.in_ok-extend_from_slice-2.ensures.items, c.in_ok-extend_from_slice.ensures.items, first, c.whole.ensures.value, c.fraction.ensures.value) refl in
    let long : vec_len c.extend_from_slice-2.new.self ≡ length ((zeros before ++ whole) ++ fraction) = search rules in
    let made : c.resize.new.self.items ≡ padded before (whole ++ fraction) c.args.zeros =
    c.in_ok-resize.ensures.items
    ∙ ap (λ (l : List ℕ). take c.args.size l ++ zeros (c.args.size - vec_len c.extend_from_slice-2.new.self)) joined
    ∙ ap (λ n. take c.args.size ((zeros before ++ whole) ++ fraction) ++ zeros (c.args.size - n)) long
    ∙ put_together before c.args.zeros c.args.size whole fraction (omega (arith, count, room)) in
    let w = subst (AllDigits 10) c.whole.ensures.value c.whole.ensures.digits in
    let f = subst (AllDigits 10) c.fraction.ensures.value c.fraction.ensures.digits in
    record {
      all = subst (AllDigits 10) (sym made) (padded_all before (whole ++ fraction) c.args.zeros (AllDigits-append whole fraction w f));
      wide = ap length made ∙ padded_long before (whole ++ fraction) c.args.zeros ∙ omega (arith, count, room, length-append whole fraction);
      value = ap (digits_value 10) made ∙ padded_worth before (whole ++ fraction) c.args.zeros;
    }
