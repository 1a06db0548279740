use Rattle.std.proofs.Common.{◌∙◌, ◌*◌, ◌<◌, ◌/◌, ◌%◌, length, subst, arith}
use Rattle.std.proofs.lemmas.List.{get_or_default}
use Rattle.std.proofs.Math.Nat.{div-add-mod, mod-lt}
use Rattle.mmdb_offsets.specs.OffsetSet.{HasNoneFrom, IsLowest, HasNoBit}
use Rattle.mmdb_offsets.proofs.Words.{word-inside, none-is, none-in-word, next-in-word}
use Rattle.mmdb_offsets.proofs.offset_set.OffsetSet.next_from.Goals as goal

pub returns-then-first-self-clause-next : goal.returns-then-first-self-clause-next
returns-then-first-self-clause-next c = subst (λ s. HasNoneFrom s c.args.first) c.self.view_is (none-is c.self.inside.words.items c.self.inside.len c.args.first c.args.first c.if-first-self.true (λ q from below. absurd (omega arith)))

pub returns-in-Some-clause-next : goal.returns-in-Some-clause-next
returns-in-Some-clause-next c =
    let words = c.self.inside.words.items in
    let inside = word-inside words c.self.inside.len c.args.first c.self.invariant.0 (omega (arith, c.if-first-self.false)) in
    let word = c.index.ensures ∙ get_or_default words (c.args.first / 64) _ 0 inside in
    next-in-word words c.self.inside.len c.args.first (c.args.first / 64) (c.args.first % 64) c.in-Some.bit c.args.self.now c.self.view_is
    (subst (λ w. IsLowest w (c.args.first % 64) c.in-Some.bit) word c.in-Some.ensures) (omega (arith, div-add-mod c.args.first 64)) (λ q from below. absurd (omega (arith, div-add-mod c.args.first 64)))
    c.within.result c.within.ensures.offset

pub loop-index-init : goal.loop-index-init
loop-index-init c =
    let words = c.self.inside.words.items in
    let inside = word-inside words c.self.inside.len c.args.first c.self.invariant.0 (omega (arith, c.if-first-self.false)) in
    let word = c.index.ensures ∙ get_or_default words (c.args.first / 64) _ 0 inside in
    let none = subst (λ w. HasNoBit w (c.args.first % 64)) word c.in_default.ensures in
    record {
      after = omega (arith, div-add-mod c.args.first 64, mod-lt c.args.first {m = 64} (omega arith));
      none = none-in-word words c.args.first (c.args.first / 64) (c.args.first % 64) none (λ q from below. absurd (omega (arith, div-add-mod c.args.first 64)));
    }

pub returns-in-Some-lowest_bit-clause-next : goal.returns-in-Some-lowest_bit-clause-next
returns-in-Some-lowest_bit-clause-next c =
    let words = c.self.inside.words.items in
    let inside : c.loop-index.index < length words = omega (arith, c.loop-index-test.true, c.len-index-end.ensures, c.self.inside.words.ok.0) in
    let word = c.index-in-loop-index.ensures ∙ get_or_default words c.loop-index.index _ 0 inside in
    next-in-word words c.self.inside.len c.args.first c.loop-index.index 0 c.in-Some-lowest_bit.bit c.args.self.now c.self.view_is
    (subst (λ w. IsLowest w 0 c.in-Some-lowest_bit.bit) word c.in-Some-lowest_bit.ensures) (omega (arith, c.loop-index.invariant.after)) (λ q from below. c.loop-index.invariant.none q from (omega arith))
    c.within-in-Some-lowest_bit.result c.within-in-Some-lowest_bit.ensures.offset

pub loop-index-preserved : goal.loop-index-preserved
loop-index-preserved c =
    let words = c.self.inside.words.items in
    let inside : c.loop-index.index < length words = omega (arith, c.loop-index-test.true, c.len-index-end.ensures, c.self.inside.words.ok.0) in
    let word = c.index-in-loop-index.ensures ∙ get_or_default words c.loop-index.index _ 0 inside in
    let none = subst (λ w. HasNoBit w 0) word c.in_default-lowest_bit.ensures in
    record {
      after = omega (arith, c.loop-index.invariant.after);
      none = none-in-word words c.args.first c.loop-index.index 0 none (λ q from below. c.loop-index.invariant.none q from (omega arith));
    }

pub returns-clause-next : goal.returns-clause-next
returns-clause-next c =
    let past = none-is c.self.inside.words.items c.self.inside.len c.args.first (c.loop-index.index * 64)
    (omega (arith, c.loop-index-test.false, c.len-index-end.ensures, c.self.inside.words.ok.0, c.self.invariant.0, div-add-mod c.self.inside.len 64, mod-lt c.self.inside.len {m = 64} (omega arith))) c.loop-index.invariant.none in
    subst (λ s. HasNoneFrom s c.args.first) c.self.view_is past

pub returns-in-Some-clause-within : goal.returns-in-Some-clause-within
returns-in-Some-clause-within c = c.within.ensures.within

pub returns-in-Some-lowest_bit-clause-within : goal.returns-in-Some-lowest_bit-clause-within
returns-in-Some-lowest_bit-clause-within c = c.within-in-Some-lowest_bit.ensures.within
