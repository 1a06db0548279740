use Rattle.std.proofs.Common.{◌≡◌, ℕ, ◌+◌, ◌-◌, List, take, drop, slice_range, subst, sym, ap, arith}
use Rattle.std.specs.List.{All}
use Rattle.std.proofs.Math.Seq.{take-add}
use Rattle.std.proofs.lemmas.List.Elements.{All-append, All-more}
use Rattle.mmdb_json.specs.Appended.{IsPlain}
use Rattle.mmdb_json.proofs.strings.plain_len.Goals as goal

-- the bytes before a place and those from there on
plain_through : (d : List ℕ) (i n : ℕ) → All IsPlain (take i d) → All IsPlain (slice_range d i (i + n)) → All IsPlain (take (i + n) d)
plain_through d i n before here =
    let size : (i + n) - i ≡ n = omega arith in
    subst (All IsPlain) (sym (take-add i n d)) (All-append IsPlain (take i d) (take n (drop i d)) before (subst (All IsPlain) (ap (λ k. take k (drop i d)) size) here))

pub loop-at-preserved : goal.loop-at-preserved
loop-at-preserved c = (omega arith, plain_through c.args.text.now c.loop-at.at 16 c.loop-at.invariant.1 (c.are_plain.ensures c.if-are_plain.true))

pub loop-at-2-preserved : goal.loop-at-2-preserved
loop-at-2-preserved c = (omega arith, plain_through c.args.text.now c.loop-at-2.at 4 c.loop-at-2.invariant.1 (c.are_plain-in-loop-at-2.ensures c.if-are_plain-2.true))

pub loop-at-3-preserved : goal.loop-at-3-preserved
loop-at-3-preserved c = (omega arith, All-more IsPlain c.args.text.now c.loop-at-3.at 0 (omega arith) c.loop-at-3.invariant.1 (c.is_plain_byte.ensures c.if-is_plain_byte.true))
