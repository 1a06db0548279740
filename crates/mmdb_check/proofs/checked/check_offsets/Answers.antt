use Rattle.std.proofs.Common.{◌∙◌, Result, Ok, Err, IsOk, IsErr, OnOk, arith}
use Rattle.std.proofs.lemmas.Bool.{false≢true}
use Rattle.mmdb_offsets.specs.OffsetSet.{holds}
use Rattle.mmdb_check.proofs.Members.{marked_more, marked_fails, marked_done}
use Rattle.mmdb_check.proofs.checked.check_offsets.Goals as goal

not_both : {A E : Type 0} (r : Result A E) → IsErr r → IsOk r → ⊥
not_both (Ok x) h k = false≢true h
not_both (Err e) h k = false≢true k

what_is_ok : {A E : Type 0} (r : Result A E) (P : Type 0) → OnOk r P → IsOk r → P
what_is_ok (Ok x) P h k = h
what_is_ok (Err e) P h k = absurd (false≢true k)

pub returns-in_err-check_value : goal.returns-in_err-check_value
returns-in_err-check_value c = (
  (λ x. absurd (not_both c.from_residual.result c.from_residual.ensures.0 x)),
  (λ x. absurd (marked_fails c.args.c.now.section c.loop-offset.c.section (holds c.args.c.now.good) (holds c.loop-offset.c.good) c.args.offsets.now c.loop-offset.next
      c.loop-offset.invariant.section c.loop-offset.invariant.same c.in-Some.offset c.in-Some.ensures.within.0 c.in-Some.ensures.next
      (λ w. false≢true (c.in_err-check_value.ensures.exact.1 (c.loop-offset.invariant.going, w))) x)),
)

pub overflow_add-next : goal.overflow_add-next
overflow_add-next c = let few = c.in-Some.ensures.within.1 in omega (arith, few)

pub loop-offset-preserved : goal.loop-offset-preserved
loop-offset-preserved c = record {
  section = c.in_ok-check_value.ensures.section ∙ c.loop-offset.invariant.section;
  going = c.in_ok-check_value.ensures.going;
  within = omega (arith, c.in-Some.ensures.within.0);
  same = marked_more c.args.c.now.section c.loop-offset.c.section (holds c.args.c.now.good) (holds c.loop-offset.c.good) c.args.offsets.now c.loop-offset.next
      c.loop-offset.invariant.section c.loop-offset.invariant.same c.in-Some.offset c.in-Some.ensures.within.0 c.in-Some.ensures.next _ c.in_ok-check_value.ensures.ok;
}

pub returns : goal.returns
returns c = (
  (λ k. marked_done c.args.c.now.section c.loop-offset.c.section (holds c.args.c.now.good) (holds c.loop-offset.c.good) c.args.offsets.now c.loop-offset.next
      c.loop-offset.invariant.section c.loop-offset.invariant.same c.loop-offset.invariant.within c.in_default.ensures.next (what_is_ok c.verdict.result _ c.verdict.ensures.allowed k)),
  (λ _. c.verdict.ensures.going.1 c.loop-offset.invariant.going),
)
