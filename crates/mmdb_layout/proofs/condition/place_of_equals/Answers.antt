use Rattle.std.proofs.Common.{◌≡◌, arith, refl, inl, inr, subst}
use Rattle.std.proofs.lemmas.Bool.{cases_lt}
use Rattle.mmdb_layout.specs.Conditions.{IsSign}
use Rattle.mmdb_layout.proofs.SignLaws.{quoted_more, inside}
use Rattle.mmdb_layout.proofs.condition.place_of_equals.Goals.{else-byte-eq61-via-then-byte-eq61+else-not-is_quoted, else-byte-eq61-via-else-byte-eq61}
use Rattle.mmdb_layout.proofs.condition.place_of_equals.Goals as goal

pub loop-place-init : goal.loop-place-init
loop-place-init c = record {
  quoted = refl;
  none = λ i below. absurd (omega (arith, below));
}

pub loop-place-preserved : goal.loop-place-preserved
loop-place-preserved c = record {
  quoted = quoted_more c.args.text.now c.loop-place.place c.loop-place.is_quoted (omega arith) c.loop-place.invariant.quoted;
  none = λ i below sign. elim (cases_lt i c.loop-place.place) [
    | inl less ↦ c.loop-place.invariant.none i less sign
    | inr last ↦
        let same : i ≡ c.loop-place.place = omega (arith, below, last) in
        let here : IsSign c.args.text.now c.loop-place.place = subst (IsSign c.args.text.now) same sign in
        elim c.else-byte-eq61.branch [
          | else-byte-eq61-via-then-byte-eq61+else-not-is_quoted w ↦ inside c.args.text.now c.loop-place.place c.loop-place.is_quoted c.loop-place.invariant.quoted w.if-not-is_quoted.false here
          | else-byte-eq61-via-else-byte-eq61 w ↦ w.if-byte-eq61.false here.sign
        ]
  ];
}
