use Rattle.std.proofs.Common.{List, ℕ, map, false, refl, sym, subst, arith}
use Rattle.std.proofs.lemmas.Bool.{false≢true}
use Rattle.std.proofs.lemmas.List.{take_all}
use Rattle.mmdb_layout.specs.Conditions.{HasPart, SaysAnyPart}
use Rattle.mmdb_layout.proofs.TextLaws.{part_at, no_part_more}
use Rattle.mmdb_layout.proofs.condition.has_any_part.Goals as goal

pub returns-then-has_part : goal.returns-then-has_part
returns-then-has_part c =
    part_at (λ t. t.now) c.args.own.now c.args.texts.now c.loop-text.text-index _ (omega arith)
    (subst (λ (t : List ℕ). HasPart c.args.own.now t) c.as_bytes.ensures.value (c.if-has_part.ensures.0 refl))

pub loop-text-preserved : goal.loop-text-preserved
loop-text-preserved c =
    no_part_more (λ t. t.now) c.args.own.now c.args.texts.now c.loop-text.text-index _ (omega arith)
    (λ h. false≢true (c.if-has_part.ensures.1 (subst (λ (t : List ℕ). HasPart c.args.own.now t) (sym c.as_bytes.ensures.value) h)))
    c.loop-text.invariant

pub returns : goal.returns
returns c =
    let all = take_all c.loop-text.text-index c.args.texts.now (omega arith) in
    subst (λ l. SaysAnyPart c.args.own.now (map (λ t. t.now) l) false) all c.loop-text.invariant
