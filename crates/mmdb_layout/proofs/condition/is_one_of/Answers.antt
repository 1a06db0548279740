use Rattle.std.proofs.Common.{rules, ◌≡◌, map, false, sym, ◌∙◌, subst, arith}
use Rattle.std.proofs.lemmas.List.{take_all}
use Rattle.mmdb_layout.specs.Conditions.{SaysOneOf}
use Rattle.mmdb_layout.proofs.TextLaws.{at_one, none_more}
use Rattle.mmdb_layout.proofs.condition.is_one_of.Goals as goal

pub returns-then-eq : goal.returns-then-eq
returns-then-eq c =
    let same : c.as_bytes.result.now ≡ c.args.own.now = search rules in
    at_one (λ t. t.now) c.args.texts.now c.loop-text.text-index _ c.args.own.now (omega arith) (sym c.as_bytes.ensures.value ∙ same)

pub loop-text-preserved : goal.loop-text-preserved
loop-text-preserved c =
    let differs : c.as_bytes.result.now ≡ c.args.own.now → ⊥ = search rules in
    none_more (λ t. t.now) c.args.texts.now c.loop-text.text-index _ c.args.own.now (omega arith) (λ e. differs (c.as_bytes.ensures.value ∙ e)) c.loop-text.invariant

pub returns : goal.returns
returns c =
    let all = take_all c.loop-text.text-index c.args.texts.now (omega arith) in
    subst (λ l. SaysOneOf c.args.own.now (map (λ t. t.now) l) false) all c.loop-text.invariant
