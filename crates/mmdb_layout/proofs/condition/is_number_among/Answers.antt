use Rattle.std.proofs.Common.{map, false, sym, ◌∙◌, subst, arith}
use Rattle.std.proofs.lemmas.Bool.{false≢true}
use Rattle.std.proofs.lemmas.List.{take_all}
use Rattle.mmdb_value.specs.Values.{value_tree}
use Rattle.mmdb_layout.specs.Conditions.{IsNumberOf, SaysNumberOf}
use Rattle.mmdb_layout.proofs.TextLaws.{at_some, none_of_more}
use Rattle.mmdb_layout.proofs.condition.is_number_among.Goals as goal

pub returns-then-branch : goal.returns-then-branch
returns-then-branch c =
    at_some (IsNumberOf (value_tree c.args.value.now) c.args.json.now) (λ t. t.now) c.args.texts.now c.loop-text.text-index _ (omega arith)
    (c.in_ok-is_number_of.ensures.0 c.if-branch.true)

pub loop-text-preserved : goal.loop-text-preserved
loop-text-preserved c =
    none_of_more (IsNumberOf (value_tree c.args.value.now) c.args.json.now) (λ t. t.now) c.args.texts.now c.loop-text.text-index _ (omega arith)
    (λ same. false≢true (sym c.if-branch.false ∙ c.in_ok-is_number_of.ensures.1 same)) c.loop-text.invariant

pub returns : goal.returns
returns c =
    let all = take_all c.loop-text.text-index c.args.texts.now (omega arith) in
    subst (λ l. SaysNumberOf (value_tree c.args.value.now) c.args.json.now (map (λ t. t.now) l) false) all c.loop-text.invariant
