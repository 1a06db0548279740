use Rattle.std.proofs.Common.{rules, ◌≡◌, ◌↔◌, IsTrue, IfOk, sym, subst}
use Rattle.mmdb_format.specs.Contents.{signed32, number16, number32, number64, number128}
use Rattle.mmdb_format.specs.Unfolding.{scalar}
use Rattle.mmdb_value.specs.Values.{value_tree}
use Rattle.mmdb_value.specs.declared.any_value.Value.{the_lemmas}
use Rattle.mmdb_layout.specs.Conditions.{IsNumberOf}
use Rattle.mmdb_layout.proofs.condition.is_number_of.Goals as goal

pub returns-in-I32 : goal.returns-in-I32
returns-in-I32 c =
    let is : value_tree c.args.value.now ≡ scalar (signed32 c.in-I32.field-0) = search (rules, the_lemmas) in
    subst (λ v. IfOk c.is_same_number.result (λ b. IsTrue b ↔ IsNumberOf v c.args.json.now c.args.text.now)) (sym is) c.is_same_number.ensures

pub returns-in-U16 : goal.returns-in-U16
returns-in-U16 c =
    let is : value_tree c.args.value.now ≡ scalar (number16 c.in-U16.field-0) = search (rules, the_lemmas) in
    subst (λ v. IfOk c.is_same_number-in-U16.result (λ b. IsTrue b ↔ IsNumberOf v c.args.json.now c.args.text.now)) (sym is) c.is_same_number-in-U16.ensures

pub returns-in-U32 : goal.returns-in-U32
returns-in-U32 c =
    let is : value_tree c.args.value.now ≡ scalar (number32 c.in-U32.field-0) = search (rules, the_lemmas) in
    subst (λ v. IfOk c.is_same_number-in-U32.result (λ b. IsTrue b ↔ IsNumberOf v c.args.json.now c.args.text.now)) (sym is) c.is_same_number-in-U32.ensures

pub returns-in-U64 : goal.returns-in-U64
returns-in-U64 c =
    let is : value_tree c.args.value.now ≡ scalar (number64 c.in-U64.field-0) = search (rules, the_lemmas) in
    subst (λ v. IfOk c.is_same_number-in-U64.result (λ b. IsTrue b ↔ IsNumberOf v c.args.json.now c.args.text.now)) (sym is) c.is_same_number-in-U64.ensures

pub returns-in-U128 : goal.returns-in-U128
returns-in-U128 c =
    let is : value_tree c.args.value.now ≡ scalar (number128 c.in-U128.field-0) = search (rules, the_lemmas) in
    subst (λ v. IfOk c.is_same_number-in-U128.result (λ b. IsTrue b ↔ IsNumberOf v c.args.json.now c.args.text.now)) (sym is) c.is_same_number-in-U128.ensures
