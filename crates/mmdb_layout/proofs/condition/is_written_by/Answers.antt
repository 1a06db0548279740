use Rattle.std.proofs.Common.{map, subst}
use Rattle.std.proofs.lemmas.Result.{IfOk-weaker}
use Rattle.mmdb_value.specs.Values.{value_tree}
use Rattle.mmdb_layout.specs.Conditions.{SaysNumberOf, SaysWrittenBy}
use Rattle.mmdb_layout.specs.Texts.{texts_in}
use Rattle.mmdb_layout.proofs.OtherLaws.{whole_among, plain_among, none_given}
use Rattle.mmdb_layout.proofs.condition.is_written_by.Goals as goal

pub returns-then-is_of_digits : goal.returns-then-is_of_digits
returns-then-is_of_digits c =
    let v = value_tree c.args.value.now in
    let json = c.args.json.now in
    let all = texts_in c.args.texts.now in
    let others = map (λ t. t.now) c.others.result.now in
    let none = none_given c.as_bytes.result.now json (map (λ t. t.now) c.all.result.now) all c.is_one_of.result c.as_bytes.ensures.value c.all.ensures c.if-is_one_of.false c.is_one_of.ensures in
    let is = c.is_of_digits.ensures.0 c.if-is_of_digits.true in
    IfOk-weaker c.is_number_among.result (SaysNumberOf v json others) (SaysWrittenBy v json all)
    (λ b says. whole_among v json all others b is.0 is.1 none c.others.ensures says) c.is_number_among.ensures

pub returns : goal.returns
returns c =
    let v = value_tree c.args.value.now in
    let json = c.args.json.now in
    let all = texts_in c.args.texts.now in
    let listed = map (λ t. t.now) c.all-2.result.now in
    let none = none_given c.as_bytes.result.now json (map (λ t. t.now) c.all.result.now) all c.is_one_of.result c.as_bytes.ensures.value c.all.ensures c.if-is_one_of.false c.is_one_of.ensures in
    IfOk-weaker c.is_number_among-2.result (SaysNumberOf v json listed) (SaysWrittenBy v json all)
    (λ b says. plain_among v json all b none (subst (λ l. SaysNumberOf v json l b) c.all-2.ensures says)) c.is_number_among-2.ensures
