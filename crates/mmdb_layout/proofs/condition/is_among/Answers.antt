use Rattle.std.proofs.Common.{rules, ◌≡◌, None, false, subst}
use Rattle.mmdb_value.specs.Values.{value_tree}
use Rattle.mmdb_layout.specs.Conditions.{SaysWrittenBy, text_of}
use Rattle.mmdb_layout.specs.Texts.{texts_in}
use Rattle.mmdb_layout.specs.Working.{is_container}
use Rattle.mmdb_layout.proofs.AmongLaws.{among}
use Rattle.mmdb_layout.proofs.condition.is_among.Goals as goal

pub returns-in-Ok : goal.returns-in-Ok
returns-in-Ok c =
    let v = value_tree c.args.value.now in
    let texts = texts_in c.args.texts.now in
    let json = c.in_ok-json.json.items in
    let answer = c.in_ok-is_written_by-in-Ok.field-0 in
    let plain : text_of v ≡ None = search rules in
    let alone : is_container v ≡ false = search rules in
    let own : c.in-Ok.own.now ≡ json = search rules in
    among v json texts answer plain alone c.in_ok-json.ensures (subst (λ j. SaysWrittenBy v j texts answer) own c.in_ok-is_written_by-in-Ok.ensures)
