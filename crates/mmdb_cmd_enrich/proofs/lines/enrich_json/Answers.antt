use Rattle.std.proofs.Common.{refl, false, []}
use Rattle.mmdb_cmd_enrich.specs.Stretches.{additions_of}
use Rattle.mmdb_cmd_enrich.specs.Template.{Template, member}
use Rattle.mmdb_cmd_enrich.proofs.StretchLaws.{none_begun, on_any_err, on_err, on_ok}
use Rattle.mmdb_cmd_enrich.proofs.lines.enrich_json.Goals as goal

pub returns-in_err-keys-clause-begun : goal.returns-in_err-keys-clause-begun
returns-in_err-keys-clause-begun g c =
    let task = c.args.task in
    let kind = c.kind_of-kind.result in
    let template : Template = member kind false task.reading task.path.items task.nulls task.into.now [] in
    let none = none_begun c.args.passage.now.rows (additions_of template c.args.databases.now) (g.I.Read.remaining c.args.input.now.input.now) (g.O.Write.contents c.args.console.now.out.now.out.now) in
    on_any_err c.from_residual.result (template, (kind, false, [], c.kind_of-kind.ensures, refl), none)

pub returns-in_err-fields_of-clause-begun : goal.returns-in_err-fields_of-clause-begun
returns-in_err-fields_of-clause-begun g c =
    let task = c.args.task in
    let kind = c.kind_of-kind.result in
    let template : Template = member kind false task.reading task.path.items task.nulls task.into.now [] in
    let none = none_begun c.args.passage.now.rows (additions_of template c.args.databases.now) (g.I.Read.remaining c.args.input.now.input.now) (g.O.Write.contents c.args.console.now.out.now.out.now) in
    on_any_err c.from_residual-in_err-fields_of.result (template, (kind, false, [], c.kind_of-kind.ensures, refl), none)

pub returns-clause-whole : goal.returns-clause-whole
returns-clause-whole g c =
    let task = c.args.task in
    let kind = c.kind_of-kind.result in
    let fields = c.in_ok-fields_of.field-0.items in
    let template : Template = member kind c.has_room.result task.reading task.path.items task.nulls task.into.now fields in
    on_ok c.enrich_from.result (λ whole. (template, (kind, c.has_room.result, fields, c.kind_of-kind.ensures, refl), whole)) c.enrich_from.ensures.whole

pub returns-clause-begun : goal.returns-clause-begun
returns-clause-begun g c =
    let task = c.args.task in
    let kind = c.kind_of-kind.result in
    let fields = c.in_ok-fields_of.field-0.items in
    let template : Template = member kind c.has_room.result task.reading task.path.items task.nulls task.into.now fields in
    on_err c.enrich_from.result (λ begun. (template, (kind, c.has_room.result, fields, c.kind_of-kind.ensures, refl), begun)) c.enrich_from.ensures.begun
