use Rattle.std.proofs.Common.{◌≡◌, ◌<◌, length, arith}
use Rattle.std.proofs.lemmas.Result.{on_ok_weaker, IfErr-weaker}
use Rattle.mmdb_cmd_enrich.specs.Fields.{front_tokens, reads_of_kind}
use Rattle.mmdb_cmd_enrich.proofs.MemberLaws.{whole_values, fields_values, whole_unread, fields_unread}
use Rattle.mmdb_cmd_enrich.proofs.members.put_values.Goals as goal

pub returns-then-is_empty-clause-member : goal.returns-then-is_empty-clause-member
returns-then-is_empty-clause-member g c =
    let none : length c.args.form.fields.now ≡ 0 = grind (arith, c.is_empty.ensures, c.if-is_empty.true) in
    on_ok_weaker c.put_whole.result (whole_values (front_tokens c.args.form.kind c.args.network) (reads_of_kind c.args.form.kind (g.A.ReadAlong.reads c.args.found.now) (g.A.ReadRecords.each c.args.found.now)) c.args.form.name.now c.args.form.fields.now c.args.out.now.tokens c.put_whole.new.out.tokens none) c.put_whole.ensures.whole

pub returns-then-is_empty-clause-rejected : goal.returns-then-is_empty-clause-rejected
returns-then-is_empty-clause-rejected g c =
    let none : length c.args.form.fields.now ≡ 0 = grind (arith, c.is_empty.ensures, c.if-is_empty.true) in
    IfErr-weaker c.put_whole.result _ _ (λ e fails. whole_unread (reads_of_kind c.args.form.kind (g.A.ReadAlong.reads c.args.found.now) (g.A.ReadRecords.each c.args.found.now)) c.args.form.fields.now e none fails) c.put_whole.ensures.rejected

pub returns-else-is_empty-clause-member : goal.returns-else-is_empty-clause-member
returns-else-is_empty-clause-member g c =
    let some : 0 < length c.args.form.fields.now = grind (arith, c.is_empty.ensures, c.if-is_empty.false) in
    on_ok_weaker c.put_member.result (fields_values (front_tokens c.args.form.kind c.args.network) (reads_of_kind c.args.form.kind (g.A.ReadAlong.reads c.args.found.now) (g.A.ReadRecords.each c.args.found.now)) c.args.form.name.now c.args.form.fields.now c.args.out.now.tokens c.put_member.new.out.tokens some) c.put_member.ensures.member

pub returns-else-is_empty-clause-rejected : goal.returns-else-is_empty-clause-rejected
returns-else-is_empty-clause-rejected g c =
    let some : 0 < length c.args.form.fields.now = grind (arith, c.is_empty.ensures, c.if-is_empty.false) in
    IfErr-weaker c.put_member.result _ _ (λ e why. fields_unread (reads_of_kind c.args.form.kind (g.A.ReadAlong.reads c.args.found.now) (g.A.ReadRecords.each c.args.found.now)) c.args.form.fields.now e some why) c.put_member.ensures.rejected
