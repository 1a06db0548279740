use Rattle.std.proofs.Common.{refl}
use Rattle.std.proofs.lemmas.Result.{IfOk-weaker}
use Rattle.mmdb_cmd_enrich.proofs.MemberLaws.{member_same}
use Rattle.mmdb_cmd_enrich.proofs.object_member.ObjectMemberTemplate.put_text.Goals as goal

pub returns : goal.returns
returns g c =
    let self = c.args.self.now in
    let found = c.args.found.now in
    let form = c.form.result in
    let reads = g.A.ReadAlong.reads found in
    let each = g.A.ReadRecords.each found in
    IfOk-weaker c.put_member_text.result _ _
    (λ outcome made.
    member_same form.kind self.kind c.args.network reads reads each each form.name.now self.name.now form.fields.now self.fields.items c.put_member_text.new.text.items outcome
    c.form.ensures.kind refl refl c.form.ensures.name c.form.ensures.fields made)
    c.put_member_text.ensures
