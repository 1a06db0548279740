use Rattle.std.proofs.Common.{MatchOption, Option, subst}
use Rattle.mmdb_objects.specs.Objects.{ReadsLine}
use Rattle.mmdb_objects.specs.declared.objects.ReadLine.{ReadLine}
use Rattle.mmdb_cmd_enrich.specs.Objects.{IsTooLong}
use Rattle.mmdb_cmd_enrich.proofs.AddedLaws.{object_read}
use Rattle.mmdb_cmd_enrich.proofs.object_member.ObjectMemberTemplate.read.Goals as goal

pub returns-in-Some-Object-clause-read : goal.returns-in-Some-Object-clause-read
returns-in-Some-Object-clause-read c =
    let self = c.args.self.now in
    let text = c.args.text.now in
    let some = subst (λ (r : Option ReadLine). MatchOption r (IsTooLong text c.args.is_long) (ReadsLine self.reading text c.args.is_long self.path.items self.name.now)) c.in-Some-Object.is c.in_ok-line.ensures in
    let reads = subst (ReadsLine self.reading text c.args.is_long self.path.items self.name.now) c.in-Some-Object.field-0-is some in
    object_read self.kind self.reads_long self.reading self.path.items self.nulls self.name.now self.fields.items text c.args.is_long c.in-Some-Object.line c.place_in.result reads c.place_in.ensures
