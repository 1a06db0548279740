use Rattle.std.proofs.Common.{◌≡◌, drop}
use Rattle.mmdb_cmd_enrich.specs.Fields.{reads_of_kind}
use Rattle.mmdb_cmd_enrich.proofs.MemberLaws.{FieldsWay}
use Rattle.mmdb_cmd_enrich.proofs.members.put_fields.Given as goal

abbrev pub invariant-loop-at : goal.invariant-loop-at
invariant-loop-at g l = record {
  way : FieldsWay (reads_of_kind l.kind (g.A.ReadAlong.reads l.fn.found) (g.A.ReadRecords.each l.fn.found)) l.fn.fields (drop l.at l.fn.fields) l.fn.out.tokens l.out.tokens;
  before : l.out.before ≡ l.fn.out.before;
}
