use Rattle.std.proofs.Common.{◌≡◌, ◌++◌, drop}
use Rattle.mmdb_cmd_enrich.specs.Fields.{null_fields}
use Rattle.mmdb_cmd_enrich.proofs.members.put_nulls.Given as goal

abbrev pub invariant-loop-at : goal.invariant-loop-at
invariant-loop-at l = record {
  way : l.out.tokens ++ null_fields (drop l.at l.fn.fields) ≡ l.fn.out.tokens ++ null_fields l.fn.fields;
  before : l.out.before ≡ l.fn.out.before;
}
