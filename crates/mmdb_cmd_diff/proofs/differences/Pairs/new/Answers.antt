use Rattle.mmdb_cmd_diff.proofs.Liking.{alike-none}
use Rattle.mmdb_cmd_diff.proofs.differences.Pairs.new.Goals as goal

pub returns-clause-kept : goal.returns-clause-kept
returns-clause-kept c = record {
  same = alike-none c.new-3.result c.in_ok-new.field-0.same c.in_ok-new.ensures.same;
  last = alike-none c.new-3.result c.in_ok-new.field-0.last c.in_ok-new.ensures.last;
}
