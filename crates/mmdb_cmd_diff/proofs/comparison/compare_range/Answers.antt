use Rattle.std.proofs.Common.{sym, ap, arith}
use Rattle.mmdb_reader.specs.File.{data_section}
use Rattle.mmdb_cmd_diff.proofs.comparison.compare_range.Goals as goal

pub compare-done-requires-clause-compared : goal.compare-done-requires-clause-compared
compare-done-requires-clause-compared g c = record {
  old = c.old.result.now;
  new = c.newer.result.now;
  range = c.args.range;
  databases_are = c.in-Ok.ensures.databases;
  left_is = c.in-Ok.ensures.begun.left;
  can_ask_old = c.in-Ok.ensures.asked 0 (record { reader = c.old.result; range = c.args.range }) (omega arith);
  can_ask_new = c.in-Ok.ensures.asked 1 (record { reader = c.old.result; range = c.args.range }) (omega arith);
  in_old = ap data_section (sym c.old.ensures);
  in_new = ap data_section (sym c.newer.ensures);
}
