use Rattle.std.proofs.Common.{true, false}
use Rattle.mmdb_value.specs.AnyValue.{value_at}
use Rattle.mmdb_value.specs.Values.{value_tree}
use Rattle.mmdb_value.proofs.Started.{started_ok, started_kept, started_err, started_given_up}
use Rattle.mmdb_value.proofs.any_value.ValueDecode.decode.Goals as goal

pub returns-clause-ok : goal.returns-clause-ok
returns-clause-ok c = started_ok value_tree false true (value_at true) c.args.d.now c.begin_budget.new.self c.read_value.new.d c.read_value.result c.begin_budget.ensures.begun c.read_value.ensures

pub returns-clause-kept : goal.returns-clause-kept
returns-clause-kept c = started_kept value_tree false (value_at true) c.args.d.now c.begin_budget.new.self c.read_value.new.d c.read_value.result c.begin_budget.ensures.begun c.read_value.ensures

pub returns-clause-err : goal.returns-clause-err
returns-clause-err c = started_err value_tree false true (value_at true) c.args.d.now c.begin_budget.new.self c.read_value.new.d c.read_value.result c.begin_budget.ensures.begun c.read_value.ensures

pub returns-clause-given_up : goal.returns-clause-given_up
returns-clause-given_up c = started_given_up value_tree false (value_at true) c.args.d.now c.begin_budget.new.self c.read_value.new.d c.read_value.result c.begin_budget.ensures.begun c.read_value.ensures
