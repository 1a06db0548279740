use Rattle.std.proofs.Common.{true, false}
use Rattle.mmdb_value.specs.AnyValue.{value_at}
use Rattle.mmdb_value.specs.RawValues.{raw_tree}
use Rattle.mmdb_value.proofs.Started.{started_ok, started_kept, started_err, started_given_up}
use Rattle.mmdb_value.proofs.raw_value.RawValueDecode.decode.Goals as goal

pub returns-clause-ok : goal.returns-clause-ok
returns-clause-ok c = started_ok raw_tree false true (value_at false) c.args.d.now c.begin_budget.new.self c.read_value.new.d c.read_value.result c.begin_budget.ensures.begun c.read_value.ensures

pub returns-clause-kept : goal.returns-clause-kept
returns-clause-kept c = started_kept raw_tree false (value_at false) c.args.d.now c.begin_budget.new.self c.read_value.new.d c.read_value.result c.begin_budget.ensures.begun c.read_value.ensures

pub returns-clause-err : goal.returns-clause-err
returns-clause-err c = started_err raw_tree false true (value_at false) c.args.d.now c.begin_budget.new.self c.read_value.new.d c.read_value.result c.begin_budget.ensures.begun c.read_value.ensures

pub returns-clause-given_up : goal.returns-clause-given_up
returns-clause-given_up c = started_given_up raw_tree false (value_at false) c.args.d.now c.begin_budget.new.self c.read_value.new.d c.read_value.result c.begin_budget.ensures.begun c.read_value.ensures
