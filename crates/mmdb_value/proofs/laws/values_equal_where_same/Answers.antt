use Rattle.mmdb_value.proofs.RawEquality.{raw_values_decided}
use Rattle.mmdb_value.proofs.ValueEquality.{values_decided}
use Rattle.mmdb_value.proofs.laws.values_equal_where_same.Goals as goal

pub returns-clause-tested : goal.returns-clause-tested
returns-clause-tested c = values_decided

pub returns-clause-raw : goal.returns-clause-raw
returns-clause-raw c = raw_values_decided
