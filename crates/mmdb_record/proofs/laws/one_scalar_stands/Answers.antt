use Rattle.mmdb_record.proofs.OneLaws.{one_scalar_stands, one_integer_stands}
use Rattle.mmdb_record.proofs.laws.one_scalar_stands.Goals as goal

pub returns-clause-scalars : goal.returns-clause-scalars
returns-clause-scalars c = one_scalar_stands

pub returns-clause-integers : goal.returns-clause-integers
returns-clause-integers c = one_integer_stands
