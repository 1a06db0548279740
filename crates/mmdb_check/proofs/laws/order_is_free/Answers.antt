use Rattle.mmdb_check.proofs.LawLemmas.{in_any_order}
use Rattle.mmdb_check.proofs.laws.order_is_free.Goals as goal

pub returns : goal.returns
returns c = in_any_order
