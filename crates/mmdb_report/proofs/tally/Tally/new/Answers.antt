use Rattle.mmdb_report.proofs.CountLemmas.{none_above}
use Rattle.mmdb_report.proofs.tally.Tally.new.Goals as goal

pub invariant_of-result-clause-within_v4 : goal.invariant_of-result-clause-within_v4
invariant_of-result-clause-within_v4 c = none_above 33

pub invariant_of-result-clause-within_v6 : goal.invariant_of-result-clause-within_v6
invariant_of-result-clause-within_v6 c = none_above 129
