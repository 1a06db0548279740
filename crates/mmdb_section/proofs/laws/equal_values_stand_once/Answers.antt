use Rattle.mmdb_section.proofs.OnceLemmas as lemmas
use Rattle.mmdb_section.proofs.laws.equal_values_stand_once.Goals as goal

pub returns-clause-offset : goal.returns-clause-offset
returns-clause-offset c = lemmas.one_offset

pub returns-clause-values : goal.returns-clause-values
returns-clause-values c = lemmas.none_twice
