use Rattle.mmdb_reader.proofs.LawLemmas.{each_address_is_answered, answers_are_unique, same_leaf_same_answer}
use Rattle.mmdb_reader.proofs.laws.same_leaf_same_answer.Goals as goal

pub returns : goal.returns
returns c = record { same = same_leaf_same_answer; answered = each_address_is_answered; unique = answers_are_unique }
