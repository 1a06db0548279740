use Rattle.mmdb_compare.proofs.AgreeLaws.{all_is_left, left_on_goes, left_after_unread, answers_agree}
use Rattle.mmdb_compare.proofs.laws.answers_agree_with_lookups.Goals as goal

pub returns : goal.returns
returns c = record { begins = all_is_left; goes_on = left_on_goes; after_unread = left_after_unread; agree = answers_agree }
