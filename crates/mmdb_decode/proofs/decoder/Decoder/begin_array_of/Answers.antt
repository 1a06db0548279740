use Rattle.mmdb_decode.proofs.StepLaws.{given_up_kept, kept_same}
use Rattle.mmdb_decode.proofs.Lists.{enters, given_up_list, other_length}
use Rattle.mmdb_decode.proofs.decoder.Decoder.begin_array_of.Goals as goal

pub returns-then-items-len : goal.returns-then-items-len
returns-then-items-len c = (given_up_list c.args.self.now c.begin_array.new.self c.begin_array.new.self c.give_up.new.d c.in_ok-items.items _ (enters c.args.self.now c.begin_array.new.self c.in_ok-items.items c.in_ok-items.ensures) (given_up_kept _ _ (kept_same _)) c.give_up.ensures, other_length c.args.len c.args.self.now c.begin_array.new.self c.in_ok-items.items c.in_ok-items.ensures c.if-items-len.true)
