use Rattle.std.proofs.Common.{refl}
use Rattle.mmdb_cmd_show.specs.Printed.{object_of}
use Rattle.mmdb_cmd_show.proofs.PrintedLaws.{object_shown}
use Rattle.mmdb_cmd_show.proofs.answer.AddressValues.write_values.Goals as goal

pub returns-clause-shown : goal.returns-clause-shown
returns-clause-shown g c =
    let tokens = g.W.TokenSink.tokens in
    let address = c.args.self.now.address in
    let (members, have, same) = c.in_ok-are_found.ensures.members in
    (object_of address members, (members, have, refl), object_shown (tokens c.args.out.now) (tokens c.begin_answer.new.out) (tokens c.token.new.self) address members c.in_ok-begin_answer.ensures.begun (tokens c.write_members.new.out) same c.in_ok-token.ensures.given)
