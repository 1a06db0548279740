use Rattle.std.proofs.Common.{refl}
use Rattle.json.specs.Json.{member}
use Rattle.mmdb_cmd_show.proofs.AskedLaws.{on_value}
use Rattle.mmdb_cmd_show.proofs.PrintedLaws.{member_begun}
use Rattle.mmdb_cmd_show.proofs.answer.AddressValues.write_member.Goals as goal

pub returns-clause-member : goal.returns-clause-member
returns-clause-member g c =
    let tokens = g.W.TokenSink.tokens in
    let name = c.args.name.now in
    on_value c.write_value.result (λ b value others. (member name value.0 others, (value.0, value.1, refl), member_begun (tokens c.args.out.now) (tokens c.token.new.self) (tokens c.write_value.new.out) name value.0 others c.in_ok-token.ensures.given value.2)) c.write_value.ensures.shown
