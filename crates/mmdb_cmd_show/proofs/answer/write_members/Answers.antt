use Rattle.std.proofs.Common.{◌∙◌}
use Rattle.mmdb_cmd_show.proofs.AskedLaws.{on_value}
use Rattle.mmdb_cmd_show.proofs.PrintedLaws.{answer_begun}
use Rattle.mmdb_cmd_show.proofs.answer.write_members.Goals as goal

pub returns-clause-members : goal.returns-clause-members
returns-clause-members g c =
    let tokens = g.W.TokenSink.tokens in
    on_value c.write_or_null.result (λ b value. answer_begun c.args.answer.now (tokens c.args.out.now) (tokens c.write_text.new.out) (tokens c.token.new.self) (tokens c.write_or_null.new.out) c.as_str.result.now (c.as_str.ensures.value ∙ c.in_ok-network.ensures.ok) c.in_ok-write_text.ensures.text c.in_ok-token.ensures.given value) c.write_or_null.ensures.shown
