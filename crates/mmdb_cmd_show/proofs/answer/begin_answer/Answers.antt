use Rattle.std.proofs.Common.{◌∙◌}
use Rattle.std.specs.Net.Text.{ip_text}
use Rattle.std.specs.Prelude.{codes}
use Rattle.mmdb_cmd_show.proofs.PrintedLaws.{on_ok, begun}
use Rattle.mmdb_cmd_show.proofs.answer.begin_answer.Goals as goal

pub returns-clause-begun : goal.returns-clause-begun
returns-clause-begun g c =
    let tokens = g.W.TokenSink.tokens in
    on_ok c.write_text.result (begun (tokens c.args.out.now) (tokens c.token.new.self) (tokens c.write_text.new.out) (codes "address") c.as_str.result.now (ip_text c.args.address) c.in_ok-token.ensures.given (c.as_str.ensures.value ∙ c.in_ok-text.ensures.ok)) c.write_text.ensures.text
