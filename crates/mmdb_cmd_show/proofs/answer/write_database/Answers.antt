use Rattle.mmdb_cmd_show.proofs.PrintedLaws.{answer_shown, none_shown}
use Rattle.mmdb_cmd_show.proofs.answer.write_database.Goals as goal

pub returns-in_ok-token-in-Some-2-clause-shown : goal.returns-in_ok-token-in-Some-2-clause-shown
returns-in_ok-token-in-Some-2-clause-shown g c =
    let tokens = g.W.TokenSink.tokens in
    answer_shown c.args.answer.now c.in-Some.answer (tokens c.args.out.now) _ _ _ c.in-Some.is c.in_ok-token-in-Some.ensures.given c.in_ok-has_record-in-Some.ensures.members c.in_ok-token-in-Some-2.ensures.given

pub returns-in_ok-token-in-None-clause-shown : goal.returns-in_ok-token-in-None-clause-shown
returns-in_ok-token-in-None-clause-shown g c =
    let tokens = g.W.TokenSink.tokens in
    none_shown c.args.answer.now (tokens c.args.out.now) _ c.in-None.is c.in_ok-token-in-None.ensures.given
