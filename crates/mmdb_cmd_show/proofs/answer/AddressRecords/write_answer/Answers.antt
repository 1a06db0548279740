use Rattle.std.proofs.Common.{rules}
use Rattle.mmdb_cmd_show.proofs.AskedLaws.{on_value}
use Rattle.mmdb_cmd_show.proofs.PrintedLaws.{named_begun, alone_begun, none_begun}
use Rattle.mmdb_cmd_show.proofs.answer.AddressRecords.write_answer.Goals as goal

pub returns-then-self-clause-members : goal.returns-then-self-clause-members
returns-then-self-clause-members g c =
    let tokens = g.W.TokenSink.tokens in
    on_value c.write_database.result (λ b value. named_begun c.args.self.now.are_named c.args.shown.now c.args.answer.now (tokens c.args.out.now) (tokens c.token.new.self) (tokens c.write_database.new.out) (search rules) c.in_ok-token.ensures.given value) c.write_database.ensures.shown

pub returns-in-Some-clause-members : goal.returns-in-Some-clause-members
returns-in-Some-clause-members g c =
    let tokens = g.W.TokenSink.tokens in
    on_value c.write_members.result (λ b value. alone_begun c.args.self.now.are_named c.args.shown.now c.args.answer.now c.in-Some.answer (tokens c.args.out.now) (tokens c.write_members.new.out) (search rules) c.in-Some.is value) c.write_members.ensures.members

pub returns-in-None-clause-members : goal.returns-in-None-clause-members
returns-in-None-clause-members g c = none_begun c.args.self.now.are_named c.args.shown.now c.args.answer.now (g.W.TokenSink.tokens c.args.out.now) (search rules) c.in-None.is
