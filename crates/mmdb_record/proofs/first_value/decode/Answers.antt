use Rattle.std.proofs.Common.{◌≡◌, Some, true}
use Rattle.mmdb_decode.specs.Errors.{Fails, answer}
use Rattle.mmdb_decode.specs.State.{decoded}
use Rattle.mmdb_decode.proofs.StepLaws.{answer_ok, answer_none, if_ok_weaker, if_err_weaker, fails_more}
use Rattle.mmdb_record.proofs.first_value.decode.Goals as goal

pub returns-clause-ok : goal.returns-clause-ok
returns-clause-ok g c = if_ok_weaker c.decode.result _ (λ v. g.T.Decode.exact ≡ true → answer g.T.Decode.starts g.T.Decode.meaning c.args.section.now 0 ≡ Some (g.T.Decode.datum v)) (λ v h e. answer_ok g.T.Decode.starts g.T.Decode.meaning c.args.section.now 0 c.new-d.result c.decode.new.d (g.T.Decode.datum v) c.new-d.ensures (h e)) c.decode.ensures.ok

pub returns-clause-err : goal.returns-clause-err
returns-clause-err g c = if_err_weaker c.decode.result _ (λ x. g.T.Decode.exact ≡ true → Fails g.T.Decode.free x (answer g.T.Decode.starts g.T.Decode.meaning c.args.section.now 0)) (λ x h e. fails_more g.T.Decode.free x (decoded g.T.Decode.starts g.T.Decode.meaning c.new-d.result) (answer g.T.Decode.starts g.T.Decode.meaning c.args.section.now 0) (answer_none g.T.Decode.starts g.T.Decode.meaning c.args.section.now 0 c.new-d.result c.new-d.ensures) (h e)) c.decode.ensures.err
