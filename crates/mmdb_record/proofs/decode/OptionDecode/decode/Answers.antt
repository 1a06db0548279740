use Rattle.std.proofs.Common.{Some, ap, ◌∙◌}
use Rattle.std.proofs.lemmas.Result.{err_from_is_err_and}
use Rattle.mmdb_decode.specs.Reading.{mapped}
use Rattle.mmdb_decode.specs.State.{decoded}
use Rattle.mmdb_decode.proofs.ReadingLaws.{decoded-mapped, none_seen, seen}
use Rattle.mmdb_decode.proofs.StepLaws.{fails_more}
use Rattle.mmdb_record.proofs.decode.OptionDecode.decode.Goals as goal

pub returns-in_err-decode-clause-err : goal.returns-in_err-decode-clause-err
returns-in_err-decode-clause-err g c = let p = err_from_is_err_and c.from_residual.result c.from_residual.ensures.1 in rw (p.1, p.2) (λ e. fails_more g.T.Decode.free c.in_err-decode.field-0.0 (decoded g.T.Decode.starts g.T.Decode.meaning c.args.d.now) (decoded g.T.Decode.starts (mapped Some g.T.Decode.meaning) c.args.d.now) (λ h. decoded-mapped g.T.Decode.starts Some g.T.Decode.meaning c.args.d.now ∙ none_seen Some _ h) (c.in_err-decode.ensures.err e))

pub returns-clause-ok : goal.returns-clause-ok
returns-clause-ok g c = λ e. decoded-mapped g.T.Decode.starts Some g.T.Decode.meaning c.args.d.now ∙ ap (seen Some) (c.in_ok-decode.ensures.ok e)
