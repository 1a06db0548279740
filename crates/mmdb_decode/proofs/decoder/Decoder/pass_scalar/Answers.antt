use Rattle.std.proofs.Common.{sym}
use Rattle.std.proofs.lemmas.Result.{err_from_is_err_and}
use Rattle.mmdb_decode.proofs.StepLaws.{nothing_taken}
use Rattle.mmdb_decode.proofs.SkipLaws.{scalar_none, scalar_some}
use Rattle.mmdb_decode.proofs.decoder.Decoder.pass_scalar.Goals as goal

pub returns-in_err-self-inside : goal.returns-in_err-self-inside
returns-in_err-self-inside c = let p = err_from_is_err_and c.from_residual.result c.from_residual.ensures.1 in rw (p.1, ← c.self.view_is) (nothing_taken _ _ (scalar_none _ c.args.header (sym c.in_err-self-inside.ensures)))

pub returns : goal.returns
returns c = rw (← c.self.view_is) (scalar_some _ c.args.header c.in_ok-self-inside.field-0 (sym c.in_ok-self-inside.ensures))
