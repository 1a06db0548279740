use Rattle.std.proofs.Common.{sym}
use Rattle.std.proofs.lemmas.Result.{err_from_is_err_and}
use Rattle.mmdb_decode.proofs.StepLaws.{nothing_taken}
use Rattle.mmdb_decode.proofs.SkipLaws.{inline_past, inline_in}
use Rattle.mmdb_decode.proofs.decoder.Decoder.enter_inline.Goals as goal

pub returns-in_err-self-inside : goal.returns-in_err-self-inside
returns-in_err-self-inside c = let p = err_from_is_err_and c.from_residual.result c.from_residual.ensures.1 in rw (p.1, ← c.self.view_is) (nothing_taken _ _ (inline_past _ c.args.header c.args.parts (sym c.in_err-self-inside.ensures.value)))

pub returns : goal.returns
returns c = rw (← c.self.view_is) (inline_in _ c.args.header c.args.parts c.in_ok-self-inside.field-0 (sym c.in_ok-self-inside.ensures.value))
