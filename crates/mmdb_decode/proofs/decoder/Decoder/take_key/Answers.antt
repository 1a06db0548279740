use Rattle.std.proofs.Common.{sym}
use Rattle.std.proofs.lemmas.Result.{err_from_is_err_and}
use Rattle.mmdb_decode.proofs.StepLaws.{nothing_taken}
use Rattle.mmdb_decode.proofs.MapLaws.{key_none, key_step, key_over}
use Rattle.mmdb_decode.proofs.decoder.Decoder.take_key.Goals as goal

pub returns-in_err-key : goal.returns-in_err-key
returns-in_err-key c = let p = err_from_is_err_and c.from_residual.result c.from_residual.ensures.1 in rw (p.1, ← c.self.view_is) (nothing_taken _ _ (key_none c.args.free _ (sym c.in_err-key.ensures.value)))

pub returns-in_err-self-inside : goal.returns-in_err-self-inside
returns-in_err-self-inside c = let p = err_from_is_err_and c.from_residual-in_err-self-inside.result c.from_residual-in_err-self-inside.ensures.1 in rw (p.1, ← c.self.view_is) (nothing_taken _ _ (key_over c.args.free _ (c.in_ok-key.key.now, c.in_ok-key.next) (sym c.in_ok-key.ensures.value) (sym c.in_err-self-inside.ensures.value)))

pub returns : goal.returns
returns c = rw (← c.self.view_is) (key_step c.args.free _ (c.in_ok-key.key.now, c.in_ok-key.next) c.in_ok-self-inside.field-0 (sym c.in_ok-key.ensures.value) (sym c.in_ok-self-inside.ensures.value))
