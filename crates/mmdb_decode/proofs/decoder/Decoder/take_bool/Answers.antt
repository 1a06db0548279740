use Rattle.std.proofs.Common.{sym, false}
use Rattle.std.proofs.lemmas.Result.{err_from_is_err_and}
use Rattle.mmdb_decode.specs.Scalars.{bool_at}
use Rattle.mmdb_decode.proofs.StepLaws.{nothing_taken, unread, read_free}
use Rattle.mmdb_decode.proofs.decoder.Decoder.take_bool.Goals as goal

pub returns-in_err-b : goal.returns-in_err-b
returns-in_err-b c = let p = err_from_is_err_and c.from_residual.result c.from_residual.ensures.1 in rw (p.1, ← c.self.view_is) (nothing_taken _ _ (unread false bool_at _ (sym c.in_err-b.ensures)))

pub returns : goal.returns
returns c = rw (← c.self.view_is) (read_free bool_at _ c.in_ok-b.b c.in_ok-b.next c.self.invariant (sym c.in_ok-b.ensures))
