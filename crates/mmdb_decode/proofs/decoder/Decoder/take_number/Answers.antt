use Rattle.std.proofs.Common.{sym, false}
use Rattle.std.proofs.lemmas.Result.{err_from_is_err_and}
use Rattle.mmdb_decode.specs.Scalars.{number_of}
use Rattle.mmdb_decode.proofs.StepLaws.{nothing_taken, unread, read_free}
use Rattle.mmdb_decode.proofs.decoder.Decoder.take_number.Goals as goal

pub returns-in_err-n-clause-read : goal.returns-in_err-n-clause-read
returns-in_err-n-clause-read c = let p = err_from_is_err_and c.from_residual.result c.from_residual.ensures.1 in rw (p.1, ← c.self.view_is) (nothing_taken _ _ (unread false (number_of c.args.wanted c.args.most) _ (sym c.in_err-n.ensures.value)))

pub returns-clause-read : goal.returns-clause-read
returns-clause-read c = rw (← c.self.view_is) (read_free (number_of c.args.wanted c.args.most) _ c.in_ok-n.n c.in_ok-n.next c.self.invariant (sym c.in_ok-n.ensures.value))
