use Rattle.std.proofs.Common.{sym, false}
use Rattle.std.proofs.lemmas.Result.{err_from_is_err_and}
use Rattle.mmdb_decode.specs.Scalars.{bytes_of, costs_its_length}
use Rattle.mmdb_decode.proofs.StepLaws.{nothing_taken, unread, read_at, read_past}
use Rattle.mmdb_decode.proofs.decoder.Decoder.take_bytes.Goals as goal

pub returns-in_err-bytes : goal.returns-in_err-bytes
returns-in_err-bytes c = let p = err_from_is_err_and c.from_residual.result c.from_residual.ensures.1 in rw (p.1, ← c.self.view_is) (nothing_taken _ _ (unread false (bytes_of c.args.wanted) _ (sym c.in_err-bytes.ensures.value)))

pub returns-in_err-self-inside : goal.returns-in_err-self-inside
returns-in_err-self-inside c = let p = err_from_is_err_and c.from_residual-in_err-self-inside.result c.from_residual-in_err-self-inside.ensures.1 in rw (p.1, ← c.self.view_is) (nothing_taken _ _ (read_past false (bytes_of c.args.wanted) _ (costs_its_length (c.in_ok-bytes.bytes.now, c.in_ok-bytes.next)) (sym c.in_ok-bytes.ensures.value) (sym c.in_err-self-inside.ensures.value)))

pub returns : goal.returns
returns c = rw (← c.self.view_is) (read_at false (bytes_of c.args.wanted) _ (costs_its_length (c.in_ok-bytes.bytes.now, c.in_ok-bytes.next)) c.in_ok-self-inside.field-0 (sym c.in_ok-bytes.ensures.value) (sym c.in_ok-self-inside.ensures.value))
