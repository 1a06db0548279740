use Rattle.std.proofs.lemmas.Result.{err_from_is_err_and}
use Rattle.mmdb_decode.specs.Maps.{key_past}
use Rattle.mmdb_decode.proofs.Texts.{bytes_taken, text_taken}
use Rattle.mmdb_decode.proofs.decoder.Decoder.take_text_key.Goals as goal

pub returns-in_err-bytes : goal.returns-in_err-bytes
returns-in_err-bytes c = let p = err_from_is_err_and c.from_residual.result c.from_residual.ensures.1 in rw p.1 (bytes_taken (key_past 0) _ _ c.in_err-bytes.ensures)

pub returns : goal.returns
returns c = text_taken (key_past 0) _ _ c.in_ok-bytes.bytes.now c.text_of.result c.in_ok-bytes.ensures c.text_of.ensures.value
