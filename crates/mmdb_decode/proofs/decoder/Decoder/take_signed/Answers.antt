use Rattle.std.proofs.Common.{false, rules}
use Rattle.std.proofs.lemmas.Result.{err_from_is_err_and}
use mir.Val.{SFits}
use Rattle.std.proofs.lemmas.Int.{to_z-of_z}
use Rattle.std.specs.Int.{cast_signed, w32}
use Rattle.mmdb_decode.specs.Scalars.{number_of}
use Rattle.mmdb_decode.proofs.ReadingLaws.{mapped_ok, mapped_none}
use Rattle.mmdb_decode.proofs.decoder.Decoder.take_signed.Goals as goal

pub returns-in_err-n : goal.returns-in_err-n
returns-in_err-n c = let p = err_from_is_err_and c.from_residual.result c.from_residual.ensures.1 in rw p.1 (c.in_err-n.ensures.read.0, mapped_none false (cast_signed w32) (number_of 8 4) c.args.self.now c.in_err-n.ensures.read.1)

pub returns : goal.returns
returns c =
    let fits : SFits w32 c.cast_signed.result = search rules in
    rw (to_z-of_z w32 c.cast_signed.result fits, c.cast_signed.ensures) (mapped_ok false (cast_signed w32) (number_of 8 4) c.args.self.now c.take_number.new.self c.in_ok-n.n c.in_ok-n.ensures.read)
