use Rattle.std.proofs.Common.{false}
use Rattle.std.proofs.lemmas.Result.{err_from_is_err_and}
use Rattle.mmdb_decode.specs.Scalars.{byte_string_at}
use Rattle.mmdb_decode.proofs.StepLaws.{kept_decoded, given_up_kept}
use Rattle.mmdb_record.proofs.decode.OwnedBytesDecode.decode.Goals as goal

pub returns-in_err-from_slice-clause-given_up : goal.returns-in_err-from_slice-clause-given_up
returns-in_err-from_slice-clause-given_up c = let p = err_from_is_err_and c.from_residual-in_err-from_slice.result c.from_residual-in_err-from_slice.ensures.1 in rw p.1 (given_up_kept c.args.d.now c.read_bytes.new.self (kept_decoded false byte_string_at c.args.d.now c.read_bytes.new.self c.in_ok-bytes.bytes.now c.in_ok-bytes.ensures))

pub returns-clause-kept : goal.returns-clause-kept
returns-clause-kept c = kept_decoded false byte_string_at c.args.d.now c.read_bytes.new.self c.in_ok-bytes.bytes.now c.in_ok-bytes.ensures
