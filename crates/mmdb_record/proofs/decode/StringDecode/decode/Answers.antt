use Rattle.std.proofs.Common.{false}
use Rattle.std.proofs.lemmas.Result.{err_from_is_err_and}
use Rattle.mmdb_decode.specs.Scalars.{text_at}
use Rattle.mmdb_decode.proofs.StepLaws.{kept_decoded, given_up_kept}
use Rattle.mmdb_record.proofs.decode.StringDecode.decode.Goals as goal

pub returns-in_err-from_str-clause-given_up : goal.returns-in_err-from_str-clause-given_up
returns-in_err-from_str-clause-given_up c = let p = err_from_is_err_and c.from_residual-in_err-from_str.result c.from_residual-in_err-from_str.ensures.1 in rw p.1 (given_up_kept c.args.d.now c.read_str.new.self (kept_decoded false text_at c.args.d.now c.read_str.new.self c.in_ok-text.text.now c.in_ok-text.ensures))

pub returns-clause-kept : goal.returns-clause-kept
returns-clause-kept c = kept_decoded false text_at c.args.d.now c.read_str.new.self c.in_ok-text.text.now c.in_ok-text.ensures
