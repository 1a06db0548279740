use Rattle.std.proofs.Common.{Some, None, true, false}
use Rattle.std.proofs.lemmas.Result.{err_from_is_err_and}
use Rattle.mmdb_decode.specs.Maps.{raw_key_at}
use Rattle.mmdb_decode.specs.State.{decoded}
use Rattle.mmdb_value.specs.AnyValue.{key_at}
use Rattle.mmdb_decode.proofs.StepLaws.{declines, kept_decoded}
use Rattle.mmdb_value.proofs.AnySteps.{key_unread, key_looked_at, same_given_up}
use Rattle.mmdb_value.proofs.any_value.key_at.Goals as goal

pub returns-in_err-bytes : goal.returns-in_err-bytes
returns-in_err-bytes c = let p = err_from_is_err_and c.from_residual.result c.from_residual.ensures.1 in rw (p.1, p.2) (c.in_err-bytes.ensures.0, declines false c.in_err-bytes.field-0.0 (decoded false (key_at true) c.args.d.now) (key_unread true c.args.d.now c.in_err-bytes.ensures.1))

pub returns-in-Ok : goal.returns-in-Ok
returns-in-Ok c = key_looked_at true c.args.d.now c.try_key.new.self c.in_ok-bytes.bytes.now (Some c.in-Ok.text.now) c.in_ok-bytes.ensures c.in-Ok.ensures.value

pub returns-in-Err : goal.returns-in-Err
returns-in-Err c = rw (c.fail_text.ensures.unreadable, c.fail_text.ensures.same) (same_given_up c.args.d.now c.try_key.new.self (kept_decoded false raw_key_at c.args.d.now c.try_key.new.self c.in_ok-bytes.bytes.now c.in_ok-bytes.ensures), key_looked_at true c.args.d.now c.try_key.new.self c.in_ok-bytes.bytes.now None c.in_ok-bytes.ensures c.in-Err.ensures.value)
