use Rattle.std.proofs.Common.{rules, false}
use Rattle.std.proofs.lemmas.Result.{err_from_is_err_and}
use Rattle.mmdb_record.specs.Records.{once}
use Rattle.mmdb_decode.specs.State.{decoded}
use Rattle.mmdb_record.proofs.RecordLaws.{once_taken, once_first, once_missing}
use Rattle.mmdb_decode.proofs.StepLaws.{fails, fails_more, given_up_kept, kept_same}
use Rattle.mmdb_record.proofs.record.read_once.Goals as goal

pub returns-then-is_some : goal.returns-then-is_some
returns-then-is_some g c = record { ok = tt; err = fails g.T.Decode.free c.duplicate_field.result _ (once_taken g.T.Decode.datum g.T.Decode.meaning c.args.slot.now c.args.d.now (search rules)); given_up = given_up_kept c.args.d.now c.args.d.now (kept_same c.args.d.now) }

pub returns-in_err-decode : goal.returns-in_err-decode
returns-in_err-decode g c =
    let p = err_from_is_err_and c.from_residual.result c.from_residual.ensures.1 in
    let missing = fails_more g.T.Decode.free c.in_err-decode.field-0.0 (decoded g.T.Decode.starts g.T.Decode.meaning c.args.d.now) (decoded false (once g.T.Decode.meaning _) c.args.d.now) (once_missing g.T.Decode.datum g.T.Decode.meaning g.T.Decode.starts c.args.slot.now c.args.d.now (search rules) c.requires.started) (c.in_err-decode.ensures.err c.requires.exact) in
    rw (p.1, p.2) (record { ok = tt; err = missing; given_up = c.in_err-decode.ensures.given_up })

pub returns : goal.returns
returns g c = record { ok = once_first g.T.Decode.datum g.T.Decode.meaning g.T.Decode.starts c.args.slot.now c.args.d.now c.decode.new.d c.in_ok-decode.field-0 (search rules) c.requires.started (c.in_ok-decode.ensures.ok c.requires.exact); err = tt; given_up = tt }
