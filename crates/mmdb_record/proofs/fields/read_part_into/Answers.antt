use Rattle.std.proofs.Common.{rules, false, true}
use Rattle.std.proofs.lemmas.Result.{err_from_is_err_and}
use Rattle.mmdb_decode.specs.State.{decoded}
use Rattle.mmdb_decode.proofs.StepLaws.{declines, declines_more, given_up_kept, kept_same}
use Rattle.mmdb_record.specs.Tables.{data_of, part_once, record_of}
use Rattle.mmdb_record.proofs.TableLaws.{part_taken, part_first, part_missing}
use Rattle.mmdb_record.proofs.fields.read_part_into.Goals as goal

pub returns-then-met-clause-read : goal.returns-then-met-clause-read
returns-then-met-clause-read g c = record { ok = tt; err = declines g.R.Fields.free c.fail_repeated.result _ (part_taken (record_of g.R.Fields.table) c.args.met.now (data_of g.R.Fields.table c.args.part.now) c.args.d.now (search rules)); given_up = given_up_kept c.args.d.now c.fail_repeated.new.self (rw c.fail_repeated.ensures.same (kept_same c.args.d.now)) }

pub returns-in_err-read_into-clause-read : goal.returns-in_err-read_into-clause-read
returns-in_err-read_into-clause-read g c =
    let p = err_from_is_err_and c.from_residual.result c.from_residual.ensures.1 in
    let missing = declines_more g.R.Fields.free c.in_err-read_into.field-0.0 (decoded true (record_of g.R.Fields.table) c.args.d.now) (decoded false (part_once (record_of g.R.Fields.table) _) c.args.d.now) (part_missing true (record_of g.R.Fields.table) c.args.met.now (data_of g.R.Fields.table c.args.part.now) c.args.d.now (search rules) c.requires) c.in_err-read_into.ensures.read.err in
    rw (p.1, p.2) (record { ok = tt; err = missing; given_up = c.in_err-read_into.ensures.read.given_up })

pub returns-clause-read : goal.returns-clause-read
returns-clause-read g c = record { ok = part_first true (record_of g.R.Fields.table) c.args.met.now (data_of g.R.Fields.table c.args.part.now) _ c.args.d.now c.read_into.new.d (search rules) c.requires c.in_ok-read_into.ensures.read.ok; err = tt; given_up = tt }
