use Rattle.std.proofs.Common.{◌-◌, refl, false}
use Rattle.std.proofs.lemmas.Result.{err_from_is_err_and}
use Rattle.mmdb_decode.specs.Maps.{name_at}
use Rattle.mmdb_decode.specs.Errors.{Kept}
use Rattle.mmdb_decode.specs.State.{decoded}
use Rattle.mmdb_decode.proofs.MapLaws.{pairs_done, pairs_go_on, pairs_stop, pairs_nameless, some_left_to_read, same_entries}
use Rattle.mmdb_decode.proofs.StepLaws.{fails, fails_more, kept_decoded, kept_trans, given_up_trans, still_begun}
use Rattle.mmdb_record.proofs.record.read_fields.Goals as goal

pub returns-in_err-name-clause-err : goal.returns-in_err-name-clause-err
returns-in_err-name-clause-err g c = let p = err_from_is_err_and c.from_residual.result c.from_residual.ensures.1 in rw (p.1, p.2) (fails g.R.Record.free c.in_err-name.field-0.0 _ (pairs_nameless name_at g.R.Record.fields _ (g.R.Record.datum c.loop-record.record) c.loop-record.entries.remaining (c.loop-record.entries.remaining - 1) c.loop-record.d c.loop-record.invariant.rest (some_left_to_read c.loop-record.entries.remaining c.in_err-name.ensures.key.some) c.in_err-name.ensures.key.fails))

pub read_field-requires : goal.read_field-requires
read_field-requires g c κs = let k = rw c.in-Some.is at c.in_ok-name.ensures.key in ((refl, tt), still_begun c.loop-record.d.budget c.next_field.new.self.budget (kept_decoded false name_at c.loop-record.d c.next_field.new.self c.in-Some.name.now k.step).charges c.loop-record.invariant.started)

pub loop-record-preserved : goal.loop-record-preserved
loop-record-preserved g c =
    let k = rw c.in-Some.is at c.in_ok-name.ensures.key in
    let named : Kept c.loop-record.d c.next_field.new.self = kept_decoded false name_at c.loop-record.d c.next_field.new.self c.in-Some.name.now k.step in
    let read : Kept c.next_field.new.self c.read_field.new.d = kept_decoded false (g.R.Record.fields (g.R.Record.datum c.loop-record.record) c.in-Some.name.now) c.next_field.new.self c.read_field.new.d (g.R.Record.datum c.read_field.new.self) c.in_ok-read_field.ensures.ok in
    let both : Kept c.loop-record.d c.read_field.new.d = kept_trans c.loop-record.d c.next_field.new.self c.read_field.new.d named read in
    record {
      rest = pairs_go_on name_at g.R.Record.fields _ (g.R.Record.datum c.loop-record.record) (g.R.Record.datum c.read_field.new.self) c.in-Some.name.now c.loop-record.entries.remaining c.next_field.new.entries.remaining c.loop-record.d c.next_field.new.self c.read_field.new.d c.loop-record.invariant.rest k.one k.step c.in_ok-read_field.ensures.ok;
      kept = kept_trans c.args.d.now c.loop-record.d c.read_field.new.d c.loop-record.invariant.kept both;
      started = still_begun c.loop-record.d.budget c.read_field.new.d.budget both.charges c.loop-record.invariant.started;
      same = same_entries c.args.entries.now c.loop-record.entries c.next_field.new.entries c.loop-record.invariant.same c.in_ok-name.ensures.rest;
    }

pub returns-in_err-read_field-clause-err : goal.returns-in_err-read_field-clause-err
returns-in_err-read_field-clause-err g c =
    let k = rw c.in-Some.is at c.in_ok-name.ensures.key in
    let p = err_from_is_err_and c.from_residual-in_err-read_field.result c.from_residual-in_err-read_field.ensures.1 in
    rw (p.1, p.2) (fails_more g.R.Record.free c.in_err-read_field.field-0.0 (decoded false (g.R.Record.fields (g.R.Record.datum c.loop-record.record) c.in-Some.name.now) c.next_field.new.self) _ (pairs_stop name_at g.R.Record.fields _ (g.R.Record.datum c.loop-record.record) c.in-Some.name.now c.loop-record.entries.remaining c.next_field.new.entries.remaining c.loop-record.d c.next_field.new.self c.loop-record.invariant.rest k.one k.step) c.in_err-read_field.ensures.err)

pub returns-in_err-read_field-clause-given_up : goal.returns-in_err-read_field-clause-given_up
returns-in_err-read_field-clause-given_up g c =
    let k = rw c.in-Some.is at c.in_ok-name.ensures.key in
    let p = err_from_is_err_and c.from_residual-in_err-read_field.result c.from_residual-in_err-read_field.ensures.1 in
    let named : Kept c.loop-record.d c.next_field.new.self = kept_decoded false name_at c.loop-record.d c.next_field.new.self c.in-Some.name.now k.step in
    rw p.1 (given_up_trans c.args.d.now c.next_field.new.self c.read_field.new.d (kept_trans c.args.d.now c.loop-record.d c.next_field.new.self c.loop-record.invariant.kept named) c.in_err-read_field.ensures.given_up)

pub returns-clause-ok : goal.returns-clause-ok
returns-clause-ok g c = let k = rw c.in_default.is at c.in_ok-name.ensures.key in pairs_done name_at g.R.Record.fields _ (g.R.Record.datum c.loop-record.record) c.loop-record.entries.remaining c.loop-record.d c.next_field.new.self c.loop-record.invariant.rest k.none k.same k.within

pub returns-clause-spent : goal.returns-clause-spent
returns-clause-spent g c = let k = rw c.in_default.is at c.in_ok-name.ensures.key in k.spent
