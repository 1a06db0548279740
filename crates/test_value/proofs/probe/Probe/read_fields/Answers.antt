use Rattle.std.proofs.Common.{◌-◌, true, false}
use Rattle.std.proofs.lemmas.Result.{err_from_is_err_and}
use Rattle.mmdb_decode.specs.Maps.{name_at}
use Rattle.mmdb_decode.specs.Errors.{Kept}
use Rattle.mmdb_decode.specs.State.{decoded}
use Rattle.test_value.specs.Probe.{fields_of, probe_fields}
use Rattle.mmdb_decode.proofs.MapLaws.{pairs_done, pairs_go_on, pairs_stop, pairs_nameless, some_left_to_read, same_entries}
use Rattle.mmdb_decode.proofs.StepLaws.{fails, fails_more, kept_decoded, kept_trans, given_up_trans, still_begun}
use Rattle.test_value.proofs.probe.Probe.read_fields.Goals as goal

pub returns-in_err-name-clause-err : goal.returns-in_err-name-clause-err
returns-in_err-name-clause-err c = rw (err_from_is_err_and c.from_residual.result c.from_residual.ensures.1).1 (fails true c.in_err-name.field-0.0 _ (pairs_nameless name_at probe_fields _ (fields_of c.loop-name.probe) c.loop-name.entries.remaining (c.loop-name.entries.remaining - 1) c.loop-name.d c.loop-name.invariant.rest (some_left_to_read c.loop-name.entries.remaining c.in_err-name.ensures.key.some) c.in_err-name.ensures.key.fails))

pub read_field-requires : goal.read_field-requires
read_field-requires c = let k = rw c.in-Some.is at c.in_ok-name.ensures.key in still_begun c.loop-name.d.budget c.next_field.new.self.budget (kept_decoded false name_at c.loop-name.d c.next_field.new.self c.in-Some.name.now k.step).charges c.loop-name.invariant.started

pub loop-name-preserved : goal.loop-name-preserved
loop-name-preserved c =
    let k = rw c.in-Some.is at c.in_ok-name.ensures.key in
    let named : Kept c.loop-name.d c.next_field.new.self = kept_decoded false name_at c.loop-name.d c.next_field.new.self c.in-Some.name.now k.step in
    let read : Kept c.next_field.new.self c.read_field.new.d = kept_decoded false (probe_fields (fields_of c.loop-name.probe) c.in-Some.name.now) c.next_field.new.self c.read_field.new.d (fields_of c.read_field.new.self) c.in_ok-read_field.ensures.ok in
    let both : Kept c.loop-name.d c.read_field.new.d = kept_trans c.loop-name.d c.next_field.new.self c.read_field.new.d named read in
    record {
      rest = pairs_go_on name_at probe_fields _ (fields_of c.loop-name.probe) (fields_of c.read_field.new.self) c.in-Some.name.now c.loop-name.entries.remaining c.next_field.new.entries.remaining c.loop-name.d c.next_field.new.self c.read_field.new.d c.loop-name.invariant.rest k.one k.step c.in_ok-read_field.ensures.ok;
      kept = kept_trans c.args.d.now c.loop-name.d c.read_field.new.d c.loop-name.invariant.kept both;
      started = still_begun c.loop-name.d.budget c.read_field.new.d.budget both.charges c.loop-name.invariant.started;
      same = same_entries c.args.entries.now c.loop-name.entries c.next_field.new.entries c.loop-name.invariant.same c.in_ok-name.ensures.rest;
    }

pub returns-in_err-read_field-clause-err : goal.returns-in_err-read_field-clause-err
returns-in_err-read_field-clause-err c =
    let k = rw c.in-Some.is at c.in_ok-name.ensures.key in
    let p = err_from_is_err_and c.from_residual-in_err-read_field.result c.from_residual-in_err-read_field.ensures.1 in
    rw p.1 (fails_more true c.in_err-read_field.field-0.0 (decoded false (probe_fields (fields_of c.loop-name.probe) c.in-Some.name.now) c.next_field.new.self) _ (pairs_stop name_at probe_fields _ (fields_of c.loop-name.probe) c.in-Some.name.now c.loop-name.entries.remaining c.next_field.new.entries.remaining c.loop-name.d c.next_field.new.self c.loop-name.invariant.rest k.one k.step) c.in_err-read_field.ensures.err)

pub returns-in_err-read_field-clause-given_up : goal.returns-in_err-read_field-clause-given_up
returns-in_err-read_field-clause-given_up c =
    let k = rw c.in-Some.is at c.in_ok-name.ensures.key in
    let p = err_from_is_err_and c.from_residual-in_err-read_field.result c.from_residual-in_err-read_field.ensures.1 in
    let named : Kept c.loop-name.d c.next_field.new.self = kept_decoded false name_at c.loop-name.d c.next_field.new.self c.in-Some.name.now k.step in
    rw p.1 (given_up_trans c.args.d.now c.next_field.new.self c.read_field.new.d (kept_trans c.args.d.now c.loop-name.d c.next_field.new.self c.loop-name.invariant.kept named) c.in_err-read_field.ensures.given_up)

pub returns-clause-ok : goal.returns-clause-ok
returns-clause-ok c = let k = rw c.in_default.is at c.in_ok-name.ensures.key in pairs_done name_at probe_fields _ (fields_of c.loop-name.probe) c.loop-name.entries.remaining c.loop-name.d c.next_field.new.self c.loop-name.invariant.rest k.none k.same k.within

pub returns-clause-spent : goal.returns-clause-spent
returns-clause-spent c = let k = rw c.in_default.is at c.in_ok-name.ensures.key in k.spent
