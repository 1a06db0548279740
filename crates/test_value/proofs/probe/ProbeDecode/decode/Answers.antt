use Rattle.std.proofs.Common.{true, false}
use Rattle.std.proofs.lemmas.Result.{err_from_is_err_and}
use Rattle.mmdb_decode.specs.Maps.{name_at, pairs_from}
use Rattle.mmdb_decode.specs.State.{decoded}
use Rattle.test_value.specs.Probe.{fields_of, no_probe, probe_fields}
use Rattle.mmdb_decode.proofs.MapLaws.{enters_map, map_read, map_not_entered, map_not_read, kept_map, given_up_map}
use Rattle.mmdb_decode.proofs.StepLaws.{fails, fails_more}
use Rattle.test_value.proofs.probe.ProbeDecode.decode.Goals as goal

pub returns-in_err-entries-clause-err : goal.returns-in_err-entries-clause-err
returns-in_err-entries-clause-err c = rw (err_from_is_err_and c.from_residual.result c.from_residual.ensures.1).1 (λ e. fails true c.in_err-entries.field-0.0 _ (map_not_entered (pairs_from name_at probe_fields no_probe) c.args.d.now c.in_err-entries.ensures.1))

pub read_fields-requires : goal.read_fields-requires
read_fields-requires c = (enters_map c.args.d.now c.begin_map.new.self c.in_ok-entries.entries c.in_ok-entries.ensures).started

pub returns-in-Ok-clause-ok : goal.returns-in-Ok-clause-ok
returns-in-Ok-clause-ok c e = map_read (pairs_from name_at probe_fields no_probe) c.args.d.now c.begin_map.new.self c.read_fields.new.d c.end_map.new.self c.in_ok-entries.entries c.read_fields.new.entries (fields_of c.in-Ok.probe) c.in_ok-entries.ensures c.in-Ok.ensures.ok c.in-Ok.ensures.rest c.end_map.ensures

pub returns-in-Ok-clause-kept : goal.returns-in-Ok-clause-kept
returns-in-Ok-clause-kept c = kept_map c.args.d.now c.begin_map.new.self c.read_fields.new.d c.end_map.new.self c.in_ok-entries.entries c.read_fields.new.entries (enters_map c.args.d.now c.begin_map.new.self c.in_ok-entries.entries c.in_ok-entries.ensures) c.in-Ok.ensures.kept c.in-Ok.ensures.rest c.end_map.ensures

pub returns-in-Err-clause-err : goal.returns-in-Err-clause-err
returns-in-Err-clause-err c e = fails_more true c.in-Err.error (decoded false (pairs_from name_at probe_fields no_probe c.in_ok-entries.entries.remaining) c.begin_map.new.self) _ (map_not_read (pairs_from name_at probe_fields no_probe) c.args.d.now c.begin_map.new.self c.in_ok-entries.entries c.in_ok-entries.ensures) c.in-Err.ensures.err

pub returns-in-Err-clause-given_up : goal.returns-in-Err-clause-given_up
returns-in-Err-clause-given_up c = given_up_map c.args.d.now c.begin_map.new.self c.read_fields.new.d c.give_up.new.d c.in_ok-entries.entries _ (enters_map c.args.d.now c.begin_map.new.self c.in_ok-entries.entries c.in_ok-entries.ensures) c.in-Err.ensures.given_up c.give_up.ensures
