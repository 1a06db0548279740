use Rattle.std.proofs.Common.{refl, map, false, true}
use Rattle.std.proofs.lemmas.Result.{err_from_is_err_and}
use Rattle.mmdb_decode.specs.Arrays.{elements, list_at}
use Rattle.mmdb_decode.specs.Scalars.{u16_at}
use Rattle.mmdb_decode.specs.State.{decoded}
use Rattle.mmdb_decode.proofs.Lists.{enters, list_read, list_not_entered, list_not_read, kept_list, given_up_list}
use Rattle.mmdb_decode.proofs.StepLaws.{fails, fails_more}
use Rattle.test_value.proofs.numbers.NumbersDecode.decode.Goals as goal

pub returns-in_err-items-clause-err : goal.returns-in_err-items-clause-err
returns-in_err-items-clause-err c = let p = err_from_is_err_and c.from_residual.result c.from_residual.ensures.1 in rw (p.1, p.2) (λ e. fails false c.in_err-items.field-0.0 (decoded true (list_at u16_at) c.args.d.now) (list_not_entered u16_at c.args.d.now c.in_err-items.ensures.1))

pub read_items-requires : goal.read_items-requires
read_items-requires c κs = ((refl, tt), (enters c.args.d.now c.begin_array.new.self c.in_ok-items.items c.in_ok-items.ensures).started)

pub returns-in-Ok-clause-ok : goal.returns-in-Ok-clause-ok
returns-in-Ok-clause-ok c e = list_read u16_at c.args.d.now c.begin_array.new.self c.read_items.new.d c.end_array.new.self c.in_ok-items.items c.read_items.new.items (map (λ n. n) c.in-Ok.numbers.items) c.in_ok-items.ensures (c.in-Ok.ensures.ok refl) c.in-Ok.ensures.spent c.end_array.ensures

pub returns-in-Ok-clause-kept : goal.returns-in-Ok-clause-kept
returns-in-Ok-clause-kept c = kept_list c.args.d.now c.begin_array.new.self c.read_items.new.d c.end_array.new.self c.in_ok-items.items c.read_items.new.items (enters c.args.d.now c.begin_array.new.self c.in_ok-items.items c.in_ok-items.ensures) c.in-Ok.ensures.kept c.in-Ok.ensures.spent c.end_array.ensures

pub returns-in-Err-clause-err : goal.returns-in-Err-clause-err
returns-in-Err-clause-err c e = fails_more false c.in-Err.error (decoded false (elements u16_at c.in_ok-items.items.remaining) c.begin_array.new.self) (decoded true (list_at u16_at) c.args.d.now) (list_not_read u16_at c.args.d.now c.begin_array.new.self c.in_ok-items.items c.in_ok-items.ensures) (c.in-Err.ensures.err refl)

pub returns-in-Err-clause-given_up : goal.returns-in-Err-clause-given_up
returns-in-Err-clause-given_up c = given_up_list c.args.d.now c.begin_array.new.self c.read_items.new.d c.give_up.new.d c.in_ok-items.items _ (enters c.args.d.now c.begin_array.new.self c.in_ok-items.items c.in_ok-items.ensures) c.in-Err.ensures.given_up c.give_up.ensures
