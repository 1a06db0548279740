use Rattle.std.proofs.Common.{◌-◌, refl, sym, false, ◌∙◌, ap, subst}
use Rattle.std.proofs.lemmas.Result.{err_from_is_err_and}
use Rattle.mmdb_decode.specs.Maps.{name_at, pairs_from}
use Rattle.mmdb_decode.specs.Errors.{Kept}
use Rattle.mmdb_decode.specs.State.{decoded}
use Rattle.mmdb_record.specs.Tables.{fields_of, no_parts, parts_met, flags}
use Rattle.mmdb_decode.proofs.MapLaws.{pairs_done, pairs_go_on, pairs_stop, pairs_nameless, some_left_to_read, same_entries}
use Rattle.mmdb_decode.proofs.StepLaws.{declines, declines_more, kept_decoded, kept_same, kept_trans, given_up_trans, still_begun}
use Rattle.mmdb_record.specs.Memos.{IsKept}
use Rattle.mmdb_record.proofs.MemoLaws.{kept_at_first}
use Rattle.mmdb_record.proofs.TableLaws.{parts_at_first}
use Rattle.mmdb_record.proofs.fields.read_each.Goals as goal

pub loop-name-init : goal.loop-name-init
loop-name-init g c =
    let t = g.R.Fields.table in
    record {
      rest = ap (λ p. decoded false (pairs_from name_at (fields_of t) p c.args.entries.now.remaining) c.args.d.now) (sym (parts_at_first t (flags c.none-met.result) c.args.fields.now c.none-met.ensures.none c.requires.none));
      kept = kept_same c.args.d.now;
      started = c.requires.started;
      kept_part = kept_at_first g.R.Fields.kept c.none-met.result c.args.fields.now c.args.d.now.section c.none-met.ensures.place;
      same = refl;
    }

pub returns-in_err-name : goal.returns-in_err-name
returns-in_err-name g c =
    let p = err_from_is_err_and c.from_residual.result c.from_residual.ensures.1 in
    let t = g.R.Fields.table in
    let met = flags c.loop-name.met in
    rw (p.1, p.2) (
      met,
      record {
        ok = tt;
        err = declines g.R.Fields.free c.in_err-name.field-0.0 _ (pairs_nameless name_at (fields_of t) (decoded false (pairs_from name_at (fields_of t) (no_parts t) c.args.entries.now.remaining) c.args.d.now) (parts_met t met c.loop-name.fields) c.loop-name.entries.remaining (c.loop-name.entries.remaining - 1) c.loop-name.d c.loop-name.invariant.rest (some_left_to_read c.loop-name.entries.remaining c.in_err-name.ensures.key.some) c.in_err-name.ensures.key.fails);
        given_up = given_up_trans c.args.d.now c.loop-name.d c.try_next.new.self c.loop-name.invariant.kept c.in_err-name.ensures.key.given_up;
        rest = same_entries c.args.entries.now c.loop-name.entries c.try_next.new.entries c.loop-name.invariant.same c.in_err-name.ensures.rest;
        spent = tt;
      },
    )

pub read_field-requires : goal.read_field-requires
read_field-requires g c κs =
    let k = rw c.in-Some.is at c.in_ok-name.ensures.key in
    let named : Kept c.loop-name.d c.try_next.new.self = kept_decoded false name_at c.loop-name.d c.try_next.new.self c.in-Some.name.now k.step in
    ((refl, tt), (still_begun c.loop-name.d.budget c.try_next.new.self.budget named.charges c.loop-name.invariant.started, subst (λ s. IsKept g.R.Fields.kept c.loop-name.met c.loop-name.fields s) (sym (named.section ∙ c.loop-name.invariant.kept.section)) c.loop-name.invariant.kept_part))

pub loop-name-preserved : goal.loop-name-preserved
loop-name-preserved g c =
    let t = g.R.Fields.table in
    let k = rw c.in-Some.is at c.in_ok-name.ensures.key in
    let before = parts_met t (flags c.loop-name.met) c.loop-name.fields in
    let then = parts_met t (flags c.read_field.new.met) c.read_field.new.self in
    let named : Kept c.loop-name.d c.try_next.new.self = kept_decoded false name_at c.loop-name.d c.try_next.new.self c.in-Some.name.now k.step in
    let read : Kept c.try_next.new.self c.read_field.new.d = kept_decoded false (fields_of t before c.in-Some.name.now) c.try_next.new.self c.read_field.new.d then c.in_ok-read_field.ensures.read.ok in
    let both : Kept c.loop-name.d c.read_field.new.d = kept_trans c.loop-name.d c.try_next.new.self c.read_field.new.d named read in
    record {
      rest = pairs_go_on name_at (fields_of t) (decoded false (pairs_from name_at (fields_of t) (no_parts t) c.args.entries.now.remaining) c.args.d.now) before then c.in-Some.name.now c.loop-name.entries.remaining c.try_next.new.entries.remaining c.loop-name.d c.try_next.new.self c.read_field.new.d c.loop-name.invariant.rest k.one k.step c.in_ok-read_field.ensures.read.ok;
      kept = kept_trans c.args.d.now c.loop-name.d c.read_field.new.d c.loop-name.invariant.kept both;
      started = still_begun c.loop-name.d.budget c.read_field.new.d.budget both.charges c.loop-name.invariant.started;
      kept_part = subst (λ s. IsKept g.R.Fields.kept c.read_field.new.met c.read_field.new.self s) (named.section ∙ c.loop-name.invariant.kept.section) c.in_ok-read_field.ensures.kept;
      same = same_entries c.args.entries.now c.loop-name.entries c.try_next.new.entries c.loop-name.invariant.same c.in_ok-name.ensures.rest;
    }

pub returns-in_err-read_field : goal.returns-in_err-read_field
returns-in_err-read_field g c =
    let t = g.R.Fields.table in
    let k = rw c.in-Some.is at c.in_ok-name.ensures.key in
    let p = err_from_is_err_and c.from_residual-in_err-read_field.result c.from_residual-in_err-read_field.ensures.1 in
    let met = flags c.loop-name.met in
    let named : Kept c.loop-name.d c.try_next.new.self = kept_decoded false name_at c.loop-name.d c.try_next.new.self c.in-Some.name.now k.step in
    rw (p.1, p.2) (
      met,
      record {
        ok = tt;
        err = declines_more g.R.Fields.free c.in_err-read_field.field-0.0 (decoded false (fields_of t (parts_met t met c.loop-name.fields) c.in-Some.name.now) c.try_next.new.self) _ (pairs_stop name_at (fields_of t) (decoded false (pairs_from name_at (fields_of t) (no_parts t) c.args.entries.now.remaining) c.args.d.now) (parts_met t met c.loop-name.fields) c.in-Some.name.now c.loop-name.entries.remaining c.try_next.new.entries.remaining c.loop-name.d c.try_next.new.self c.loop-name.invariant.rest k.one k.step) c.in_err-read_field.ensures.read.err;
        given_up = given_up_trans c.args.d.now c.try_next.new.self c.read_field.new.d (kept_trans c.args.d.now c.loop-name.d c.try_next.new.self c.loop-name.invariant.kept named) c.in_err-read_field.ensures.read.given_up;
        rest = same_entries c.args.entries.now c.loop-name.entries c.try_next.new.entries c.loop-name.invariant.same c.in_ok-name.ensures.rest;
        spent = tt;
      },
    )

pub returns : goal.returns
returns g c =
    let t = g.R.Fields.table in
    let k = rw c.in_default.is at c.in_ok-name.ensures.key in
    let met = flags c.loop-name.met in (
      met,
      record {
        ok = pairs_done name_at (fields_of t) (decoded false (pairs_from name_at (fields_of t) (no_parts t) c.args.entries.now.remaining) c.args.d.now) (parts_met t met c.loop-name.fields) c.loop-name.entries.remaining c.loop-name.d c.try_next.new.self c.loop-name.invariant.rest k.none k.same k.within;
        err = tt;
        given_up = tt;
        rest = same_entries c.args.entries.now c.loop-name.entries c.try_next.new.entries c.loop-name.invariant.same c.in_ok-name.ensures.rest;
        spent = k.spent;
      },
    )
