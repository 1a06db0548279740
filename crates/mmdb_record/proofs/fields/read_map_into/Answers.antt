use Rattle.std.proofs.Common.{◌≡◌, Bool, true, false, refl}
use Rattle.std.proofs.lemmas.Result.{err_from_is_err_and}
use Rattle.mmdb_decode.specs.Maps.{name_at, pairs_from}
use Rattle.mmdb_decode.specs.State.{decoded}
use Rattle.mmdb_record.specs.Tables.{fields_of, no_parts, parts_met}
use Rattle.mmdb_decode.proofs.MapLaws.{enters_map, map_read, map_not_entered, map_not_read, given_up_in_map}
use Rattle.mmdb_decode.proofs.StepLaws.{declines, declines_more}
use Rattle.mmdb_record.proofs.TableLaws.{record_read, record_declined}
use Rattle.mmdb_record.proofs.fields.read_map_into.Goals.{then-this-ne0, else-this-ne0}
use Rattle.mmdb_record.proofs.fields.read_map_into.Goals as goal

unlike : {P : Type 0} → ◌≡◌ {A = Bool} false true → P
unlike h = absurd (cc)

pub returns-in_err-entries-clause-read : goal.returns-in_err-entries-clause-read
returns-in_err-entries-clause-read g c =
    let p = err_from_is_err_and c.from_residual.result c.from_residual.ensures.1 in
    let t = g.R.Fields.table in
    rw (p.1, p.2) (record {
      ok = tt;
      err = record_declined g.R.Fields.free c.in_err-entries.field-0.0 t c.args.d.now (declines g.R.Fields.free c.in_err-entries.field-0.0 _ (map_not_entered (pairs_from name_at (fields_of t) (no_parts t)) c.args.d.now c.in_err-entries.ensures.1));
      given_up = c.in_err-entries.ensures.0;
    })

pub read_each-requires : goal.read_each-requires
read_each-requires g c κs =
    let enters = enters_map c.args.d.now c.try_map.new.self c.in_ok-entries.entries c.in_ok-entries.ensures in
    ((refl, tt), (c.requires, enters.started))

pub returns-after-this-ne0-clause-read : goal.returns-after-this-ne0-clause-read
returns-after-this-ne0-clause-read g c =
    let t = g.R.Fields.table in
    let met = c.in-Ok.ensures.0 in
    let read = c.in-Ok.ensures.1 in
    record {
      ok = record_read t met c.read_each.new.fields c.args.d.now c.end_map.new.self (map_read (pairs_from name_at (fields_of t) (no_parts t)) c.args.d.now c.try_map.new.self c.read_each.new.d c.end_map.new.self c.in_ok-entries.entries c.read_each.new.entries (parts_met t met c.read_each.new.fields) c.in_ok-entries.ensures read.ok read.rest c.end_map.ensures);
      err = tt;
      given_up = tt;
    }

pub returns-after-this-ne0-clause-noted : goal.returns-after-this-ne0-clause-noted
returns-after-this-ne0-clause-noted g c =
    let enters = enters_map c.args.d.now c.try_map.new.self c.in_ok-entries.entries c.in_ok-entries.ensures in
    let read = c.in-Ok.ensures in
    λ n. elim c.if-this-ne0.branch [
      | then-this-ne0 w ↦ rw (w.place-is, w.again.ensures, c.again-before.ensures, c.left-count.ensures) (enters.section, (read.0, read.1.ok))
      | else-this-ne0 w ↦ unlike (rw w.if-this-ne0.false at n)
    ]

pub returns-in-Err-clause-read : goal.returns-in-Err-clause-read
returns-in-Err-clause-read g c =
    let t = g.R.Fields.table in
    let unread = c.in-Err.ensures.1 in
    record {
      ok = tt;
      err = record_declined g.R.Fields.free c.in-Err.rejected t c.args.d.now (declines_more g.R.Fields.free c.in-Err.rejected (decoded false (pairs_from name_at (fields_of t) (no_parts t) c.in_ok-entries.entries.remaining) c.try_map.new.self) _ (map_not_read (pairs_from name_at (fields_of t) (no_parts t)) c.args.d.now c.try_map.new.self c.in_ok-entries.entries c.in_ok-entries.ensures) unread.err);
      given_up = given_up_in_map c.args.d.now c.try_map.new.self c.read_each.new.d c.in_ok-entries.entries (enters_map c.args.d.now c.try_map.new.self c.in_ok-entries.entries c.in_ok-entries.ensures) unread.given_up;
    }
