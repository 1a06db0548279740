use Rattle.std.proofs.Common.{◌≡◌, refl, sym, ap, ◌∙◌, false, Some}
use Rattle.mmdb_decode.specs.State.{State, decoded}
use Rattle.mmdb_decode.specs.Maps.{name_at, pairs_from, with_pairs_left}
use Rattle.mmdb_decode.proofs.MapLaws.{enters_map, map_read}
use Rattle.mmdb_record.specs.Tables.{fields_of, no_parts, parts_met}
use Rattle.mmdb_record.proofs.MemoLaws.{repeats_read}
use Rattle.mmdb_record.proofs.TableLaws.{record_read}
use Rattle.mmdb_record.proofs.memo.reuse.Goals as goal

pub go_to-requires : goal.go_to-requires
go_to-requires g c =
    let enters = enters_map c.again-here.result c.try_map.new.self c.in-Ok.entries c.in-Ok.ensures in
    let repeats = c.if-not-repeat.ensures.ok refl in
    ap (λ (σ : State). σ.section) c.end_map.ensures ∙ ap (λ (σ : State). σ.section) repeats.same ∙ enters.section ∙ ap (λ (σ : State). σ.section) c.again-here.ensures

pub returns-clause-ok : goal.returns-clause-ok
returns-clause-ok g c =
    let t = g.R.Fields.table in
    let place = c.in-Some.place in
    let kept = rw c.in-Some.is at c.requires in
    let met = kept.1.0 in
    let pairs = pairs_from name_at (fields_of t) (no_parts t) in
    let parts = parts_met t met c.args.known.now in
    let entered = rw c.again-here.ensures at c.in-Ok.ensures in
    let enters = enters_map c.args.d.now c.try_map.new.self c.in-Ok.entries entered in
    let again : decoded false (pairs place.count) c.try_map.new.self ≡ Some (parts, c.repeat.new.self) = repeats_read (pairs place.count) parts place.before place.behind c.try_map.new.self c.repeat.new.self (kept.0 ∙ sym enters.section) (c.if-not-repeat.ensures.ok refl) kept.1.1 in
    let count : place.count ≡ c.in-Ok.entries.remaining = c.if-place-left.false ∙ c.left.ensures in
    let read = rw count at again in
    λ _. rw c.go_to.ensures (record_read t met c.args.known.now c.args.d.now c.end_map.new.self (map_read pairs c.args.d.now c.try_map.new.self c.repeat.new.self c.end_map.new.self c.in-Ok.entries (with_pairs_left 0 c.in-Ok.entries) parts entered read refl (rw c.spend.ensures at c.end_map.ensures)))
