use Rattle.std.proofs.Common.{◌≡◌, ◌+◌, ◌<◌, ◌∷◌, [], drop, get_or, length, sym, ap, ◌∙◌, subst, arith, IfSome}
use Rattle.std.proofs.lemmas.List.{drop_more, drop_all}
use Rattle.mmdb_reader.specs.File.{data_section}
use Rattle.mmdb_query.specs.Abreast.{IsLonger}
use Rattle.mmdb_query.specs.Segments.{sections_of, offsets_of}
use Rattle.mmdb_query.proofs.SegmentLaws.{KeyWay, key_step, key_done}
use Rattle.mmdb_query.proofs.segment.SegmentAnswer.key.Goals as goal

pub loop-one-preserved : goal.loop-one-preserved
loop-one-preserved g c =
    let all = c.args.self.now.records.items in
    let place = c.loop-one.one-index in
    let one = c.one-item.result in
    let key = c.loop-one.key in
    let next = c.longer_key-key.result in
    let within : place < length all = omega (arith, c.loop-one-test.true) in
    let here : drop place all ≡ one ∷ drop (place + 1) all = drop_more all place one within ∙ ap (λ r. r ∷ drop (place + 1) all) (sym (c.one-item.is ∙ ap (λ l. get_or l place one) c.deref-one-items.ensures.value)) in
    let longer = subst (λ s. IfSome next (IsLonger key s one.offset)) c.data_section.ensures c.longer_key-key.ensures in
    let way = subst (λ l. KeyWay (sections_of all) (offsets_of all) key (sections_of l) (offsets_of l)) here c.loop-one.invariant in
    key_step (sections_of all) (sections_of (drop (place + 1) all)) (offsets_of all) (offsets_of (drop (place + 1) all)) key next (data_section one.reader.now) one.offset way longer

pub returns : goal.returns
returns g c =
    let all = c.args.self.now.records.items in
    let place = c.loop-one.one-index in
    let none : drop place all ≡ [] = drop_all place all (omega (arith, c.loop-one-test.false)) in
    key_done (sections_of all) (offsets_of all) c.loop-one.key
    (subst (λ l. KeyWay (sections_of all) (offsets_of all) c.loop-one.key (sections_of l) (offsets_of l)) none c.loop-one.invariant)
