use Rattle.std.proofs.Common.{◌<◌, length, map, ap, ◌∙◌, refl, arith}
use Rattle.std.proofs.lemmas.List.{take_all}
use Rattle.mmdb_reader.specs.File.{data_section}
use Rattle.mmdb_compare.specs.Coming.Answer.{Nothing}
use Rattle.mmdb_compare.specs.Together.{offset_of}
use Rattle.mmdb_query.specs.Abreast.{offsets_said}
use Rattle.mmdb_query.proofs.AbreastLaws.{as_many, one_more}
use Rattle.mmdb_query.proofs.many.Many.records.Goals as goal

pub loop-place-preserved : goal.loop-place-preserved
loop-place-preserved g c =
    let many = c.args.self.now in
    let i = c.loop-place.invariant in
    let place = c.loop-place.place in
    let asked = many.databases.now in
    let answers = many.together.answers in
    let count_asked = as_many (λ d. d.reader.now) asked many.together.databases c.count-count.result many.of_these c.count-count.ensures.databases in
    let within : place < length answers = omega (arith, c.loop-place-test.true, c.count-count.ensures.answers) in
    let within_asked : place < length asked = omega (arith, c.loop-place-test.true, count_asked) in
    record {
      sections = one_more (λ r. data_section r.reader.now) (λ d. data_section d.reader.now) c.loop-place.records.items c.push.new.self.items _ asked place c.index-self-place.result c.in_ok-push.ensures.items i.sections within_asked refl;
      offsets = one_more (λ r. r.offset) offset_of c.loop-place.records.items c.push.new.self.items _ answers place Nothing c.in_ok-push.ensures.items i.offsets within c.offset.ensures;
    }

pub returns-clause-sections : goal.returns-clause-sections
returns-clause-sections g c =
    let many = c.args.self.now in
    let asked = many.databases.now in
    let count_asked = as_many (λ d. d.reader.now) asked many.together.databases c.count-count.result many.of_these c.count-count.ensures.databases in
    c.loop-place.invariant.sections ∙ ap (map (λ d. data_section d.reader.now)) (take_all c.loop-place.place asked (omega (arith, c.loop-place-test.false, count_asked)))

pub returns-clause-offsets : goal.returns-clause-offsets
returns-clause-offsets g c =
    let answers = c.args.self.now.together.answers in
    c.loop-place.invariant.offsets ∙ ap offsets_said (take_all c.loop-place.place answers (omega (arith, c.loop-place-test.false, c.count-count.ensures.answers)))
