use Rattle.std.proofs.Common.{rules, ◌≡◌, ◌∙◌, refl, ap}
use Rattle.std.proofs.lemmas.Result.{on_ok_weaker}
use Rattle.mmdb_compare.specs.Together.{offset_in}
use Rattle.mmdb_cmd_diff.specs.Comparing.{untold_by}
use Rattle.mmdb_cmd_diff.specs.Lines.{with_stretch}
use Rattle.mmdb_cmd_diff.specs.Walked.{both_of}
use Rattle.mmdb_cmd_diff.proofs.Gathering.{goes-added, goes-out, goes-then, last-alike, out-alike, there-as, there-of, waits-with}
use Rattle.mmdb_cmd_diff.proofs.comparison.take_stretch.Goals as goal

pub returns-then-were_last_same-clause-goes_on : goal.returns-then-were_last_same-clause-goes_on
returns-then-were_last_same-clause-goes_on g c left compared so few taken =
    let now = c.args.so_far.now in
    let answers = c.args.together.now.answers in
    let is_old : c.offset-old.result ≡ offset_in answers 0 = c.offset-old.ensures ∙ ap (offset_in answers) c.place.ensures in
    let is_new : c.offset-new.result ≡ offset_in answers 1 = c.offset-new.ensures ∙ ap (offset_in answers) c.place-2.ensures in
    let alike = last-alike now.pairs.shown now.pairs.kept c.of-offsets.result _ _ so.ready.kept (c.were_last_same.ensures c.if-were_last_same.true) c.of-offsets.ensures in
    goes-out left now c.args.part _ so
    (out-alike now.kinds now.pairs.shown (both_of left) c.args.part _ _ (there-as (both_of left) c.args.part _ _ _ _ is_old is_new (there-of left c.args.part answers taken)) alike)

pub returns-clause-goes_on : goal.returns-clause-goes_on
returns-clause-goes_on g c left compared so few taken =
    let now = c.args.so_far.now in
    let answers = c.args.together.now.answers in
    let is_old : c.offset-old.result ≡ offset_in answers 0 = c.offset-old.ensures ∙ ap (offset_in answers) c.place.ensures in
    let is_new : c.offset-new.result ≡ offset_in answers 1 = c.offset-new.ensures ∙ ap (offset_in answers) c.place-2.ensures in
    goes-added left now (record now { waiting = c.add.new.self }) _ c.of-offsets.result _ refl refl refl c.in_ok-add.ensures.stretches c.in_ok-add.ensures.offsets so few
    (waits-with left _ c.of-offsets.result answers c.offset-old.result c.offset-new.result taken is_old is_new (search rules) (search rules) c.of-offsets.ensures)

pub returns-then-branch-clause-goes_on : goal.returns-then-branch-clause-goes_on
returns-then-branch-clause-goes_on g c left compared so few taken =
    let now = c.args.so_far.now in
    let answers = c.args.together.now.answers in
    let is_old : c.offset-old.result ≡ offset_in answers 0 = c.offset-old.ensures ∙ ap (offset_in answers) c.place.ensures in
    let is_new : c.offset-new.result ≡ offset_in answers 1 = c.offset-new.ensures ∙ ap (offset_in answers) c.place-2.ensures in
    let added = goes-added left now (record now { waiting = c.add.new.self }) _ c.of-offsets.result (g.O.Write.contents c.args.out.now) refl refl refl c.in_ok-add.ensures.stretches c.in_ok-add.ensures.offsets so few
    (waits-with left _ c.of-offsets.result answers c.offset-old.result c.offset-new.result taken is_old is_new (search rules) (search rules) c.of-offsets.ensures) in
    on_ok_weaker c.compare_waiting.result
    (λ on. goes-then left (with_stretch c.args.part (untold_by left now)) now (record now { waiting = c.add.new.self }) c.compare_waiting.new.so_far _ _ _ (record { shown = refl; layout = refl; kinds = refl }) added on)
    (c.compare_waiting.ensures.goes_on left compared added.so_far)
