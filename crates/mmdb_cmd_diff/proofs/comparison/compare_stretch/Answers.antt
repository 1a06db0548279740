use Rattle.std.proofs.Common.{◌∙◌, sym, subst}
use Rattle.std.proofs.lemmas.Result.{on_ok_weaker}
use Rattle.mmdb_blocks.specs.Kinds.{IsWanted}
use Rattle.mmdb_blocks.specs.declared.kind.BlockKind.{BlockKind}
use Rattle.mmdb_cmd_diff.specs.Alike.{AreFoundIn}
use Rattle.mmdb_cmd_diff.specs.Lines.{waiting_in}
use Rattle.mmdb_cmd_diff.specs.Showing.{Showing}
use Rattle.mmdb_cmd_diff.specs.Walked.{both_of}
use Rattle.mmdb_cmd_diff.specs.declared.changes.Changes.{Changes}
use Rattle.mmdb_cmd_diff.proofs.Gathering.{found-old, found-new, out-alike, out-unwanted, pair-alike, ready-kept, tells-out, tells-out-none, there-as, there-of, told-as}
use Rattle.mmdb_cmd_diff.proofs.Telling.{tells-same}
use Rattle.mmdb_cmd_diff.proofs.comparison.compare_stretch.Goals as goal

pub returns-then-not-has-clause-told : goal.returns-then-not-has-clause-told
returns-then-not-has-clause-told g c left compared waiting ready =
    let now = c.args.so_far.now in
    tells-out-none now.pairs.layout.now now.kinds now.pairs.shown (both_of left) c.args.stretch.part now.changes _
    (out-unwanted now.kinds now.pairs.shown (both_of left) c.args.stretch.part
    (λ wanted. let is = c.has.ensures.1 (subst (λ (k : BlockKind). IsWanted now.kinds k) (sym c.kind_of.ensures) wanted) in let is_not = c.if-not-has.true in absurd (cc)))

pub returns-then-sees_same-clause-told : goal.returns-then-sees_same-clause-told
returns-then-sees_same-clause-told g c left compared waiting ready =
    let now = c.args.so_far.now in
    let there = there-of left c.args.stretch.part waiting.answers waiting.is_taken in
    let alike = pair-alike now.pairs.shown c.args.offsets _ _ (c.sees_same.ensures.alike ready.kept c.if-sees_same.true) waiting.is_pair in
    tells-out now.pairs.layout.now now.kinds now.pairs.shown (both_of left) c.args.stretch.part now.changes c.sees_same.new.self.changes _ _
    (out-alike now.kinds now.pairs.shown (both_of left) c.args.stretch.part _ _ there alike)
    (tells-same now.pairs.layout.now now.pairs.shown (both_of left) (waiting_in now.changes) (waiting_in c.sees_same.new.self.changes) _
    (λ is_ipv4 address h. subst (λ (k : Changes). waiting_in k is_ipv4 address) (sym c.sees_same.ensures.changes) h))

pub returns-clause-told : goal.returns-clause-told
returns-clause-told g c left compared waiting ready =
    let now = c.args.so_far.now in
    let next = c.sees_same.new.self in
    let same = c.sees_same.ensures.same in
    let answers = c.found_in_both-answers.result in
    let old = found-old now.pairs.shown.sections c.args.together.now.databases left compared c.args.stretch.part waiting.answers waiting.is_taken c.found_in-old.result c.args.stretch.presence.in_old
    c.found_in-old.ensures.law waiting.in_old c.found_in-old.ensures.found c.found_in-old.ensures.none in
    let new = found-new now.pairs.shown.sections c.args.together.now.databases left compared c.args.stretch.part waiting.answers waiting.is_taken c.found_in-new.result c.args.stretch.presence.in_new
    c.found_in-new.ensures.law waiting.in_new c.found_in-new.ensures.found c.found_in-new.ensures.none in
    let found = subst (λ (z : Showing). AreFoundIn z.sections answers.old answers.new) (sym same.shown) (c.found_in_both-answers.ensures.found now.pairs.shown.sections old.1 new.1) in
    let there = there-as (both_of left) c.args.stretch.part _ _ _ _ (c.found_in_both-answers.ensures.old ∙ old.0) (c.found_in_both-answers.ensures.new ∙ new.0)
    (there-of left c.args.stretch.part waiting.answers waiting.is_taken) in
    let ready_next = ready-kept (both_of left) now next same.shown (c.sees_same.ensures.kept ready.kept) c.sees_same.ensures.changes ready in
    on_ok_weaker c.compare_answers.result (λ t. told-as (both_of left) now next c.args.stretch.part c.compare_answers.new.so_far.changes _ _ same c.sees_same.ensures.changes t)
    (c.compare_answers.ensures.told (both_of left) ready_next found there)

pub returns-clause-ready : goal.returns-clause-ready
returns-clause-ready g c left compared waiting ready =
    let now = c.args.so_far.now in
    let next = c.sees_same.new.self in
    let same = c.sees_same.ensures.same in
    let answers = c.found_in_both-answers.result in
    let old = found-old now.pairs.shown.sections c.args.together.now.databases left compared c.args.stretch.part waiting.answers waiting.is_taken c.found_in-old.result c.args.stretch.presence.in_old
    c.found_in-old.ensures.law waiting.in_old c.found_in-old.ensures.found c.found_in-old.ensures.none in
    let new = found-new now.pairs.shown.sections c.args.together.now.databases left compared c.args.stretch.part waiting.answers waiting.is_taken c.found_in-new.result c.args.stretch.presence.in_new
    c.found_in-new.ensures.law waiting.in_new c.found_in-new.ensures.found c.found_in-new.ensures.none in
    let found = subst (λ (z : Showing). AreFoundIn z.sections answers.old answers.new) (sym same.shown) (c.found_in_both-answers.ensures.found now.pairs.shown.sections old.1 new.1) in
    let there = there-as (both_of left) c.args.stretch.part _ _ _ _ (c.found_in_both-answers.ensures.old ∙ old.0) (c.found_in_both-answers.ensures.new ∙ new.0)
    (there-of left c.args.stretch.part waiting.answers waiting.is_taken) in
    c.compare_answers.ensures.ready (both_of left) (ready-kept (both_of left) now next same.shown (c.sees_same.ensures.kept ready.kept) c.sees_same.ensures.changes ready) found there
