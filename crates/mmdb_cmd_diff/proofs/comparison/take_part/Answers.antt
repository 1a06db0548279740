use Rattle.std.proofs.Common.{OnOk, sym, subst}
use Rattle.mmdb_compare.specs.declared.together.TogetherPart.{TogetherPart}
use Rattle.mmdb_cmd_diff.specs.Comparing.{GoesOn, IsTakenPart, untold_by, with_part}
use Rattle.mmdb_cmd_diff.proofs.comparison.take_part.Goals as goal

pub returns-in-Stretch-clause-goes_on : goal.returns-in-Stretch-clause-goes_on
returns-in-Stretch-clause-goes_on g c left compared so few taken =
    let now = c.args.so_far.now in
    subst (λ (p : TogetherPart). OnOk c.take_stretch.result (GoesOn left (with_part p (untold_by left now)) now c.take_stretch.new.so_far (g.O.Write.contents c.args.out.now) (g.O.Write.contents c.take_stretch.new.out)))
    (sym c.in-Stretch.is)
    (c.take_stretch.ensures.goes_on left compared so few (subst (λ (p : TogetherPart). IsTakenPart left p c.args.together.now.answers) c.in-Stretch.is taken))

pub returns-in-Unread-clause-goes_on : goal.returns-in-Unread-clause-goes_on
returns-in-Unread-clause-goes_on g c left compared so few taken =
    let now = c.args.so_far.now in
    subst (λ (p : TogetherPart). OnOk c.take_unread.result (GoesOn left (with_part p (untold_by left now)) now c.take_unread.new.so_far (g.O.Write.contents c.args.out.now) (g.O.Write.contents c.take_unread.new.out)))
    (sym c.in-Unread.is) (c.take_unread.ensures.goes_on left compared so)
