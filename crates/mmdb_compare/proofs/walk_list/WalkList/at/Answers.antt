use Rattle.std.proofs.Common.{sym, ◌∙◌}
use Rattle.mmdb_compare.proofs.TogetherLaws.{narrowest_shown, here_shown, here_passed}
use Rattle.mmdb_compare.proofs.walk_list.WalkList.at.Goals as goal

pub returns-in-Some : goal.returns-in-Some
returns-in-Some g c =
    let narrowest = c.in-Some.field-0 in
    narrowest_shown c.args.self.now.walks.items c.args.at narrowest.block narrowest.are_even c.requires c.in-Some.ensures

pub returns : goal.returns
returns g c =
    let l = c.largest.ensures in
    here_shown c.args.self.now.walks.items c.args.at c.each_at-here.result c.largest.result c.requires c.each_at-here.ensures (sym c.is_shown.ensures ∙ c.if-not-is_shown.false) l.block l.first l.within

pub returns-then-not-is_shown : goal.returns-then-not-is_shown
returns-then-not-is_shown g c =
    here_passed c.args.self.now.walks.items c.args.at c.each_at-here.result c.each_at-here.ensures (sym c.is_shown.ensures ∙ c.if-not-is_shown.true)
