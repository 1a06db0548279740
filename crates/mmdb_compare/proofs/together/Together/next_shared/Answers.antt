use Rattle.std.proofs.Common.{rules, Option, Some, ◌≡◌, ℕ, true, refl, sym, subst}
use Rattle.mmdb_compare.specs.Parts.{start_of}
use Rattle.mmdb_compare.specs.Together.{Abreast, IsNextBlock, IsNextUnreadOf}
use Rattle.mmdb_compare.specs.WalkList.{abreast, AreDone, AreSameLeft}
use Rattle.mmdb_compare.proofs.TogetherLaws.{all_start, all_on, all_unread, shared_stretch}
use Rattle.mmdb_compare.proofs.together.Together.next_shared.Goals as goal

pub returns-in-Some-clause-next : goal.returns-in-Some-clause-next
returns-in-Some-clause-next g c =
    let i = c.self.inside in
    let walks = i.list.walks.items in
    let gone = c.go_on.new.self.walks.items in
    let at = c.in_ok-at.at in
    let place = c.in-Some.place in
    let stands : i.at ≡ Some at = search rules in
    let are_even : i.are_even ≡ true = search rules in
    let done = subst (λ (x : Option ℕ). AreDone (start_of x) walks) stands (c.self.invariant are_even) in
    let met = all_unread (abreast (Some at) i.shown_at walks) at i.shown_at place walks gone (all_start (Some at) i.shown_at walks) (c.in-Some.ensures.step at done) in
    subst (λ (x : Abreast). IsNextUnreadOf x (abreast i.at i.shown_at gone) place) c.self.view_is
    (subst (λ (x : Option ℕ). IsNextUnreadOf (abreast x i.shown_at walks) (abreast x i.shown_at gone) place) (sym stands) met)

pub returns-in_err-block-clause-next : goal.returns-in_err-block-clause-next
returns-in_err-block-clause-next g c =
    let i = c.self.inside in
    let walks = i.list.walks.items in
    let gone = c.go_on.new.self.walks.items in
    let at = c.in_ok-at.at in
    let stands : i.at ≡ Some at = search rules in
    let are_even : i.are_even ≡ true = search rules in
    let done = subst (λ (x : Option ℕ). AreDone (start_of x) walks) stands (c.self.invariant are_even) in
    let same : AreSameLeft (abreast (Some at) i.shown_at walks) (abreast (Some at) i.shown_at gone) = record { at = refl; left = c.in_default.ensures.step at done } in
    let left : AreSameLeft c.args.self.now (abreast i.at i.shown_at gone) = subst (λ (x : Abreast). AreSameLeft x (abreast i.at i.shown_at gone)) c.self.view_is (subst (λ (x : Option ℕ). AreSameLeft (abreast x i.shown_at walks) (abreast x i.shown_at gone)) (sym stands) same) in
    search rules

pub returns-clause-next : goal.returns-clause-next
returns-clause-next g c =
    let i = c.self.inside in
    let walks = i.list.walks.items in
    let gone = c.go_on.new.self.walks.items in
    let at = c.in_ok-at.at in
    let block = c.in_ok-block.block in
    let next = c.behind-self-inside.result in
    let stands : i.at ≡ Some at = search rules in
    let are_even : i.are_even ≡ true = search rules in
    let done = subst (λ (x : Option ℕ). AreDone (start_of x) walks) stands (c.self.invariant are_even) in
    let before = abreast (Some at) i.shown_at walks in
    let reached = all_on before at i.shown_at walks gone (all_start (Some at) i.shown_at walks) (c.in_default.ensures.step at done) c.in_default.ensures.databases in
    let met = shared_stretch before at i.shown_at next gone block reached c.in_ok-block.ensures c.behind-self-inside.ensures in
    subst (λ (x : Abreast). IsNextBlock x (abreast next block.first gone) block) c.self.view_is
    (subst (λ (x : Option ℕ). IsNextBlock (abreast x i.shown_at walks) (abreast next block.first gone) block) (sym stands) met)
