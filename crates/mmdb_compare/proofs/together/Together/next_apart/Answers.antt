use Rattle.std.proofs.Common.{Option, Some, ℕ, ap, subst, sym, refl, ◌∙◌}
use Rattle.mmdb_compare.specs.Together.{Abreast, IsNextBlock, IsNextUnreadOf}
use Rattle.mmdb_compare.specs.WalkList.{abreast, AreReached}
use Rattle.mmdb_compare.proofs.TogetherLaws.{all_start, all_gone, all_passed, all_stretch, all_unread}
use Rattle.mmdb_compare.proofs.together.Together.next_apart.Goals as goal

pub loop-self-init : goal.loop-self-init
loop-self-init g c = record {
  reached = all_start c.self.inside.at c.self.inside.shown_at c.self.inside.list.walks.items;
  is_odd = refl;
}

pub loop-self-preserved : goal.loop-self-preserved
loop-self-preserved g c =
    let i = c.self.inside in
    let l = c.loop-self.self-inside in
    let walks = l.list.walks.items in
    let gone = c.go_to.new.self.walks.items in
    let before : Abreast = abreast i.at i.shown_at i.list.walks.items in
    let at = c.in-Some.at in
    let reached : AreReached before (abreast (Some at) l.shown_at walks) = subst (λ (x : Option ℕ). AreReached before (abreast x l.shown_at walks)) c.in-Some.is c.loop-self.invariant.reached in
    let on : AreReached before (abreast (Some at) l.shown_at gone) = all_gone before at l.shown_at walks gone reached c.in_default-go_to.ensures.step c.in_default-go_to.ensures.databases in
    record {
      reached = all_passed before at l.shown_at c.in-Passed.last c.next_to-self-inside.result gone on c.in-Passed.ensures c.next_to-self-inside.ensures;
      is_odd = c.loop-self.invariant.is_odd;
    }

pub returns-in-Some-go_to-clause-next : goal.returns-in-Some-go_to-clause-next
returns-in-Some-go_to-clause-next g c =
    let i = c.self.inside in
    let l = c.loop-self.self-inside in
    let walks = l.list.walks.items in
    let gone = c.go_to.new.self.walks.items in
    let before : Abreast = abreast i.at i.shown_at i.list.walks.items in
    let at = c.in-Some.at in
    let place = c.in-Some-go_to.place in
    let reached : AreReached before (abreast (Some at) l.shown_at walks) = subst (λ (x : Option ℕ). AreReached before (abreast x l.shown_at walks)) c.in-Some.is c.loop-self.invariant.reached in
    let met : IsNextUnreadOf before (abreast (Some at) l.shown_at gone) place = all_unread before at l.shown_at place walks gone reached c.in-Some-go_to.ensures.step in
    let stands : IsNextUnreadOf before (abreast l.at l.shown_at gone) place = subst (λ (x : Option ℕ). IsNextUnreadOf before (abreast x l.shown_at gone) place) (sym c.in-Some.is) met in
    subst (λ (x : Abreast). IsNextUnreadOf x (abreast l.at l.shown_at gone) place) c.self.view_is stands

pub returns-in-Shown-clause-next : goal.returns-in-Shown-clause-next
returns-in-Shown-clause-next g c =
    let i = c.self.inside in
    let l = c.loop-self.self-inside in
    let walks = l.list.walks.items in
    let gone = c.go_to.new.self.walks.items in
    let before : Abreast = abreast i.at i.shown_at i.list.walks.items in
    let at = c.in-Some.at in
    let next = c.behind-self-inside.result in
    let part = c.in-Shown in
    let reached : AreReached before (abreast (Some at) l.shown_at walks) = subst (λ (x : Option ℕ). AreReached before (abreast x l.shown_at walks)) c.in-Some.is c.loop-self.invariant.reached in
    let on : AreReached before (abreast (Some at) l.shown_at gone) = all_gone before at l.shown_at walks gone reached c.in_default-go_to.ensures.step c.in_default-go_to.ensures.databases in
    let met : IsNextBlock before (abreast next at gone) part.block = all_stretch before at l.shown_at next gone part.block part.are_even on part.ensures c.behind-self-inside.ensures in
    subst (λ (x : Abreast). IsNextBlock x (abreast next at gone) part.block) c.self.view_is met

pub returns-in-Some-go_to-clause-databases : goal.returns-in-Some-go_to-clause-databases
returns-in-Some-go_to-clause-databases g c = c.go_to.ensures.databases ∙ c.loop-self.invariant.reached.databases ∙ ap (λ (x : Abreast). x.databases) c.self.view_is

pub returns-in-Shown-clause-databases : goal.returns-in-Shown-clause-databases
returns-in-Shown-clause-databases g c = c.go_to.ensures.databases ∙ c.loop-self.invariant.reached.databases ∙ ap (λ (x : Abreast). x.databases) c.self.view_is
