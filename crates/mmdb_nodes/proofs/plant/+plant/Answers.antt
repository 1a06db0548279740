use Rattle.std.proofs.Common.{rules, arith, sym, ap, subst, ◌∙◌, ◌≡◌, ◌≤◌, ◌<◌, ◌^◌, ◌+◌, ◌++◌, ℕ, suc, List, length, ◌-◌, true, eqb, [], ◌∷◌, Option}
use Rattle.std.proofs.lemmas.Nat.{pow_pos}
use Rattle.std.proofs.lemmas.Result.{IfOk-weaker, IfErr-weaker, err_from_is_err_and}
use Rattle.std.proofs.lemmas.Bool.Decides.{nat_tests}
use Rattle.mmdb_nodes.specs.declared.entry.NodeEntry.{NodeEntry}
use Rattle.mmdb_nodes.specs.declared.node.Node.{Node as SpecNode}
use Rattle.mmdb_nodes.specs.Entries.{offset_after}
use Rattle.mmdb_nodes.specs.Working.{IsJoined, HasFewEnds, HasAsMany, Leads}
use Rattle.mmdb_nodes.proofs.LeadLemmas.{joined_place, free_positive, halves_of, own_leads, AreHalves, joined_grown, joined_sound, joined_below, joined_reduced, cut_low_values, cut_high_values, made_cut, cut_low_order, cut_high_order, cut_low_aligned, cut_high_aligned, cut_low_inside, cut_high_inside, cut_leads}
use Rattle.std.proofs.Common.{length-append}
use Rattle.mmdb_nodes.proofs.CountLemmas.{joined_few}
use Rattle.mmdb_nodes.proofs.ForestLemmas.{own_forest, joined_forest}
use Rattle.mmdb_nodes.proofs.SplitLemmas.{own_many, left_too_many, right_too_many, kept_too_many, joined_many}
use Rattle.mmdb_nodes.proofs.plant.+plant.Goals as goal

nothing_left : (v found : Option ℕ) (first free : ℕ) (rest es : List NodeEntry) → eqb (length rest) 0 ≡ true → ((a : ℕ) → a < 2 ^ free → offset_after v rest (first + a) ≡ offset_after found es (first + a)) → (a : ℕ) → a < 2 ^ free → v ≡ offset_after found es (first + a)
nothing_left v found first free [] es test h a lt = h a lt
nothing_left v found first free (x ∷ rest) es test h a lt = absurd (grind (arith, nat_tests))

longer : (old new : List SpecNode) → (more : List SpecNode) × (new ≡ old ++ more) → length old ≤ length new
longer old new g = let e = ap length g.1 in omega (arith, length-append old g.0)

pub returns-then-is_empty-clause-leads : goal.returns-then-is_empty-clause-leads
returns-then-is_empty-clause-leads t c =
    let s = c.skip_whole-found in
    subst (λ r. Leads (length c.args.nodes.now.items) c.args.nodes.now.items r c.args.first c.args.free c.args.found c.args.entries.now) (sym c.leaf.ensures)
    (own_leads _ _ s.result.0 c.args.found c.args.first c.args.free c.args.entries.now
    (nothing_left s.result.0 c.args.found c.args.first c.args.free s.result.1.now c.args.entries.now (sym c.is_empty.ensures ∙ c.if-is_empty.true) (λ a lt. s.ensures.value c.args.first a c.requires.inside lt)))

pub overflow_sub-half : goal.overflow_sub-half
overflow_sub-half t c =
    let s = c.skip_whole-found in
    free_positive c.args.free s.result.1.now (sym c.is_empty.ensures ∙ c.if-is_empty.false) (s.ensures.smaller c.args.first c.requires.inside)

pub overflow_add-middle : goal.overflow_add-middle
overflow_add-middle t c =
    let s = c.skip_whole-found in
    let p = free_positive c.args.free s.result.1.now (sym c.is_empty.ensures ∙ c.if-is_empty.false) (s.ensures.smaller c.args.first c.requires.inside) in
    let d = halves_of c.args.free p in
    let r = c.requires.room in let h = c.half_size.ensures in let q = pow_pos (c.args.free - 1) in
    omega arith

pub plant-requires : goal.plant-requires
plant-requires t c =
    let s = c.skip_whole-found in
    let cut = made_cut c.args.first c.args.free c.half_size.result c.cut_at.result s.result.1.now c.split_at.result.0.now c.split_at.result.1.now c.requires.aligned (sym c.is_empty.ensures ∙ c.if-is_empty.false)
    (s.ensures.inside c.args.first c.requires.inside) (s.ensures.smaller c.args.first c.requires.inside) s.ensures.ordered c.half_size.ensures c.split_at.ensures.front c.split_at.ensures.back c.cut_at.ensures.before c.cut_at.ensures.after in
    let p = cut.positive in
    let d = halves_of c.args.free p in
    let r = c.requires.room in let b = c.requires.bits in
    (search rules, (omega arith, (omega arith, (cut_low_aligned _ _ _ _ _ _ cut, (cut_low_order _ _ _ _ _ _ cut, cut_low_inside _ _ _ _ _ _ cut)))))

pub plant-requires-2 : goal.plant-requires-2
plant-requires-2 t c =
    let s = c.skip_whole-found in
    let cut = made_cut c.args.first c.args.free c.half_size.result c.cut_at.result s.result.1.now c.split_at.result.0.now c.split_at.result.1.now c.requires.aligned (sym c.is_empty.ensures ∙ c.if-is_empty.false)
    (s.ensures.inside c.args.first c.requires.inside) (s.ensures.smaller c.args.first c.requires.inside) s.ensures.ordered c.half_size.ensures c.split_at.ensures.front c.split_at.ensures.back c.cut_at.ensures.before c.cut_at.ensures.after in
    let p = cut.positive in
    let d = halves_of c.args.free p in
    let r = c.requires.room in let b = c.requires.bits in let h = c.half_size.ensures in
    (search rules, (omega arith, (omega arith, (cut_high_aligned _ _ _ _ _ _ cut, (cut_high_order _ _ _ _ _ _ cut, cut_high_inside _ _ _ _ _ _ cut)))))

halves : (old n1 n2 n3 : List SpecNode) (blank : SpecNode) → n1 ≡ old ++ blank ∷ [] → (lefts : List SpecNode) × (n2 ≡ n1 ++ lefts) → (rights : List SpecNode) × (n3 ≡ n2 ++ rights) → AreHalves old n1 n2 n3
halves old n1 n2 n3 blank placed l r = record { blank = blank; placed = placed; lefts = l.0; left_grown = l.1; rights = r.0; right_grown = r.1 }

pub returns-clause-grown : goal.returns-clause-grown
returns-clause-grown t c = IfOk-weaker c.join.result _ _ (λ r joined.
    let place : c.len-place.result ≡ length c.args.nodes.now.items = search rules in
    let h = halves c.args.nodes.now.items c.push.new.self.items c.plant.new.nodes.items c.plant-2.new.nodes.items _ c.in_ok-push.ensures.items c.in_ok-left.ensures.grown c.in_ok-right.ensures.grown in
    joined_grown _ _ _ _ h c.in_ok-left.left c.in_ok-right.right r c.join.new.nodes.items
    (subst (λ (n : ℕ). IsJoined n c.in_ok-left.left c.in_ok-right.right c.plant-2.new.nodes.items c.join.new.nodes.items r) place joined)) c.join.ensures.ok

pub returns-clause-leads : goal.returns-clause-leads
returns-clause-leads t c = IfOk-weaker c.join.result _ _ (λ r joined.
    let place : c.len-place.result ≡ length c.args.nodes.now.items = search rules in
    let s = c.skip_whole-found in
    let cut = made_cut c.args.first c.args.free c.half_size.result c.cut_at.result s.result.1.now c.split_at.result.0.now c.split_at.result.1.now c.requires.aligned (sym c.is_empty.ensures ∙ c.if-is_empty.false)
    (s.ensures.inside c.args.first c.requires.inside) (s.ensures.smaller c.args.first c.requires.inside) s.ensures.ordered c.half_size.ensures c.split_at.ensures.front c.split_at.ensures.back c.cut_at.ensures.before c.cut_at.ensures.after in
    let h = halves c.args.nodes.now.items c.push.new.self.items c.plant.new.nodes.items c.plant-2.new.nodes.items _ c.in_ok-push.ensures.items c.in_ok-left.ensures.grown c.in_ok-right.ensures.grown in
    cut_leads _ _ _ _ _ _ cut _ _ _ _ c.join.new.nodes.items c.in_ok-left.left c.in_ok-right.right r s.result.0 c.args.found c.args.entries.now h c.in_ok-left.ensures.leads c.in_ok-right.ensures.leads
    (subst (λ (n : ℕ). IsJoined n c.in_ok-left.left c.in_ok-right.right c.plant-2.new.nodes.items c.join.new.nodes.items r) place joined)
    (λ a lt. s.ensures.value c.args.first a c.requires.inside lt)) c.join.ensures.ok

pub returns-clause-sound : goal.returns-clause-sound
returns-clause-sound t c = IfOk-weaker c.join.result _ _ (λ r joined bound values given.
    let place : c.len-place.result ≡ length c.args.nodes.now.items = search rules in
    let s = c.skip_whole-found in
    let cut = made_cut c.args.first c.args.free c.half_size.result c.cut_at.result s.result.1.now c.split_at.result.0.now c.split_at.result.1.now c.requires.aligned (sym c.is_empty.ensures ∙ c.if-is_empty.false)
    (s.ensures.inside c.args.first c.requires.inside) (s.ensures.smaller c.args.first c.requires.inside) s.ensures.ordered c.half_size.ensures c.split_at.ensures.front c.split_at.ensures.back c.cut_at.ensures.before c.cut_at.ensures.after in
    let h = halves c.args.nodes.now.items c.push.new.self.items c.plant.new.nodes.items c.plant-2.new.nodes.items _ c.in_ok-push.ensures.items c.in_ok-left.ensures.grown c.in_ok-right.ensures.grown in
    let j = subst (λ (n : ℕ). IsJoined n c.in_ok-left.left c.in_ok-right.right c.plant-2.new.nodes.items c.join.new.nodes.items r) place joined in
    let v = s.ensures.offsets bound values given in
    let l = cut_low_values _ _ _ _ _ _ cut bound v.0 in
    let m = cut_high_values _ _ _ _ _ _ cut bound v.0 in
    joined_sound _ _ _ _ h c.in_ok-left.left c.in_ok-right.right r c.join.new.nodes.items bound j
    (c.in_ok-left.ensures.sound bound l v.1) (c.in_ok-right.ensures.sound bound m v.1) (c.in_ok-left.ensures.below bound l v.1) (c.in_ok-right.ensures.below bound m v.1)) c.join.ensures.ok

pub returns-clause-below : goal.returns-clause-below
returns-clause-below t c = IfOk-weaker c.join.result _ _ (λ r joined bound values given.
    let place : c.len-place.result ≡ length c.args.nodes.now.items = search rules in
    let s = c.skip_whole-found in
    let cut = made_cut c.args.first c.args.free c.half_size.result c.cut_at.result s.result.1.now c.split_at.result.0.now c.split_at.result.1.now c.requires.aligned (sym c.is_empty.ensures ∙ c.if-is_empty.false)
    (s.ensures.inside c.args.first c.requires.inside) (s.ensures.smaller c.args.first c.requires.inside) s.ensures.ordered c.half_size.ensures c.split_at.ensures.front c.split_at.ensures.back c.cut_at.ensures.before c.cut_at.ensures.after in
    let h = halves c.args.nodes.now.items c.push.new.self.items c.plant.new.nodes.items c.plant-2.new.nodes.items _ c.in_ok-push.ensures.items c.in_ok-left.ensures.grown c.in_ok-right.ensures.grown in
    let j = subst (λ (n : ℕ). IsJoined n c.in_ok-left.left c.in_ok-right.right c.plant-2.new.nodes.items c.join.new.nodes.items r) place joined in
    let v = s.ensures.offsets bound values given in
    let l = cut_low_values _ _ _ _ _ _ cut bound v.0 in
    joined_below _ _ _ _ h c.in_ok-left.left c.in_ok-right.right r c.join.new.nodes.items bound j (c.in_ok-left.ensures.below bound l v.1)) c.join.ensures.ok

pub returns-clause-reduced : goal.returns-clause-reduced
returns-clause-reduced t c = IfOk-weaker c.join.result _ _ (λ r joined.
    let place : c.len-place.result ≡ length c.args.nodes.now.items = search rules in
    let h = halves c.args.nodes.now.items c.push.new.self.items c.plant.new.nodes.items c.plant-2.new.nodes.items _ c.in_ok-push.ensures.items c.in_ok-left.ensures.grown c.in_ok-right.ensures.grown in
    let j = subst (λ (n : ℕ). IsJoined n c.in_ok-left.left c.in_ok-right.right c.plant-2.new.nodes.items c.join.new.nodes.items r) place joined in
    joined_reduced _ _ _ _ h c.in_ok-left.left c.in_ok-right.right r c.join.new.nodes.items j c.in_ok-left.ensures.reduced c.in_ok-right.ensures.reduced) c.join.ensures.ok

pub returns-clause-preorder : goal.returns-clause-preorder
returns-clause-preorder t c = IfOk-weaker c.join.result _ _ (λ r joined n is.
    let place : c.len-place.result ≡ length c.args.nodes.now.items = search rules in
    let h = halves c.args.nodes.now.items c.push.new.self.items c.plant.new.nodes.items c.plant-2.new.nodes.items _ c.in_ok-push.ensures.items c.in_ok-left.ensures.grown c.in_ok-right.ensures.grown in
    let j = subst (λ (n : ℕ). IsJoined n c.in_ok-left.left c.in_ok-right.right c.plant-2.new.nodes.items c.join.new.nodes.items r) place joined in
    joined_place _ _ _ _ h c.in_ok-left.left c.in_ok-right.right r c.join.new.nodes.items n j is) c.join.ensures.ok

pub returns-clause-few : goal.returns-clause-few
returns-clause-few t c = IfOk-weaker c.join.result _ _ (λ r joined.
    let place : c.len-place.result ≡ length c.args.nodes.now.items = search rules in
    let s = c.skip_whole-found in
    let p = free_positive c.args.free s.result.1.now (sym c.is_empty.ensures ∙ c.if-is_empty.false) (s.ensures.smaller c.args.first c.requires.inside) in
    let free_is : suc (c.args.free - 1) ≡ c.args.free = omega arith in
    let h = halves c.args.nodes.now.items c.push.new.self.items c.plant.new.nodes.items c.plant-2.new.nodes.items _ c.in_ok-push.ensures.items c.in_ok-left.ensures.grown c.in_ok-right.ensures.grown in
    let j = subst (λ (n : ℕ). IsJoined n c.in_ok-left.left c.in_ok-right.right c.plant-2.new.nodes.items c.join.new.nodes.items r) place joined in
    let g = joined_grown _ _ _ _ h c.in_ok-left.left c.in_ok-right.right r c.join.new.nodes.items j in
    subst (HasFewEnds (length c.args.nodes.now.items) c.join.new.nodes.items r) free_is
    (joined_few _ _ _ _ h c.in_ok-left.left c.in_ok-right.right r c.join.new.nodes.items (c.args.free - 1) j c.in_ok-left.ensures.few c.in_ok-right.ensures.few (longer c.args.nodes.now.items c.join.new.nodes.items g))) c.join.ensures.ok

pub returns-then-is_empty-clause-count : goal.returns-then-is_empty-clause-count
returns-then-is_empty-clause-count t c =
    let s = c.skip_whole-found in
    let from : ℕ = length c.args.nodes.now.items in
    subst (λ r. HasAsMany from from r c.args.first c.args.free c.args.found c.args.entries.now) (sym c.leaf.ensures)
    (own_many from c.args.first c.args.free s.result.0 c.args.found c.args.entries.now
    (nothing_left s.result.0 c.args.found c.args.first c.args.free s.result.1.now c.args.entries.now (sym c.is_empty.ensures ∙ c.if-is_empty.true) (λ a lt. s.ensures.value c.args.first a c.requires.inside lt)))

next_length : (old n1 : List SpecNode) (blank : SpecNode) → n1 ≡ old ++ blank ∷ [] → length n1 ≡ length old + 1
next_length old n1 blank placed = let e = ap length placed in omega (arith, length-append old (blank ∷ []))

pub returns-in_err-left-clause-too_large : goal.returns-in_err-left-clause-too_large
returns-in_err-left-clause-too_large t c =
    let s = c.skip_whole-found in
    let cut = made_cut c.args.first c.args.free c.half_size.result c.cut_at.result s.result.1.now c.split_at.result.0.now c.split_at.result.1.now c.requires.aligned (sym c.is_empty.ensures ∙ c.if-is_empty.false)
    (s.ensures.inside c.args.first c.requires.inside) (s.ensures.smaller c.args.first c.requires.inside) s.ensures.ordered c.half_size.ensures c.split_at.ensures.front c.split_at.ensures.back c.cut_at.ensures.before c.cut_at.ensures.after in
    let next = next_length c.args.nodes.now.items c.push.new.self.items _ c.in_ok-push.ensures.items in
    let p = err_from_is_err_and c.from_residual-in_err-left.result c.from_residual-in_err-left.ensures.1 in
    rw p.1 (λ is. left_too_many _ _ _ _ _ _ cut s.result.0 c.args.found c.args.entries.now (λ a lt. s.ensures.value c.args.first a c.requires.inside lt) _ _ next (c.in_err-left.ensures.too_large (sym p.2 ∙ is)))

pub returns-in_err-right-clause-too_large : goal.returns-in_err-right-clause-too_large
returns-in_err-right-clause-too_large t c =
    let s = c.skip_whole-found in
    let cut = made_cut c.args.first c.args.free c.half_size.result c.cut_at.result s.result.1.now c.split_at.result.0.now c.split_at.result.1.now c.requires.aligned (sym c.is_empty.ensures ∙ c.if-is_empty.false)
    (s.ensures.inside c.args.first c.requires.inside) (s.ensures.smaller c.args.first c.requires.inside) s.ensures.ordered c.half_size.ensures c.split_at.ensures.front c.split_at.ensures.back c.cut_at.ensures.before c.cut_at.ensures.after in
    let next = next_length c.args.nodes.now.items c.push.new.self.items _ c.in_ok-push.ensures.items in
    let p = err_from_is_err_and c.from_residual-in_err-right.result c.from_residual-in_err-right.ensures.1 in
    rw p.1 (λ is. right_too_many _ _ _ _ _ _ cut s.result.0 c.args.found c.args.entries.now (λ a lt. s.ensures.value c.args.first a c.requires.inside lt) _ _ _ c.in_ok-left.left next c.in_ok-left.ensures.count (c.in_err-right.ensures.too_large (sym p.2 ∙ is)))

pub returns-clause-count : goal.returns-clause-count
returns-clause-count t c = IfOk-weaker c.join.result _ _ (λ r joined.
    let place : c.len-place.result ≡ length c.args.nodes.now.items = search rules in
    let s = c.skip_whole-found in
    let cut = made_cut c.args.first c.args.free c.half_size.result c.cut_at.result s.result.1.now c.split_at.result.0.now c.split_at.result.1.now c.requires.aligned (sym c.is_empty.ensures ∙ c.if-is_empty.false)
    (s.ensures.inside c.args.first c.requires.inside) (s.ensures.smaller c.args.first c.requires.inside) s.ensures.ordered c.half_size.ensures c.split_at.ensures.front c.split_at.ensures.back c.cut_at.ensures.before c.cut_at.ensures.after in
    let h = halves c.args.nodes.now.items c.push.new.self.items c.plant.new.nodes.items c.plant-2.new.nodes.items _ c.in_ok-push.ensures.items c.in_ok-left.ensures.grown c.in_ok-right.ensures.grown in
    let j = subst (λ (n : ℕ). IsJoined n c.in_ok-left.left c.in_ok-right.right c.plant-2.new.nodes.items c.join.new.nodes.items r) place joined in
    joined_many _ _ _ _ _ _ cut s.result.0 c.args.found c.args.entries.now (λ a lt. s.ensures.value c.args.first a c.requires.inside lt) _ _ _ _ h c.in_ok-left.left c.in_ok-right.right
    c.in_ok-left.ensures.count c.in_ok-left.ensures.leads c.in_ok-right.ensures.count c.in_ok-right.ensures.leads r c.join.new.nodes.items j) c.join.ensures.ok

pub returns-clause-too_large : goal.returns-clause-too_large
returns-clause-too_large t c = IfErr-weaker c.join.result _ _ (λ e kept is.
    let place : c.len-place.result ≡ length c.args.nodes.now.items = search rules in
    let s = c.skip_whole-found in
    let cut = made_cut c.args.first c.args.free c.half_size.result c.cut_at.result s.result.1.now c.split_at.result.0.now c.split_at.result.1.now c.requires.aligned (sym c.is_empty.ensures ∙ c.if-is_empty.false)
    (s.ensures.inside c.args.first c.requires.inside) (s.ensures.smaller c.args.first c.requires.inside) s.ensures.ordered c.half_size.ensures c.split_at.ensures.front c.split_at.ensures.back c.cut_at.ensures.before c.cut_at.ensures.after in
    let h = halves c.args.nodes.now.items c.push.new.self.items c.plant.new.nodes.items c.plant-2.new.nodes.items _ c.in_ok-push.ensures.items c.in_ok-left.ensures.grown c.in_ok-right.ensures.grown in
    let both = kept is in
    let many : 2 ^ 32 ≤ length c.args.nodes.now.items = subst (λ (n : ℕ). 2 ^ 32 ≤ n) place both.1 in
    kept_too_many _ _ _ _ _ _ cut s.result.0 c.args.found c.args.entries.now (λ a lt. s.ensures.value c.args.first a c.requires.inside lt) _ _ _ _ h c.in_ok-left.left c.in_ok-right.right
    c.in_ok-left.ensures.count c.in_ok-left.ensures.leads c.in_ok-right.ensures.count c.in_ok-right.ensures.leads both.0 many) c.join.ensures.too_large

pub returns-then-is_empty-clause-forest : goal.returns-then-is_empty-clause-forest
returns-then-is_empty-clause-forest t c = own_forest c.args.nodes.now.items

pub returns-clause-forest : goal.returns-clause-forest
returns-clause-forest t c = IfOk-weaker c.join.result _ _ (λ r joined.
    let place : c.len-place.result ≡ length c.args.nodes.now.items = search rules in
    let h = halves c.args.nodes.now.items c.push.new.self.items c.plant.new.nodes.items c.plant-2.new.nodes.items _ c.in_ok-push.ensures.items c.in_ok-left.ensures.grown c.in_ok-right.ensures.grown in
    joined_forest _ _ _ _ h c.in_ok-left.left c.in_ok-right.right r c.join.new.nodes.items
    (subst (λ (n : ℕ). IsJoined n c.in_ok-left.left c.in_ok-right.right c.plant-2.new.nodes.items c.join.new.nodes.items r) place joined)
    c.in_ok-left.ensures.forest c.in_ok-right.ensures.forest c.in_ok-left.ensures.preorder c.in_ok-right.ensures.preorder) c.join.ensures.ok
