-- Why the laws hold.
use Rattle.std.proofs.Common.{◌≡◌, ℕ, zero, suc, List, [], ◌∷◌, Bool, true, false, refl, sym, ◌∙◌, ap, inl, inr, arith}
use Rattle.std.specs.List.{Contains}
use Rattle.mmdb_format.specs.Unfolding.{Tree, Unfolds}
use Rattle.mmdb_check.specs.Checking.{leads_to}
use Rattle.mmdb_check.specs.Laws.{NoPlaceIsMetAgain, OrderIsFree}
use Rattle.mmdb_check.specs.Values.{End, reaches}
use Rattle.mmdb_check.proofs.Costs.{stands_alone}
use Rattle.mmdb_offsets.proofs.Members.{In}
use Rattle.mmdb_check.proofs.Members.{contains-in, can_add_fewer}
use Rattle.mmdb_check.proofs.Trees.{inside, no_cycle, same_values}
use Rattle.mmdb_check.proofs.Unfoldings.{then, count-then, reaches-then, or_none}

not_true : (b : Bool) → (b ≡ true → ⊥) → b ≡ false
not_true true h = absurd (h refl)
not_true false h = refl

leads : (t : Tree) (q : ℕ) → reaches (then t End) q ≡ leads_to t q
leads t q = reaches-then t End q ∙ or_none (leads_to t q)

module _ (s : List ℕ) (p q next end : ℕ) (t u : Tree) (here : Unfolds s p t next) (there : Unfolds s q u end) where
  not_itself : leads_to t p ≡ true → ⊥
  not_itself h = no_cycle s (then t End) p next (count-then t End) (stands_alone s p next t here) (leads t p ∙ h)

  -- the value at q is a part of the one at p, so what it leads to that one does too
  not_back : leads_to t q ≡ true → leads_to u p ≡ true → ⊥
  not_back h k =
      let w = inside s (then t End) p next q (stands_alone s p next t here) (leads t q ∙ h) in
      let same = same_values s w.t (then u End) q w.e end (w.one ∙ sym (count-then u End)) w.stands (stands_alone s q end u there) in
      not_itself (sym (leads t p) ∙ w.closed p (ap (λ f. reaches f p) same.0 ∙ (leads u p ∙ k)))

pub not_again : NoPlaceIsMetAgain
not_again s p q next end t u here there = (
  not_true (leads_to t p) (not_itself s p q next end t u here there),
  λ h. not_true (leads_to u p) (not_back s p q next end t u here there h),
)

in-contains : (ps : List ℕ) (q : ℕ) → In q ps → Contains ps q
in-contains [] q h = absurd h
in-contains (p ∷ ps) q (inl e) = (zero, omega arith, e)
in-contains (p ∷ ps) q (inr h) = let w = in-contains ps q h in (suc w.0, omega (arith, w.1), w.2)

pub in_any_order : OrderIsFree
in_any_order s good ps qs same = (
  can_add_fewer s good ps qs (λ q h. contains-in ps q ((same q).1 (in-contains qs q h))),
  can_add_fewer s good qs ps (λ q h. contains-in qs q ((same q).0 (in-contains ps q h))),
)
