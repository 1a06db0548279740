-- The stops of a tree are exactly the bits at which its walk ends.
use Rattle.std.proofs.Common.{◌≡◌, ℕ, ◌≤◌, ◌⊎◌, zero, suc, Bool, true, false, List, [], ◌∷◌, ◌++◌, length, arith, sym, ap, ◌∙◌, refl, subst, inl, inr, append_assoc}
use Rattle.std.specs.List.{Contains}
use Rattle.std.proofs.lemmas.Bool.{cases_Bool}
use Rattle.std.proofs.lemmas.List.{append-nil}
use Rattle.std.proofs.lemmas.List.Elements.{Contains-append_left, Contains-append_right, Contains-append_cases}
use Rattle.mmdb_tree.specs.declared.record.TreeRecord.{TreeRecord}
use Rattle.mmdb_tree.specs.Stops.{WalkedTree, Stop, stop, end_at, goes_on, stops_below}
use Rattle.mmdb_tree.proofs.Visits.{stops-node, stops-end}

-- The bits `s` after `bits` are where a walk stops that goes on from `bits`.
pub record EndsBelow (walked : WalkedTree) (left : ℕ) (bits s : List Bool) (end : TreeRecord) : Type 0 where
  pub inner : (c : List Bool) (x : Bool) (d : List Bool) → s ≡ c ++ x ∷ d → goes_on walked (bits ++ c) ≡ true
  pub short : length s ≤ left
  pub ended : (goes_on walked (bits ++ s) ≡ false) ⊎ (length s ≡ left)
  pub end_is : end ≡ end_at walked (bits ++ s)

no_end : (c : List Bool) (x : Bool) (d : List Bool) → [] ≡ c ++ x ∷ d → ⊥
no_end [] x d e = cc
no_end (y ∷ c) x d e = cc

pub shifted : (bits : List Bool) (x : Bool) (c : List Bool) → (bits ++ x ∷ []) ++ c ≡ bits ++ x ∷ c
shifted bits x c = append_assoc bits (x ∷ []) c

one_of : (m n : Stop) → Contains (m ∷ []) n → m ≡ n
one_of m n (zero, below, is) = is
one_of m n (suc k, below, is) = absurd (omega arith)

the_one : (m n : Stop) → m ≡ n → Contains (m ∷ []) n
the_one m n e = (0, omega arith, e)

module _ (walked : WalkedTree) where
  here : (left : ℕ) (bits : List Bool) → ((left ≡ 0) ⊎ (goes_on walked bits ≡ false)) → EndsBelow walked left bits [] (end_at walked bits)
  here left bits ended = record {
    inner = λ c x d e. absurd (no_end c x d e);
    short = omega arith;
    ended = elim ended [ inl full ↦ inr (sym full) | inr off ↦ inl (ap (goes_on walked) (append-nil bits) ∙ off) ];
    end_is = ap (end_at walked) (sym (append-nil bits));
  }

  lift_inner : (left : ℕ) (bits : List Bool) (y : Bool) (s : List Bool) (end : TreeRecord) → goes_on walked bits ≡ true → EndsBelow walked left (bits ++ y ∷ []) s end
      → (c : List Bool) (x : Bool) (d : List Bool) → y ∷ s ≡ c ++ x ∷ d → goes_on walked (bits ++ c) ≡ true
  lift_inner left bits y s end on h [] x d e = ap (goes_on walked) (append-nil bits) ∙ on
  lift_inner left bits y s end on h (z ∷ c) x d e =
      let first : y ≡ z = cc in
      let others : s ≡ c ++ x ∷ d = cc in
      ap (λ (w : Bool). goes_on walked (bits ++ w ∷ c)) (sym first) ∙ sym (ap (goes_on walked) (shifted bits y c)) ∙ h.inner c x d others

  lift : (left : ℕ) (bits : List Bool) (y : Bool) (s : List Bool) (end : TreeRecord) → goes_on walked bits ≡ true → EndsBelow walked left (bits ++ y ∷ []) s end → EndsBelow walked (suc left) bits (y ∷ s) end
  lift left bits y s end on h = record {
    inner = lift_inner left bits y s end on h;
    short = let short = h.short in omega (arith, short);
    ended = elim h.ended [ inl off ↦ inl (sym (ap (goes_on walked) (shifted bits y s)) ∙ off) | inr full ↦ inr (omega (arith, full)) ];
    end_is = h.end_is ∙ ap (end_at walked) (shifted bits y s);
  }

  unlift : (left : ℕ) (bits : List Bool) (y : Bool) (s : List Bool) (end : TreeRecord) → EndsBelow walked (suc left) bits (y ∷ s) end → EndsBelow walked left (bits ++ y ∷ []) s end
  unlift left bits y s end h = record {
    inner = λ c x d e. ap (goes_on walked) (shifted bits y c) ∙ h.inner (y ∷ c) x d (ap (λ (t : List Bool). y ∷ t) e);
    short = let short = h.short in omega (arith, short);
    ended = elim h.ended [ inl off ↦ inl (ap (goes_on walked) (shifted bits y s) ∙ off) | inr full ↦ inr (omega (arith, full)) ];
    end_is = h.end_is ∙ sym (ap (end_at walked) (shifted bits y s));
  }

  on_here : (left : ℕ) (bits : List Bool) (y : Bool) (s : List Bool) (end : TreeRecord) → EndsBelow walked left bits (y ∷ s) end → goes_on walked bits ≡ true
  on_here left bits y s end h = sym (ap (goes_on walked) (append-nil bits)) ∙ h.inner [] y s refl

  off_here : (left : ℕ) (bits : List Bool) (end : TreeRecord) → EndsBelow walked (suc left) bits [] end → goes_on walked bits ≡ false
  off_here left bits end h = elim h.ended [ inl off ↦ sym (ap (goes_on walked) (append-nil bits)) ∙ off | inr full ↦ absurd (omega (arith, full)) ]

  -- what is in the list
  abbrev Stands : ℕ → List Bool → Stop → Type 0
  Stands left bits m = (s : List Bool) × (m.bits ≡ bits ++ s) × EndsBelow walked left bits s m.end

  one_stands : (left : ℕ) (bits : List Bool) (m : Stop) → ((left ≡ 0) ⊎ (goes_on walked bits ≡ false)) → Contains (stops_below walked left bits) m → Stands left bits m
  one_stands left bits m ended h =
      let is = one_of (stop bits (end_at walked bits)) m (subst (λ (ms : List Stop). Contains ms m) (stops-end walked left bits ended) h) in
      ([], ap (λ (n : Stop). n.bits) (sym is) ∙ sym (append-nil bits), subst (λ (n : Stop). EndsBelow walked left bits [] n.end) is (here left bits ended))

  half_stands : (left : ℕ) (bits : List Bool) (y : Bool) (m : Stop) → goes_on walked bits ≡ true → Stands left (bits ++ y ∷ []) m → Stands (suc left) bits m
  half_stands left bits y m on h = (y ∷ h.0, h.1 ∙ shifted bits y h.0, lift left bits y h.0 m.end on h.2)

  pub sound : (left : ℕ) (bits : List Bool) (m : Stop) → Contains (stops_below walked left bits) m → Stands left bits m
  sound zero bits m h = one_stands zero bits m (inl refl) h
  sound (suc left) bits m h = elim (cases_Bool (goes_on walked bits)) [
    | inr off ↦ one_stands (suc left) bits m (inr off) h
    | inl on ↦ elim (Contains-append_cases _ _ m (subst (λ (ms : List Stop). Contains ms m) (stops-node walked left bits on) h)) [
      | inl low ↦ half_stands left bits false m on (sound left (bits ++ false ∷ []) m low)
      | inr high ↦ half_stands left bits true m on (sound left (bits ++ true ∷ []) m high)
    ]
  ]

  one_contains : (left : ℕ) (bits : List Bool) (end : TreeRecord) → ((left ≡ 0) ⊎ (goes_on walked bits ≡ false)) → EndsBelow walked left bits [] end → Contains (stops_below walked left bits) (stop (bits ++ []) end)
  one_contains left bits end ended h =
      let same : stop bits (end_at walked bits) ≡ stop (bits ++ []) end = ap (λ (b : List Bool). stop b (end_at walked b)) (sym (append-nil bits)) ∙ ap (stop (bits ++ [])) (sym h.end_is) in
      subst (λ (ms : List Stop). Contains ms (stop (bits ++ []) end)) (sym (stops-end walked left bits ended)) (the_one _ _ same)

  half_contains : (ms : List Stop) (bits : List Bool) (y : Bool) (s : List Bool) (end : TreeRecord) → Contains ms (stop ((bits ++ y ∷ []) ++ s) end) → Contains ms (stop (bits ++ y ∷ s) end)
  half_contains ms bits y s end h = subst (λ (b : List Bool). Contains ms (stop b end)) (shifted bits y s) h

  pub complete : (left : ℕ) (bits s : List Bool) (end : TreeRecord) → EndsBelow walked left bits s end → Contains (stops_below walked left bits) (stop (bits ++ s) end)
  complete zero bits [] end h = one_contains zero bits end (inl refl) h
  complete zero bits (y ∷ s) end h = let short = h.short in absurd (omega (arith, short))
  complete (suc left) bits [] end h = one_contains (suc left) bits end (inr (off_here left bits end h)) h
  complete (suc left) bits (false ∷ s) end h =
      subst (λ (ms : List Stop). Contains ms (stop (bits ++ false ∷ s) end)) (sym (stops-node walked left bits (on_here (suc left) bits false s end h)))
      (Contains-append_left _ _ _ (half_contains _ bits false s end (complete left (bits ++ false ∷ []) s end (unlift left bits false s end h))))
  complete (suc left) bits (true ∷ s) end h =
      subst (λ (ms : List Stop). Contains ms (stop (bits ++ true ∷ s) end)) (sym (stops-node walked left bits (on_here (suc left) bits true s end h)))
      (Contains-append_right _ _ _ (half_contains _ bits true s end (complete left (bits ++ true ∷ []) s end (unlift left bits true s end h))))

  -- each full string has a stop on its way
  pub end_on : (left : ℕ) (bits s : List Bool) → length s ≡ left → (t : List Bool) × (r : List Bool) × (s ≡ t ++ r) × EndsBelow walked left bits t (end_at walked (bits ++ t))
  end_on zero bits [] full = ([], [], refl, subst (EndsBelow walked zero bits []) (ap (end_at walked) (sym (append-nil bits))) (here zero bits (inl refl)))
  end_on zero bits (x ∷ s) full = absurd (omega arith)
  end_on (suc left) bits [] full = absurd (omega arith)
  end_on (suc left) bits (x ∷ s) full = elim (cases_Bool (goes_on walked bits)) [
    | inr off ↦ ([], x ∷ s, refl, subst (EndsBelow walked (suc left) bits []) (ap (end_at walked) (sym (append-nil bits))) (here (suc left) bits (inr off)))
    | inl on ↦
        let w = end_on left (bits ++ x ∷ []) s (omega arith) in
        (x ∷ w.0, w.1, ap (λ (t : List Bool). x ∷ t) w.2, subst (EndsBelow walked (suc left) bits (x ∷ w.0)) (ap (end_at walked) (shifted bits x w.0)) (lift left bits x w.0 _ on w.3))
  ]
