use Rattle.std.proofs.Common.{◌+◌, ◌<◌, suc, length, get_or, rules, ◌≡◌, ◌⊎◌, inl, inr, ℕ, eqb, Bool, true, false, not, ◌&&◌, arith, Ordering, Less, Equal, Greater, is_lt, nat_cmp, List, [], ◌∷◌, refl, sym, ap, ◌∙◌, subst}
use Rattle.std.specs.Cmp.{nat_cmp_is}
use Rattle.std.specs.Ordering.{ordering_then}
use Rattle.std.proofs.lemmas.Bool.{cases_lt, false≢true}
use Rattle.std.proofs.lemmas.Bool.Decides.{nat_tests}
use Rattle.std.specs.List.{AllByRecursion, filter}
use Rattle.std.specs.List.Sorted.{ties}
use Rattle.std.proofs.lemmas.List.Sorted.{answers_always}
use Rattle.mmdb_nodes.specs.declared.entry.NodeEntry.{NodeEntry}
use Rattle.mmdb_nodes.specs.Entries.{ComesBefore, IsOrdered}
use Rattle.mmdb_writer.specs.Making.{is_same_block}
use Rattle.mmdb_writer.proofs.entries.sort.Goals as goal

filter_alike : {X : Type 0} (s t : X → Bool) → ((x : X) → s x ≡ t x) → (xs : List X) → filter s xs ≡ filter t xs
filter_alike s t h [] = refl
filter_alike s t h (x ∷ xs) = rw (h x, filter_alike s t h xs) refl

-- two numbers as two orders and a test see them
abbrev Is : Ordering → Ordering → Bool → Type 0
Is o r b = ((o ≡ Less) × (r ≡ Greater) × (b ≡ false)) ⊎ (((o ≡ Equal) × (r ≡ Equal) × (b ≡ true)) ⊎ ((o ≡ Greater) × (r ≡ Less) × (b ≡ false)))

compared : (x y : ℕ) → Is (nat_cmp x y) (nat_cmp y x) (eqb x y)
compared x y = elim (cases_lt x y) [
  | inl less ↦ inl (sym (nat_cmp_is x y Less less), sym (nat_cmp_is y x Greater less), grind (arith, nat_tests))
  | inr rest ↦ elim (cases_lt y x) [
    | inl more ↦ inr (inr (sym (nat_cmp_is x y Greater more), sym (nat_cmp_is y x Less more), grind (arith, nat_tests)))
    | inr other ↦ let e : x ≡ y = omega arith in inr (inl (sym (nat_cmp_is x y Equal e), sym (nat_cmp_is y x Equal (sym e)), grind (arith, nat_tests)))
  ]
]

-- neither of two pairs is less exactly where both numbers are equal
neither : (o r : Ordering) (b : Bool) (p s : Ordering) (d : Bool) → Is o r b → Is p s d → (not (is_lt (ordering_then o p)) && not (is_lt (ordering_then r s))) ≡ (b && d)
neither o r b p s d (inl l) w = rw (l.0, l.2) refl
neither o r b p s d (inr (inr g)) w = rw (g.0, g.1, g.2) refl
neither o r b p s d (inr (inl e)) (inl l) = rw (e.0, e.1, e.2, l.0, l.2) refl
neither o r b p s d (inr (inl e)) (inr (inr g)) = rw (e.0, e.1, e.2, g.0, g.1, g.2) refl
neither o r b p s d (inr (inl e)) (inr (inl f)) = rw (e.0, e.1, e.2, f.0, f.1, f.2) refl

tied : (e f : NodeEntry) → ties (λ (x y : NodeEntry). is_lt (ordering_then (nat_cmp x.first y.first) (nat_cmp x.prefix y.prefix))) e f ≡ is_same_block e f
tied e f = neither (nat_cmp e.first f.first) (nat_cmp f.first e.first) (eqb e.first f.first) (nat_cmp e.prefix f.prefix) (nat_cmp f.prefix e.prefix) (eqb e.prefix f.prefix) (compared e.first f.first) (compared e.prefix f.prefix)

abbrev key_of : NodeEntry → ℕ × ℕ
key_of e = (e.first, e.prefix)

-- a key that is not less than another one comes not before it
follows : (o : Ordering) (p : Ordering) (e f : NodeEntry) → nat_cmp f.first e.first ≡ o → nat_cmp f.prefix e.prefix ≡ p → is_lt (ordering_then o p) ≡ false → ComesBefore e f
follows o p e f first prefix none = elim (cases_lt e.first f.first) [
  | inl less ↦ inl less
  | inr rest ↦ elim (cases_lt f.first e.first) [
    | inl more ↦
        let is : o ≡ Less = sym first ∙ sym (nat_cmp_is f.first e.first Less more) in
        absurd (false≢true (sym none ∙ ap (λ (q : Ordering). is_lt (ordering_then q p)) is))
    | inr other ↦
        let same : f.first ≡ e.first = omega arith in
        let is : o ≡ Equal = sym first ∙ sym (nat_cmp_is f.first e.first Equal same) in
        elim (cases_lt f.prefix e.prefix) [
          | inl smaller ↦
              let less : p ≡ Less = sym prefix ∙ sym (nat_cmp_is f.prefix e.prefix Less smaller) in
              absurd (false≢true (sym none ∙ ap (λ (q : Ordering). is_lt (ordering_then q p)) is ∙ ap (λ (q : Ordering). is_lt (ordering_then Equal q)) less))
          | inr no_smaller ↦ inr (sym same, omega arith)
        ]
  ]
]

before_all : (d e f : NodeEntry) → ComesBefore d e → ComesBefore e f → ComesBefore d f
before_all d e f (inl h) (inl k) = inl (omega arith)
before_all d e f (inl h) (inr k) = inl (omega (arith, k.0))
before_all d e f (inr h) (inl k) = inl (omega (arith, h.0))
before_all d e f (inr h) (inr k) = inr (omega (arith, h.0, k.0), omega (arith, h.1, k.1))

before_rest : (d e : NodeEntry) (es : List NodeEntry) → ComesBefore d e → AllByRecursion (ComesBefore e) es → AllByRecursion (ComesBefore d) es
before_rest d e [] h all = tt
before_rest d e (f ∷ fs) h all = (before_all d e f h all.0, before_rest d e fs h all.1)

-- where no neighbours are turned, all entries are in order
in_order : (es : List NodeEntry) → ((k : ℕ) (d : NodeEntry) → suc k < length es → ComesBefore (get_or es k d) (get_or es (suc k) d)) → IsOrdered es
in_order [] h = tt
in_order (e ∷ []) h = (tt, tt)
in_order (e ∷ f ∷ es) h =
    let rest : IsOrdered (f ∷ es) = in_order (f ∷ es) (λ k d lt. h (suc k) d (omega arith)) in
    let first : ComesBefore e f = h 0 e (omega arith) in
    ((first, before_rest e f es first rest.0), rest)

pub returns-in_ok-sort_by_key : goal.returns-in_ok-sort_by_key
returns-in_ok-sort_by_key c = record {
  ordered =
      let sorted = c.in_ok-sort_by_key.ensures.sorted key_of (answers_always _ _ _ (λ f a r f' k. search rules)) in
      let es = c.sort_by_key.new.self.items in
      in_order es (λ k d lt.
      let next : k + 1 ≡ suc k = omega arith in
      subst (λ (n : ℕ). ComesBefore (get_or es k d) (get_or es n d)) next (follows _ _ (get_or es k d) (get_or es (k + 1) d) refl refl (sorted k d (omega arith) (omega arith))));
  stable = λ e.
      let stable = c.in_ok-sort_by_key.ensures.stable key_of (answers_always _ _ _ (λ f a r f' k. search rules)) in
      let old = c.args.entries.now.items in
      let new = c.sort_by_key.new.self.items in
      let alike = λ (xs : List NodeEntry). filter_alike (ties (λ (x y : NodeEntry). is_lt (ordering_then (nat_cmp x.first y.first) (nat_cmp x.prefix y.prefix))) e) (is_same_block e) (tied e) xs in
      sym (alike new) ∙ stable e ∙ alike old;
}
