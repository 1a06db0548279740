use Rattle.std.proofs.Common.{None, ◌≡◌, ◌≤◌, ◌<◌, ℕ, suc, ◌+◌, ◌-◌, List, refl, sym, subst, arith, length, take, get_or}
use Rattle.std.proofs.lemmas.Bool.{false≢true}
use Rattle.mmdb_nodes.specs.declared.entry.NodeEntry.{NodeEntry}
use Rattle.mmdb_nodes.specs.Entries.{ComesBefore, IsOrdered}
use Rattle.mmdb_nodes.proofs.EntryLemmas.{one_more_ordered, neighbours}
use Rattle.mmdb_nodes.proofs.entry.are_ordered.Goals as goal

abbrev none : NodeEntry
none = record { first = 0; prefix = 0; offset = None }

neighbours_at : (es : List NodeEntry) (i : ℕ) → 1 ≤ i → i < length es → IsOrdered es → ComesBefore (get_or es (i - 1) none) (get_or es i none)
neighbours_at es i some lt ordered =
    let next : suc (i - 1) ≡ i = omega arith in
    subst (λ (n : ℕ). ComesBefore (get_or es (i - 1) none) (get_or es n none)) next (neighbours es (i - 1) none ordered (omega arith))

pub returns-then-not-comes_before : goal.returns-then-not-comes_before
returns-then-not-comes_before c = (
  λ h. absurd (false≢true h),
  λ ordered. c.if-not-comes_before.ensures.1 (neighbours_at c.args.entries.now c.loop-i.i c.loop-i.auto.i c.loop-i-test.true ordered),
)

more_ordered : (es : List NodeEntry) (i : ℕ) → 1 ≤ i → i < length es → IsOrdered (take i es) → ComesBefore (get_or es (i - 1) none) (get_or es i none) → IsOrdered (take (i + 1) es)
more_ordered es i some lt ordered next =
    let is : suc (i - 1) ≡ i = omega arith in
    let more : suc i ≡ i + 1 = omega arith in
    let before : IsOrdered (take (suc (i - 1)) es) = subst (λ (n : ℕ). IsOrdered (take n es)) (sym is) ordered in
    let there : ComesBefore (get_or es (i - 1) none) (get_or es (suc (i - 1)) none) = subst (λ (n : ℕ). ComesBefore (get_or es (i - 1) none) (get_or es n none)) (sym is) next in
    let all : IsOrdered (take (suc (suc (i - 1))) es) = one_more_ordered es (i - 1) none before (omega arith) there in
    subst (λ (n : ℕ). IsOrdered (take n es)) more (subst (λ (n : ℕ). IsOrdered (take (suc n) es)) is all)

pub loop-i-preserved : goal.loop-i-preserved
loop-i-preserved c = more_ordered c.args.entries.now c.loop-i.i c.loop-i.auto.i c.loop-i-test.true c.loop-i.invariant (c.if-not-comes_before.ensures.0 refl)
