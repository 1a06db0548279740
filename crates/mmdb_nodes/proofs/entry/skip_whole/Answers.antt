use Rattle.std.proofs.Common.{None, ◌≡◌, ℕ, ◌+◌, ◌-◌, ◌<◌, ◌≤◌, length, take, drop, get_or, ap, sym, subst, ◌∙◌, arith, length-drop, get_or-drop}
use Rattle.std.proofs.lemmas.List.{take_all}
use Rattle.std.proofs.lemmas.List.Elements.{All-get_or, All-from_recursion}
use Rattle.mmdb_nodes.specs.declared.entry.NodeEntry.{NodeEntry}
use Rattle.std.specs.List.{AllByRecursion}
use Rattle.std.proofs.Common.{List}
use Rattle.mmdb_nodes.specs.Entries.{IsOrdered}
use Rattle.mmdb_nodes.specs.Working.{IsInside, IsSmaller, free_bits}
use Rattle.mmdb_nodes.proofs.EntryLemmas.{ordered-drop, all-drop, all_smaller}
use Rattle.mmdb_nodes.proofs.entry.skip_whole.Goals as goal

rest_is : (es : List NodeEntry) (i : ℕ) → drop i es ≡ take (length es - i) (drop i es)
rest_is es i = sym (take_all (length es - i) (drop i es) (omega (arith, length-drop i es)))

pub returns-then-entry-prefix-clause-ordered : goal.returns-then-entry-prefix-clause-ordered
returns-then-entry-prefix-clause-ordered c =
    let es = c.args.entries.now in
    subst IsOrdered (rest_is es c.loop-i.i) (ordered-drop c.loop-i.i es c.requires.ordered)

abbrev none : NodeEntry
none = record { first = 0; prefix = 0; offset = None }

-- what begins with an entry that is no whole block has none
rest_smaller : (first free i : ℕ) (es : List NodeEntry) → IsOrdered es → free ≤ 128 → AllByRecursion (IsInside first free) es → i < length es → ((get_or es i none).prefix ≡ 128 - free → ⊥) → AllByRecursion (IsSmaller free) (drop i es)
rest_smaller first free i es o fits all lt other =
    let inside : AllByRecursion (IsInside first free) (drop i es) = all-drop (IsInside first free) i es all in
    let some : 0 < length (drop i es) = omega (arith, length-drop i es) in
    let here : i + 0 ≡ i = omega arith in
    let at : get_or (drop i es) 0 none ≡ get_or es i none = get_or-drop i es 0 none ∙ ap (λ (n : ℕ). get_or es n none) here in
    let head = All-get_or (IsInside first free) (drop i es) 0 none some (All-from_recursion (IsInside first free) (drop i es) inside) in
    let small : free_bits (get_or (drop i es) 0 none) ≤ free = head.small in
    let prefix : (get_or (drop i es) 0 none).prefix ≤ 128 = head.prefix in
    let same : (get_or (drop i es) 0 none).prefix ≡ (get_or es i none).prefix = ap (λ (e : NodeEntry). e.prefix) at in
    let less : free_bits (get_or (drop i es) 0 none) < free = omega (arith, other) in
    all_smaller first free (drop i es) none (ordered-drop i es o) inside some less

pub returns-then-entry-prefix-clause-smaller : goal.returns-then-entry-prefix-clause-smaller
returns-then-entry-prefix-clause-smaller c first all =
    let es = c.args.entries.now in
    subst (AllByRecursion (IsSmaller c.args.free)) (rest_is es c.loop-i.i) (rest_smaller first c.args.free c.loop-i.i es c.requires.ordered c.requires.free all c.loop-i-test.true c.if-entry-prefix.true)
