use Rattle.std.proofs.Common.{rules, ◌≡◌, ◌≤◌, get_or, length, ltb, ltb-true, ltb-false, arith, Some, refl, sym, ap, ◌∙◌}
use Rattle.std.specs.List.{slice_get}
use Rattle.std.proofs.lemmas.List.Sorted.{IsPartitionPoint-from_clause, IsPartitionedBy-ltb}
use Rattle.std.proofs.lemmas.Option.{slice_get_read, get_or_from_slice_get}
use Rattle.mmdb_section.specs.declared.moved.Moved.{Moved}
use Rattle.mmdb_section.proofs.MovedLemmas.{none_there, same_moved}
use Rattle.mmdb_section.proofs.moved.find.Goals as goal

pub returns-in_err-value-clause-none : goal.returns-in_err-value-clause-none
returns-in_err-value-clause-none c = λ is ordered place has.
    let ms = c.args.moved.now in
    let r = c.partition_point-index.result in
    let parted = IsPartitionedBy-ltb (λ (m : Moved). m.from) ms c.args.from ordered in
    let point = IsPartitionPoint-from_clause (λ (m : Moved). ltb m.from c.args.from) ms _ c.partition_point-index.ensures.partitioned parted (λ a r q k. search rules) in
    let past : length ms ≤ r = ltb-false _ _ (sym c.in_err-value.ensures.lookup.0) in
    none_there ms c.args.from r ordered (λ k d h. ltb-true _ _ (point.0 k d (omega arith) h)) (λ d h. absurd (omega arith)) place has

pub returns-then-value-from-clause-found : goal.returns-then-value-from-clause-found
returns-then-value-from-clause-found c =
    let ms = c.args.moved.now in
    let r = c.partition_point-index.result in
    let v = c.in_ok-value.value.now in
    let read = c.in_ok-value.ensures.lookup in
    let got : slice_get ms r ≡ Some v = slice_get_read ms (length ms) r v refl (ltb-true _ _ (sym read.0)) read.1 in
    (r, got ∙ ap Some (same_moved v c.args.from v.place c.if-value-from.true refl))

pub returns-else-value-from-clause-none : goal.returns-else-value-from-clause-none
returns-else-value-from-clause-none c = λ is ordered place has.
    let ms = c.args.moved.now in
    let r = c.partition_point-index.result in
    let v = c.in_ok-value.value.now in
    let parted = IsPartitionedBy-ltb (λ (m : Moved). m.from) ms c.args.from ordered in
    let point = IsPartitionPoint-from_clause (λ (m : Moved). ltb m.from c.args.from) ms _ c.partition_point-index.ensures.partitioned parted (λ a r q k. search rules) in
    let read = c.in_ok-value.ensures.lookup in
    let got : slice_get ms r ≡ Some v = slice_get_read ms (length ms) r v refl (ltb-true _ _ (sym read.0)) read.1 in
    none_there ms c.args.from r ordered (λ k d h. ltb-true _ _ (point.0 k d (omega arith) h))
    (λ d h.
    let same : (get_or ms r d).from ≡ v.from = ap (λ (m : Moved). m.from) (get_or_from_slice_get ms r v d got) in
    let least : c.args.from ≤ (get_or ms r d).from = ltb-false _ _ (point.1 r d (omega arith) h) in
    let other = c.if-value-from.false in
    grind arith) place has
