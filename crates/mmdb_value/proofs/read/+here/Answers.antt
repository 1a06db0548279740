use Rattle.std.proofs.Common.{◌+◌, ◌-◌, ◌*◌, sym, map, false, arith}
use Rattle.std.proofs.lemmas.Result.{err_from_is_err_and}
use Rattle.mmdb_decode.specs.Arrays.{elements}
use Rattle.mmdb_decode.specs.State.{decoded}
use Rattle.mmdb_value.specs.AnyValue.{key_at, value_at, pair_at, scalar_of}
use Rattle.mmdb_value.proofs.AnyLaws.{no_head, any_scalar, parts_go_on, parts_stop, parts_end, within_decoded}
use Rattle.mmdb_decode.proofs.StepLaws.{kept_decoded, declines, declines_more}
use Rattle.mmdb_value.proofs.AnySteps.{not_here, not_below, given_up_after, same_given_up, goes_given_up, goes_to_target, goes_to_parts, pointer_not_entered, pointer_not_read, pointer_read, array_not_entered, array_not_read, array_read, table_not_entered, table_not_read, table_read, pair_no_key, pair_no_value, pair_read, text_paired, text_not_paired, step_kept}
use Rattle.mmdb_value.proofs.read.+here.Goals as goal

pub value_here-returns-in_err-header : goal.value_here-returns-in_err-header
value_here-returns-in_err-header g t c = let p = err_from_is_err_and c.from_residual.result c.from_residual.ensures.1 in rw (p.1, p.2, c.in_err-header.ensures.same) (not_here (g.D.Stepping.state c.args.d.now) c.in_err-header.field-0.0 (decoded false (value_at g.D.Source.tested) (g.D.Stepping.state c.args.d.now)) (no_head g.D.Source.tested (g.D.Stepping.state c.args.d.now) (sym c.in_err-header.ensures.value)))

pub value_of-returns-in_default : goal.value_of-returns-in_default
value_of-returns-in_default g t c = rw (any_scalar g.D.Source.tested (g.D.Stepping.state c.args.d.now) c.args.header c.requires.header (omega arith) (omega arith) (omega arith)) c.scalar.ensures

pub target_of-returns-in_err-next : goal.target_of-returns-in_err-next
target_of-returns-in_err-next g t c = let p = err_from_is_err_and c.from_residual.result c.from_residual.ensures.1 in rw (p.1, p.2) (c.in_err-next.ensures.0, declines false c.in_err-next.field-0.0 (decoded false (value_at g.D.Source.tested) (g.D.Stepping.state c.args.d.now)) (pointer_not_entered g.D.Source.tested (g.D.Stepping.state c.args.d.now) (g.D.Stepping.state c.args.d.now) c.args.header c.requires.header c.requires.kind c.in_err-next.ensures.1))

pub target_of-value_here-requires : goal.target_of-value_here-requires
target_of-value_here-requires g t c κs within = let go = goes_to_target (g.D.Stepping.state c.args.d.now) (g.D.Stepping.state c.try_follow.new.self) c.args.header c.in_ok-next.next c.in_ok-next.ensures in (omega (arith, go.0.levels, go.0.below), (within.0, (within.1.0, (within.1.1.0, (within.1.1.1, rw go.1 c.requires.within)))))

pub target_of-returns-in_err-value : goal.target_of-returns-in_err-value
target_of-returns-in_err-value g t c =
    let p = err_from_is_err_and c.from_residual-in_err-value.result c.from_residual-in_err-value.ensures.1 in
    let go = goes_to_target (g.D.Stepping.state c.args.d.now) (g.D.Stepping.state c.try_follow.new.self) c.args.header c.in_ok-next.next c.in_ok-next.ensures in
    rw (p.1, p.2) (not_below (g.D.Stepping.state c.args.d.now) (g.D.Stepping.state c.try_follow.new.self) (g.D.Stepping.state c.value_here.new.d) c.in_err-value.field-0.0 (decoded false (value_at g.D.Source.tested) (g.D.Stepping.state c.try_follow.new.self)) (decoded false (value_at g.D.Source.tested) (g.D.Stepping.state c.args.d.now)) (goes_given_up (g.D.Stepping.state c.args.d.now) (g.D.Stepping.state c.try_follow.new.self) go.0) (pointer_not_read g.D.Source.tested (g.D.Stepping.state c.args.d.now) (g.D.Stepping.state c.try_follow.new.self) c.args.header c.requires.header c.in_ok-next.next c.requires.kind c.in_ok-next.ensures) c.in_err-value.ensures)

pub target_of-rise_to-requires : goal.target_of-rise_to-requires
target_of-rise_to-requires g t c =
    let go = goes_to_target (g.D.Stepping.state c.args.d.now) (g.D.Stepping.state c.try_follow.new.self) c.args.header c.in_ok-next.next c.in_ok-next.ensures in
    let kept = kept_decoded false (value_at g.D.Source.tested) (g.D.Stepping.state c.try_follow.new.self) (g.D.Stepping.state c.value_here.new.d) (g.D.Source.tree c.in_ok-value.value) c.in_ok-value.ensures in
    omega (arith, go.0.levels, kept.levels)

pub target_of-returns : goal.target_of-returns
target_of-returns g t c =
    let kept = kept_decoded false (value_at g.D.Source.tested) (g.D.Stepping.state c.try_follow.new.self) (g.D.Stepping.state c.value_here.new.d) (g.D.Source.tree c.in_ok-value.value) c.in_ok-value.ensures in
    pointer_read g.D.Source.tested (g.D.Stepping.state c.args.d.now) (g.D.Stepping.state c.try_follow.new.self) c.args.header c.requires.header (g.D.Stepping.state c.value_here.new.d) (g.D.Stepping.state c.rise_to.new.self) c.in_ok-next.next (g.D.Source.tree c.in_ok-value.value) c.requires.kind c.in_ok-next.ensures c.in_ok-value.ensures kept c.rise_to.ensures

pub array_of-returns-in_err-try_descend : goal.array_of-returns-in_err-try_descend
array_of-returns-in_err-try_descend g t c = let p = err_from_is_err_and c.from_residual.result c.from_residual.ensures.1 in rw (p.1, p.2) (c.in_err-try_descend.ensures.given_up, declines false c.in_err-try_descend.field-0.0 (decoded false (value_at g.D.Source.tested) (g.D.Stepping.state c.args.d.now)) (array_not_entered g.D.Source.tested (g.D.Stepping.state c.args.d.now) (g.D.Stepping.state c.args.d.now) c.args.header c.requires.header c.requires.kind c.in_err-try_descend.ensures.err))

pub array_of-values_of-requires : goal.array_of-values_of-requires
array_of-values_of-requires g t c κs within = let go = goes_to_parts (g.D.Stepping.state c.args.d.now) (g.D.Stepping.state c.try_descend.new.self) c.args.header c.args.header.size c.in_ok-try_descend.ensures.ok in (omega (arith, go.0.levels, go.0.below), (within.0, (within.1.0, (within.1.1.0, (within.1.1.1, go.1)))))

pub array_of-returns-in_err-all : goal.array_of-returns-in_err-all
array_of-returns-in_err-all g t c =
    let p = err_from_is_err_and c.from_residual-in_err-all.result c.from_residual-in_err-all.ensures.1 in
    let go = goes_to_parts (g.D.Stepping.state c.args.d.now) (g.D.Stepping.state c.try_descend.new.self) c.args.header c.args.header.size c.in_ok-try_descend.ensures.ok in
    rw (p.1, p.2) (not_below (g.D.Stepping.state c.args.d.now) (g.D.Stepping.state c.try_descend.new.self) (g.D.Stepping.state c.values_of.new.d) c.in_err-all.field-0.0 (decoded false (elements (value_at g.D.Source.tested) c.args.header.size) (g.D.Stepping.state c.try_descend.new.self)) (decoded false (value_at g.D.Source.tested) (g.D.Stepping.state c.args.d.now)) (goes_given_up (g.D.Stepping.state c.args.d.now) (g.D.Stepping.state c.try_descend.new.self) go.0) (array_not_read g.D.Source.tested (g.D.Stepping.state c.args.d.now) (g.D.Stepping.state c.try_descend.new.self) c.args.header c.requires.header c.requires.kind c.in_ok-try_descend.ensures.ok) c.in_err-all.ensures)

pub array_of-rise-requires : goal.array_of-rise-requires
array_of-rise-requires g t c =
    let go = goes_to_parts (g.D.Stepping.state c.args.d.now) (g.D.Stepping.state c.try_descend.new.self) c.args.header c.args.header.size c.in_ok-try_descend.ensures.ok in
    let kept = kept_decoded false (elements (value_at g.D.Source.tested) c.args.header.size) (g.D.Stepping.state c.try_descend.new.self) (g.D.Stepping.state c.values_of.new.d) (map g.D.Source.tree c.in_ok-all.all.items) c.in_ok-all.ensures in
    omega (arith, go.0.levels, kept.levels)

pub array_of-returns : goal.array_of-returns
array_of-returns g t c =
    let kept = kept_decoded false (elements (value_at g.D.Source.tested) c.args.header.size) (g.D.Stepping.state c.try_descend.new.self) (g.D.Stepping.state c.values_of.new.d) (map g.D.Source.tree c.in_ok-all.all.items) c.in_ok-all.ensures in
    rw c.array.ensures (array_read g.D.Source.tested (g.D.Stepping.state c.args.d.now) (g.D.Stepping.state c.try_descend.new.self) c.args.header c.requires.header (g.D.Stepping.state c.values_of.new.d) (g.D.Stepping.state c.rise.new.self) (map g.D.Source.tree c.in_ok-all.all.items) c.requires.kind c.in_ok-try_descend.ensures.ok c.in_ok-all.ensures kept c.rise.ensures)

pub values_of-returns-in_err-value_here : goal.values_of-returns-in_err-value_here
values_of-returns-in_err-value_here g t c =
    let p = err_from_is_err_and c.from_residual.result c.from_residual.ensures.1 in
    rw (p.1, p.2) (not_below (g.D.Stepping.state c.args.d.now) (g.D.Stepping.state c.loop.d) (g.D.Stepping.state c.value_here.new.d) c.in_err-value_here.field-0.0 (decoded false (value_at g.D.Source.tested) (g.D.Stepping.state c.loop.d)) (decoded false (elements (value_at g.D.Source.tested) c.args.count) (g.D.Stepping.state c.args.d.now)) (same_given_up (g.D.Stepping.state c.args.d.now) (g.D.Stepping.state c.loop.d) c.loop.invariant.kept) (parts_stop (value_at g.D.Source.tested) (decoded false (elements (value_at g.D.Source.tested) c.args.count) (g.D.Stepping.state c.args.d.now)) (map g.D.Source.tree c.loop.all.items) (c.args.count - c.loop.counter) (c.args.count - (c.loop.counter + 1)) (g.D.Stepping.state c.loop.d) c.loop.invariant.values (omega arith)) c.in_err-value_here.ensures)

pub values_of-returns-in_err-push : goal.values_of-returns-in_err-push
values_of-returns-in_err-push g t c =
    let p = err_from_is_err_and c.from_residual-in_err-push.result c.from_residual-in_err-push.ensures.1 in
    rw (p.1, p.2) (same_given_up (g.D.Stepping.state c.args.d.now) (g.D.Stepping.state c.value_here.new.d) (step_kept (value_at g.D.Source.tested) (g.D.Stepping.state c.args.d.now) (g.D.Stepping.state c.loop.d) (g.D.Stepping.state c.value_here.new.d) (g.D.Source.tree c.in_ok-value_here.field-0) c.loop.invariant.kept c.in_ok-value_here.ensures), tt)

pub values_of-loop-preserved : goal.values_of-loop-preserved
values_of-loop-preserved g t c = record {
  values = parts_go_on g.D.Source.tree (value_at g.D.Source.tested) (decoded false (elements (value_at g.D.Source.tested) c.args.count) (g.D.Stepping.state c.args.d.now)) c.loop.all.items _ c.in_ok-value_here.field-0 (c.args.count - c.loop.counter) (c.args.count - (c.loop.counter + 1)) (g.D.Stepping.state c.loop.d) (g.D.Stepping.state c.value_here.new.d) c.loop.invariant.values (omega arith) c.in_ok-value_here.ensures c.in_ok-push.ensures.items;
  kept = step_kept (value_at g.D.Source.tested) (g.D.Stepping.state c.args.d.now) (g.D.Stepping.state c.loop.d) (g.D.Stepping.state c.value_here.new.d) (g.D.Source.tree c.in_ok-value_here.field-0) c.loop.invariant.kept c.in_ok-value_here.ensures;
  within = within_decoded false (value_at g.D.Source.tested) (g.D.Stepping.state c.loop.d) (g.D.Stepping.state c.value_here.new.d) (g.D.Source.tree c.in_ok-value_here.field-0) c.in_ok-value_here.ensures;
}

pub values_of-returns : goal.values_of-returns
values_of-returns g t c = parts_end (value_at g.D.Source.tested) (decoded false (elements (value_at g.D.Source.tested) c.args.count) (g.D.Stepping.state c.args.d.now)) (map g.D.Source.tree c.loop.all.items) (c.args.count - c.loop.counter) (g.D.Stepping.state c.loop.d) c.loop.invariant.values (omega arith) c.loop.invariant.within

pub table_of-returns-in_err-try_descend : goal.table_of-returns-in_err-try_descend
table_of-returns-in_err-try_descend g t c = let p = err_from_is_err_and c.from_residual.result c.from_residual.ensures.1 in rw (p.1, p.2) (c.in_err-try_descend.ensures.given_up, declines false c.in_err-try_descend.field-0.0 (decoded false (value_at g.D.Source.tested) (g.D.Stepping.state c.args.d.now)) (table_not_entered g.D.Source.tested (g.D.Stepping.state c.args.d.now) (g.D.Stepping.state c.args.d.now) c.args.header c.requires.header c.requires.kind c.in_err-try_descend.ensures.err))

pub table_of-pairs_of-requires : goal.table_of-pairs_of-requires
table_of-pairs_of-requires g t c κs within = let go = goes_to_parts (g.D.Stepping.state c.args.d.now) (g.D.Stepping.state c.try_descend.new.self) c.args.header (2 * c.args.header.size) c.in_ok-try_descend.ensures.ok in (omega (arith, go.0.levels, go.0.below), (within.0, (within.1.0, (within.1.1.0, (within.1.1.1, go.1)))))

pub table_of-returns-in_err-all : goal.table_of-returns-in_err-all
table_of-returns-in_err-all g t c =
    let p = err_from_is_err_and c.from_residual-in_err-all.result c.from_residual-in_err-all.ensures.1 in
    let go = goes_to_parts (g.D.Stepping.state c.args.d.now) (g.D.Stepping.state c.try_descend.new.self) c.args.header (2 * c.args.header.size) c.in_ok-try_descend.ensures.ok in
    rw (p.1, p.2) (not_below (g.D.Stepping.state c.args.d.now) (g.D.Stepping.state c.try_descend.new.self) (g.D.Stepping.state c.pairs_of.new.d) c.in_err-all.field-0.0 (decoded false (elements (pair_at g.D.Source.tested (value_at g.D.Source.tested)) c.args.header.size) (g.D.Stepping.state c.try_descend.new.self)) (decoded false (value_at g.D.Source.tested) (g.D.Stepping.state c.args.d.now)) (goes_given_up (g.D.Stepping.state c.args.d.now) (g.D.Stepping.state c.try_descend.new.self) go.0) (table_not_read g.D.Source.tested (g.D.Stepping.state c.args.d.now) (g.D.Stepping.state c.try_descend.new.self) c.args.header c.requires.header c.requires.kind c.in_ok-try_descend.ensures.ok) c.in_err-all.ensures)

pub table_of-rise-requires : goal.table_of-rise-requires
table_of-rise-requires g t c =
    let go = goes_to_parts (g.D.Stepping.state c.args.d.now) (g.D.Stepping.state c.try_descend.new.self) c.args.header (2 * c.args.header.size) c.in_ok-try_descend.ensures.ok in
    let kept = kept_decoded false (elements (pair_at g.D.Source.tested (value_at g.D.Source.tested)) c.args.header.size) (g.D.Stepping.state c.try_descend.new.self) (g.D.Stepping.state c.pairs_of.new.d) (map (λ x. (g.D.Source.text_bytes x.0, g.D.Source.tree x.1)) c.in_ok-all.all.items) c.in_ok-all.ensures in
    omega (arith, go.0.levels, kept.levels)

pub table_of-returns : goal.table_of-returns
table_of-returns g t c =
    let kept = kept_decoded false (elements (pair_at g.D.Source.tested (value_at g.D.Source.tested)) c.args.header.size) (g.D.Stepping.state c.try_descend.new.self) (g.D.Stepping.state c.pairs_of.new.d) (map (λ x. (g.D.Source.text_bytes x.0, g.D.Source.tree x.1)) c.in_ok-all.all.items) c.in_ok-all.ensures in
    rw c.table.ensures (table_read g.D.Source.tested (g.D.Stepping.state c.args.d.now) (g.D.Stepping.state c.try_descend.new.self) c.args.header c.requires.header (g.D.Stepping.state c.pairs_of.new.d) (g.D.Stepping.state c.rise.new.self) (map (λ x. (g.D.Source.text_bytes x.0, g.D.Source.tree x.1)) c.in_ok-all.all.items) c.requires.kind c.in_ok-try_descend.ensures.ok c.in_ok-all.ensures kept c.rise.ensures)

pub pairs_of-returns : goal.pairs_of-returns
pairs_of-returns g t c = parts_end (pair_at g.D.Source.tested (value_at g.D.Source.tested)) (decoded false (elements (pair_at g.D.Source.tested (value_at g.D.Source.tested)) c.args.count) (g.D.Stepping.state c.args.d.now)) (map (λ x. (g.D.Source.text_bytes x.0, g.D.Source.tree x.1)) c.loop.all.items) (c.args.count - c.loop.counter) (g.D.Stepping.state c.loop.d) c.loop.invariant.values (omega arith) c.loop.invariant.within

pub pairs_of-returns-in_err-push_pair : goal.pairs_of-returns-in_err-push_pair
pairs_of-returns-in_err-push_pair g t c =
    let p = err_from_is_err_and c.from_residual.result c.from_residual.ensures.1 in
    rw (p.1, p.2) (not_below (g.D.Stepping.state c.args.d.now) (g.D.Stepping.state c.loop.d) (g.D.Stepping.state c.push_pair.new.d) c.in_err-push_pair.field-0.0 (decoded false (pair_at g.D.Source.tested (value_at g.D.Source.tested)) (g.D.Stepping.state c.loop.d)) (decoded false (elements (pair_at g.D.Source.tested (value_at g.D.Source.tested)) c.args.count) (g.D.Stepping.state c.args.d.now)) (same_given_up (g.D.Stepping.state c.args.d.now) (g.D.Stepping.state c.loop.d) c.loop.invariant.kept) (parts_stop (pair_at g.D.Source.tested (value_at g.D.Source.tested)) (decoded false (elements (pair_at g.D.Source.tested (value_at g.D.Source.tested)) c.args.count) (g.D.Stepping.state c.args.d.now)) (map (λ x. (g.D.Source.text_bytes x.0, g.D.Source.tree x.1)) c.loop.all.items) (c.args.count - c.loop.counter) (c.args.count - (c.loop.counter + 1)) (g.D.Stepping.state c.loop.d) c.loop.invariant.values (omega arith)) (c.in_err-push_pair.ensures.given_up, c.in_err-push_pair.ensures.err))

pub pairs_of-loop-preserved : goal.pairs_of-loop-preserved
pairs_of-loop-preserved g t c =
    let put = c.in_ok-push_pair.ensures.read in
    let read = put.2 in
    record {
      values = parts_go_on (λ x. (g.D.Source.text_bytes x.0, g.D.Source.tree x.1)) (pair_at g.D.Source.tested (value_at g.D.Source.tested)) (decoded false (elements (pair_at g.D.Source.tested (value_at g.D.Source.tested)) c.args.count) (g.D.Stepping.state c.args.d.now)) c.loop.all.items _ put.0 (c.args.count - c.loop.counter) (c.args.count - (c.loop.counter + 1)) (g.D.Stepping.state c.loop.d) (g.D.Stepping.state c.push_pair.new.d) c.loop.invariant.values (omega arith) read put.1;
      kept = step_kept (pair_at g.D.Source.tested (value_at g.D.Source.tested)) (g.D.Stepping.state c.args.d.now) (g.D.Stepping.state c.loop.d) (g.D.Stepping.state c.push_pair.new.d) (g.D.Source.text_bytes put.0.0, g.D.Source.tree put.0.1) c.loop.invariant.kept read;
      within = within_decoded false (pair_at g.D.Source.tested (value_at g.D.Source.tested)) (g.D.Stepping.state c.loop.d) (g.D.Stepping.state c.push_pair.new.d) (g.D.Source.text_bytes put.0.0, g.D.Source.tree put.0.1) read;
    }

pub push_pair-returns-in_err-key-clause-err : goal.push_pair-returns-in_err-key-clause-err
push_pair-returns-in_err-key-clause-err g t c =
    let p = err_from_is_err_and c.from_residual.result c.from_residual.ensures.1 in
    rw (p.1, p.2) (declines_more false c.in_err-key.field-0.0 (decoded false (key_at g.D.Source.tested) (g.D.Stepping.state c.args.d.now)) (decoded false (pair_at g.D.Source.tested (value_at g.D.Source.tested)) (g.D.Stepping.state c.args.d.now)) (pair_no_key g.D.Source.tested (value_at g.D.Source.tested) (g.D.Stepping.state c.args.d.now)) c.in_err-key.ensures.1)

pub push_pair-returns-in_err-header-clause-err : goal.push_pair-returns-in_err-header-clause-err
push_pair-returns-in_err-header-clause-err g t c =
    let p = err_from_is_err_and c.from_residual-in_err-header.result c.from_residual-in_err-header.ensures.1 in
    rw (p.1, p.2) (declines false c.in_err-header.field-0.0 (decoded false (pair_at g.D.Source.tested (value_at g.D.Source.tested)) (g.D.Stepping.state c.args.d.now)) (pair_no_value g.D.Source.tested (value_at g.D.Source.tested) (g.D.Stepping.state c.args.d.now) (g.D.Stepping.state c.key.new.self) (g.D.Source.text_bytes c.in_ok-key.key) c.in_ok-key.ensures (no_head g.D.Source.tested (g.D.Stepping.state c.key.new.self) (sym c.in_err-header.ensures.value))))

pub push_pair-returns-in_err-header-clause-given_up : goal.push_pair-returns-in_err-header-clause-given_up
push_pair-returns-in_err-header-clause-given_up g t c =
    let p = err_from_is_err_and c.from_residual-in_err-header.result c.from_residual-in_err-header.ensures.1 in
    rw (p.1, c.in_err-header.ensures.same) (same_given_up (g.D.Stepping.state c.args.d.now) (g.D.Stepping.state c.key.new.self) (kept_decoded false (key_at g.D.Source.tested) (g.D.Stepping.state c.args.d.now) (g.D.Stepping.state c.key.new.self) (g.D.Source.text_bytes c.in_ok-key.key) c.in_ok-key.ensures))

pub push_pair-returns-in_err-text-clause-err : goal.push_pair-returns-in_err-text-clause-err
push_pair-returns-in_err-text-clause-err g t c =
    let p = err_from_is_err_and c.from_residual-in_err-text.result c.from_residual-in_err-text.ensures.1 in
    rw (p.1, p.2) (declines_more false c.in_err-text.field-0.0 (decoded false (scalar_of g.D.Source.tested c.in_ok-header.header) (g.D.Stepping.state c.try_header.new.self)) (decoded false (pair_at g.D.Source.tested (value_at g.D.Source.tested)) (g.D.Stepping.state c.args.d.now)) (text_not_paired g.D.Source.tested (g.D.Stepping.state c.args.d.now) (g.D.Stepping.state c.key.new.self) (g.D.Stepping.state c.try_header.new.self) c.in_ok-header.header (g.D.Source.text_bytes c.in_ok-key.key) c.in_ok-key.ensures (sym c.in_ok-header.ensures.value) c.if-header-eq-TEXT.true c.in_ok-header.ensures.same) c.in_err-text.ensures.1)

pub push_pair-returns-in_err-text-clause-given_up : goal.push_pair-returns-in_err-text-clause-given_up
push_pair-returns-in_err-text-clause-given_up g t c =
    let p = err_from_is_err_and c.from_residual-in_err-text.result c.from_residual-in_err-text.ensures.1 in
    rw p.1 (given_up_after (g.D.Stepping.state c.args.d.now) (g.D.Stepping.state c.key.new.self) (g.D.Stepping.state c.text.new.self) (same_given_up (g.D.Stepping.state c.args.d.now) (g.D.Stepping.state c.key.new.self) (kept_decoded false (key_at g.D.Source.tested) (g.D.Stepping.state c.args.d.now) (g.D.Stepping.state c.key.new.self) (g.D.Source.text_bytes c.in_ok-key.key) c.in_ok-key.ensures)) (rw c.in_ok-header.ensures.same at c.in_err-text.ensures.0))

pub push_pair-returns-in_err-push-clause-given_up : goal.push_pair-returns-in_err-push-clause-given_up
push_pair-returns-in_err-push-clause-given_up g t c =
    let p = err_from_is_err_and c.from_residual-in_err-push.result c.from_residual-in_err-push.ensures.1 in
    rw p.1 (same_given_up (g.D.Stepping.state c.args.d.now) (g.D.Stepping.state c.text.new.self) (step_kept (scalar_of g.D.Source.tested c.in_ok-header.header) (g.D.Stepping.state c.args.d.now) (g.D.Stepping.state c.try_header.new.self) (g.D.Stepping.state c.text.new.self) _ (rw c.in_ok-header.ensures.same (kept_decoded false (key_at g.D.Source.tested) (g.D.Stepping.state c.args.d.now) (g.D.Stepping.state c.key.new.self) (g.D.Source.text_bytes c.in_ok-key.key) c.in_ok-key.ensures)) c.in_ok-text.ensures))

pub push_pair-returns-then-header-eq-TEXT-clause-read : goal.push_pair-returns-then-header-eq-TEXT-clause-read
push_pair-returns-then-header-eq-TEXT-clause-read g t c =
    ((c.in_ok-key.key, c.of_text.result), c.in_ok-push.ensures.items, rw c.of_text.ensures (text_paired g.D.Source.tested (g.D.Stepping.state c.args.d.now) (g.D.Stepping.state c.key.new.self) (g.D.Stepping.state c.try_header.new.self) c.in_ok-header.header (g.D.Source.text_bytes c.in_ok-key.key) c.in_ok-key.ensures (sym c.in_ok-header.ensures.value) c.if-header-eq-TEXT.true c.in_ok-header.ensures.same (g.D.Stepping.state c.text.new.self) _ c.in_ok-text.ensures))

pub push_pair-value_of-requires : goal.push_pair-value_of-requires
push_pair-value_of-requires g t c κs within =
    let kept = kept_decoded false (key_at g.D.Source.tested) (g.D.Stepping.state c.args.d.now) (g.D.Stepping.state c.key.new.self) (g.D.Source.text_bytes c.in_ok-key.key) c.in_ok-key.ensures in
    let same = c.in_ok-header.ensures.same in
    (rw same (omega (arith, kept.levels)), (within.0, (within.1.0, (within.1.1.0, (within.1.1.1, (rw same (within_decoded false (key_at g.D.Source.tested) (g.D.Stepping.state c.args.d.now) (g.D.Stepping.state c.key.new.self) (g.D.Source.text_bytes c.in_ok-key.key) c.in_ok-key.ensures), (rw same (sym c.in_ok-header.ensures.value), (c.in_ok-header.ensures.bound.0, c.in_ok-header.ensures.bound.1))))))))

pub push_pair-returns-in_err-value-clause-err : goal.push_pair-returns-in_err-value-clause-err
push_pair-returns-in_err-value-clause-err g t c =
    let p = err_from_is_err_and c.from_residual-in_err-value.result c.from_residual-in_err-value.ensures.1 in
    rw (p.1, p.2) (declines_more false c.in_err-value.field-0.0 (decoded false (value_at g.D.Source.tested) (g.D.Stepping.state c.key.new.self)) (decoded false (pair_at g.D.Source.tested (value_at g.D.Source.tested)) (g.D.Stepping.state c.args.d.now)) (pair_no_value g.D.Source.tested (value_at g.D.Source.tested) (g.D.Stepping.state c.args.d.now) (g.D.Stepping.state c.key.new.self) (g.D.Source.text_bytes c.in_ok-key.key) c.in_ok-key.ensures) (rw c.in_ok-header.ensures.same at c.in_err-value.ensures.1))

pub push_pair-returns-in_err-value-clause-given_up : goal.push_pair-returns-in_err-value-clause-given_up
push_pair-returns-in_err-value-clause-given_up g t c =
    let p = err_from_is_err_and c.from_residual-in_err-value.result c.from_residual-in_err-value.ensures.1 in
    rw p.1 (given_up_after (g.D.Stepping.state c.args.d.now) (g.D.Stepping.state c.key.new.self) (g.D.Stepping.state c.value_of.new.d) (same_given_up (g.D.Stepping.state c.args.d.now) (g.D.Stepping.state c.key.new.self) (kept_decoded false (key_at g.D.Source.tested) (g.D.Stepping.state c.args.d.now) (g.D.Stepping.state c.key.new.self) (g.D.Source.text_bytes c.in_ok-key.key) c.in_ok-key.ensures)) (rw c.in_ok-header.ensures.same at c.in_err-value.ensures.0))

pub push_pair-returns-in_err-push-2-clause-given_up : goal.push_pair-returns-in_err-push-2-clause-given_up
push_pair-returns-in_err-push-2-clause-given_up g t c =
    let p = err_from_is_err_and c.from_residual-in_err-push-2.result c.from_residual-in_err-push-2.ensures.1 in
    rw p.1 (same_given_up (g.D.Stepping.state c.args.d.now) (g.D.Stepping.state c.value_of.new.d) (step_kept (value_at g.D.Source.tested) (g.D.Stepping.state c.args.d.now) (g.D.Stepping.state c.try_header.new.self) (g.D.Stepping.state c.value_of.new.d) (g.D.Source.tree c.in_ok-value.value) (rw c.in_ok-header.ensures.same (kept_decoded false (key_at g.D.Source.tested) (g.D.Stepping.state c.args.d.now) (g.D.Stepping.state c.key.new.self) (g.D.Source.text_bytes c.in_ok-key.key) c.in_ok-key.ensures)) c.in_ok-value.ensures))

pub push_pair-returns-clause-read : goal.push_pair-returns-clause-read
push_pair-returns-clause-read g t c =
    ((c.in_ok-key.key, c.in_ok-value.value), c.in_ok-push-2.ensures.items, pair_read g.D.Source.tested (value_at g.D.Source.tested) (g.D.Stepping.state c.args.d.now) (g.D.Stepping.state c.key.new.self) (g.D.Stepping.state c.value_of.new.d) (g.D.Source.text_bytes c.in_ok-key.key) (g.D.Source.tree c.in_ok-value.value) c.in_ok-key.ensures (rw c.in_ok-header.ensures.same at c.in_ok-value.ensures))
