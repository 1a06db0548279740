use Rattle.std.proofs.Common.{rules, ◌≡◌, ℕ, suc, ◌+◌, ◌<◌, ◌≤◌, length, slice_set, subst, arith}
use Rattle.mmdb_nodes.specs.declared.entry.NodeEntry.{NodeEntry}
use Rattle.mmdb_writer.proofs.LayoutLemmas.{AreMovedTo, all_moved, as_many_entries, one_more_moved}
use Rattle.mmdb_writer.proofs.layout.move_entries.Goals as goal

pub loop-i-preserved : goal.loop-i-preserved
loop-i-preserved c =
    let moved = c.args.moved.now in
    let i = c.loop-i.i in
    let old = c.args.entries.now.items in
    let new = c.loop-i.entries.items in
    let many : length new ≡ length old = as_many_entries moved i old new c.loop-i.invariant in
    let len : c.len-i-end.result ≡ length old = search rules in
    let below : i < length new = omega (arith, c.loop-i-test.true) in
    let next : suc i ≡ i + 1 = omega arith in
    let entry : NodeEntry = record { first = c.index_mut.result.now.first; prefix = c.index_mut.result.now.prefix; offset = c.moved_offset.result } in
    subst (λ (k : ℕ). AreMovedTo moved k old (slice_set new i entry)) next (one_more_moved moved i old new c.index.result.now c.index_mut.result.now c.moved_offset.result c.loop-i.invariant below c.index.ensures c.index_mut.ensures.value c.moved_offset.ensures)

pub returns : goal.returns
returns c =
    let moved = c.args.moved.now in
    let i = c.loop-i.i in
    let old = c.args.entries.now.items in
    let new = c.loop-i.entries.items in
    let many : length new ≡ length old = as_many_entries moved i old new c.loop-i.invariant in
    let len : c.len-i-end.result ≡ length old = search rules in
    let all : length new ≤ i = omega (arith, c.loop-i-test.false) in
    all_moved moved i old new c.loop-i.invariant all
