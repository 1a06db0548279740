use Rattle.std.proofs.Common.{◌+◌, ◌-◌, sym, arith, ◌∙◌}
use Rattle.std.proofs.lemmas.Result.{err_from_is_err_and}
use Rattle.mmdb_c.specs.List.{listed, in_series}
use Rattle.mmdb_c.proofs.ListLemmas.{listed_zero, listed_none, passes_at_end, scalar_none, scalar_listed, stops, passes, goes_on, container_none, container_passes, container_listed}
use Rattle.mmdb_c.proofs.list.+put.Goals as goal

pub returns-then-levels-eq0-clause-damaged : goal.returns-then-levels-eq0-clause-damaged
returns-then-levels-eq0-clause-damaged t c = λ _. listed_zero c.args.levels c.args.section.now c.args.offset c.if-levels-eq0.true

pub returns-then-parts-out-clause-full : goal.returns-then-parts-out-clause-full
returns-then-parts-out-clause-full t c = λ _. passes_at_end c.args.levels c.args.section.now c.args.offset c.args.parts c.args.out.now c.if-parts-out.true

pub returns-in_err-place-clause-damaged : goal.returns-in_err-place-clause-damaged
returns-in_err-place-clause-damaged t c = λ _. listed_none c.args.levels c.args.section.now c.args.offset (sym c.in_err-place.ensures.value)

pub returns-in_err-part-clause-damaged : goal.returns-in_err-part-clause-damaged
returns-in_err-part-clause-damaged t c = λ _. scalar_none c.args.levels c.args.section.now c.args.offset c.in_ok-place.place c.if-levels-eq0.false (sym c.in_ok-place.ensures.value) (sym c.holds_parts.ensures ∙ c.if-not-holds_parts.true) (sym c.in_err-part.ensures.value)

pub returns-then-not-holds_parts-clause-listed : goal.returns-then-not-holds_parts-clause-listed
returns-then-not-holds_parts-clause-listed t c = scalar_listed c.args.levels c.args.section.now c.args.offset c.in_ok-place.place c.if-levels-eq0.false (sym c.in_ok-place.ensures.value) c.in_ok-part.part c.in_ok-part.next c.args.parts c.args.out.now (sym c.holds_parts.ensures ∙ c.if-not-holds_parts.true) (sym c.in_ok-part.ensures.value) (omega (arith, c.if-parts-out.false))

pub returns-in_err-filled-clause-damaged : goal.returns-in_err-filled-clause-damaged
returns-in_err-filled-clause-damaged t c =
    let p = err_from_is_err_and c.from_residual-in_err-filled.result c.from_residual-in_err-filled.ensures.1 in
    let read = listed (c.args.levels - 1) c.args.section.now in
    let count = c.count_of-count.result in
    let whole = in_series read count c.in_ok-place.place.header.body in
    rw (p.1, p.2) (λ h. container_none c.args.levels c.args.section.now c.args.offset c.in_ok-place.place c.if-levels-eq0.false (sym c.in_ok-place.ensures.value) (sym c.holds_parts.ensures ∙ c.if-not-holds_parts.false) count c.count_of-count.ensures (stops read whole (count - c.loop.counter) (count - (c.loop.counter + 1)) c.loop.filled.next (c.args.parts + 1) c.loop.filled.parts c.args.out.now c.loop.out (omega (arith, c.loop-test.true)) c.loop.invariant (c.in_err-filled.ensures.damaged h)))

pub returns-in_err-filled-clause-full : goal.returns-in_err-filled-clause-full
returns-in_err-filled-clause-full t c =
    let p = err_from_is_err_and c.from_residual-in_err-filled.result c.from_residual-in_err-filled.ensures.1 in
    let read = listed (c.args.levels - 1) c.args.section.now in
    let count = c.count_of-count.result in
    let whole = in_series read count c.in_ok-place.place.header.body in
    rw (p.1, p.2) (λ h. container_passes c.args.levels c.args.section.now c.args.offset c.in_ok-place.place c.if-levels-eq0.false (sym c.in_ok-place.ensures.value) (sym c.holds_parts.ensures ∙ c.if-not-holds_parts.false) count c.count_of-count.ensures c.args.parts c.args.out.now (passes read whole (count - c.loop.counter) (count - (c.loop.counter + 1)) c.loop.filled.next (c.args.parts + 1) c.loop.filled.parts c.args.out.now c.loop.out (omega (arith, c.loop-test.true)) c.loop.invariant (c.in_err-filled.ensures.full h)))

pub loop-preserved : goal.loop-preserved
loop-preserved t c =
    let read = listed (c.args.levels - 1) c.args.section.now in
    let count = c.count_of-count.result in
    let whole = in_series read count c.in_ok-place.place.header.body in
    goes_on read whole (count - c.loop.counter) (count - (c.loop.counter + 1)) c.loop.filled.next (c.args.parts + 1) c.loop.filled.parts c.args.out.now c.loop.out (omega (arith, c.loop-test.true)) c.loop.invariant c.in_ok-filled.filled.parts c.in_ok-filled.filled.next c.put.new.out c.in_ok-filled.ensures.listed

pub returns-clause-listed : goal.returns-clause-listed
returns-clause-listed t c =
    rw (c.make_part.ensures, c.unwrap_or-next.ensures) (container_listed c.args.levels c.args.section.now c.args.offset c.in_ok-place.place c.if-levels-eq0.false (sym c.in_ok-place.ensures.value) (sym c.holds_parts.ensures ∙ c.if-not-holds_parts.false) c.count_of-count.result c.count_of-count.ensures (c.count_of-count.result - c.loop.counter) c.loop.filled.next c.args.parts c.loop.filled.parts c.args.out.now c.loop.out (omega (arith, c.loop-test.false)) c.loop.invariant)
