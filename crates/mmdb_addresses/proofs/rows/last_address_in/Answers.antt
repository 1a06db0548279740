use Rattle.std.proofs.Common.{◌≡◌, ◌<◌, ◌≤◌, ℕ, false, length, subst, sym, arith}
use Rattle.std.proofs.Math.Logic.{⊎_elim}
use Rattle.std.proofs.lemmas.Bool.{cases_lt}
use Rattle.mmdb_addresses.specs.Last.{IsLastBefore}
use Rattle.mmdb_addresses.proofs.LastLaws.{last_next, last_of_all}
use Rattle.mmdb_addresses.proofs.RunLaws.{begins_at, border_at, none_beyond, none_further, none_off, runs_on}
use Rattle.mmdb_addresses.proofs.rows.last_address_in.Goals as goal

pub returns-then-at-text : goal.returns-then-at-text
returns-then-at-text c =
    let text = c.args.text.now in
    last_of_all text c.loop-end.end c.loop-end.last c.loop-end.invariant.last (λ k a late stands. ⊎_elim
    (λ (early : k < c.end_of-at.result). none_off text false c.loop-end.end c.end_of-at.result c.end_of-at.ensures.end k a late early stands)
    (λ (over : c.end_of-at.result ≤ k). none_beyond text false k a (omega arith) stands)
    (cases_lt k c.end_of-at.result))

pub address_at-requires-clause-begins : goal.address_at-requires-clause-begins
address_at-requires-clause-begins c = begins_at c.args.text.now c.loop-end.end c.end_of-at.result c.end_of-at.ensures.end (omega arith) c.loop-end.invariant.border

pub loop-end-smaller : goal.loop-end-smaller
loop-end-smaller c =
    let begins = begins_at c.args.text.now c.loop-end.end c.end_of-at.result c.end_of-at.ensures.end (omega arith) c.loop-end.invariant.border in
    let further = runs_on c.args.text.now c.end_of-at.result c.end_of-end.result (omega arith) begins.here c.end_of-end.ensures.end in
    omega arith

pub loop-end-preserved : goal.loop-end-preserved
loop-end-preserved c =
    let text = c.args.text.now in
    let at = c.end_of-at.result in
    let next = c.end_of-end.result in
    record {
      within = c.end_of-end.ensures.within;
      border = λ _. border_at text at next (omega arith) c.end_of-end.ensures.end;
      last = subst (IsLastBefore text next) (sym c.later-last.ensures)
          (last_next text c.loop-end.end at next c.address_at.result c.loop-end.last c.loop-end.invariant.last
          (none_off text false c.loop-end.end at c.end_of-at.ensures.end) c.address_at.ensures (none_further text false at next c.end_of-end.ensures.end));
    }

pub returns : goal.returns
returns c =
    last_of_all c.args.text.now c.loop-end.end c.loop-end.last c.loop-end.invariant.last (λ k a late stands. none_beyond c.args.text.now false k a (omega arith) stands)
