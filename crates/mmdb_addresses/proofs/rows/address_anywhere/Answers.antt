use Rattle.std.proofs.Common.{arith}
use Rattle.mmdb_addresses.proofs.RunLaws.{begins_at, border_at, none_at_all, none_between, none_inside, runs_on}
use Rattle.mmdb_addresses.proofs.rows.address_anywhere.Goals as goal

pub returns-then-at-text : goal.returns-then-at-text
returns-then-at-text c =
    none_at_all c.args.text.now c.args.goes_on c.end_of-at.result (omega arith) (none_between c.args.text.now c.args.goes_on c.loop-end.end c.end_of-at.result c.end_of-at.ensures.end c.loop-end.invariant.none)

pub address_at-requires-clause-begins : goal.address_at-requires-clause-begins
address_at-requires-clause-begins c = begins_at c.args.text.now c.loop-end.end c.end_of-at.result c.end_of-at.ensures.end (omega arith) c.loop-end.invariant.border

pub returns-in-Some : goal.returns-in-Some
returns-in-Some c = record {
  at = c.end_of-at.result;
  here = c.in-Some.ensures;
  first = λ earlier other l. none_between c.args.text.now c.args.goes_on c.loop-end.end c.end_of-at.result c.end_of-at.ensures.end c.loop-end.invariant.none earlier other l;
}

pub loop-end-smaller : goal.loop-end-smaller
loop-end-smaller c =
    let begins = begins_at c.args.text.now c.loop-end.end c.end_of-at.result c.end_of-at.ensures.end (omega arith) c.loop-end.invariant.border in
    let further = runs_on c.args.text.now c.end_of-at.result c.end_of-end.result (omega arith) begins.here c.end_of-end.ensures.end in
    omega arith

pub loop-end-preserved : goal.loop-end-preserved
loop-end-preserved c = record {
  within = c.end_of-end.ensures.within;
  border = λ _. border_at c.args.text.now c.end_of-at.result c.end_of-end.result (omega arith) c.end_of-end.ensures.end;
  none = none_inside c.args.text.now c.args.goes_on c.end_of-at.result c.end_of-end.result c.end_of-end.ensures.end (none_between c.args.text.now c.args.goes_on c.loop-end.end c.end_of-at.result c.end_of-at.ensures.end c.loop-end.invariant.none) c.in_default.ensures;
}

pub returns : goal.returns
returns c = none_at_all c.args.text.now c.args.goes_on c.loop-end.end (omega arith) c.loop-end.invariant.none
