use Rattle.std.proofs.Common.{arith, map, sym, ◌∙◌, subst}
use Rattle.std.proofs.lemmas.Bool.{false≢true}
use Rattle.std.proofs.lemmas.List.{take_all}
use Rattle.std.specs.List.{All}
use Rattle.mmdb_layout.specs.Numbers.{IsBeyond}
use Rattle.mmdb_layout.proofs.BoundLaws.{all_more, one_of_all}
use Rattle.mmdb_layout.proofs.number.is_beyond_all.Goals as goal

pub returns-then-not-branch : goal.returns-then-not-branch
returns-then-not-branch c all =
    let here = one_of_all (IsBeyond c.args.side c.args.own.now) (λ t. t.now) c.args.bounds.now c.loop-bound.bound-index _ (omega arith) all in
    false≢true (sym c.if-not-branch.true ∙ c.in_ok-is_beyond.ensures.1 here)

pub loop-bound-preserved : goal.loop-bound-preserved
loop-bound-preserved c =
    all_more (IsBeyond c.args.side c.args.own.now) (λ t. t.now) c.args.bounds.now c.loop-bound.bound-index _ (omega arith) c.loop-bound.invariant
    (c.in_ok-is_beyond.ensures.0 c.if-not-branch.false)

pub returns : goal.returns
returns c =
    let all = take_all c.loop-bound.bound-index c.args.bounds.now (omega arith) in
    subst (λ l. All (IsBeyond c.args.side c.args.own.now) (map (λ t. t.now) l)) all c.loop-bound.invariant
