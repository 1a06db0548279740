use Rattle.std.proofs.Common.{refl, sym, ap, ◌∙◌, ◌+◌, arith}
use lib.Count.{count_trailing_zeros}
use Rattle.mmdb_filter.specs.Runs.{is_either, is_neither}
use Rattle.mmdb_filter.proofs.RunLaws.{run_bound, run_through, run_stops}
use Rattle.mmdb_filter.proofs.runs.either_from.Goals as goal

pub returns-then-found-ne0-clause-value : goal.returns-then-found-ne0-clause-value
returns-then-found-ne0-clause-value c =
    let found = c.marks-found in
    let run = run_stops (is_either c.args.first c.args.second) (is_neither c.args.first c.args.second) (λ x. refl) c.args.bytes.now c.loop-at.at 16 (omega arith) (omega arith) (omega (arith, found.ensures)) ∙ ap (count_trailing_zeros 64) (sym found.ensures) in
    omega (arith, run, c.loop-at.invariant.0)

pub returns-then-found-ne0-clause-bound : goal.returns-then-found-ne0-clause-bound
returns-then-found-ne0-clause-bound c =
    let found = c.marks-found in
    let run = run_stops (is_either c.args.first c.args.second) (is_neither c.args.first c.args.second) (λ x. refl) c.args.bytes.now c.loop-at.at 16 (omega arith) (omega arith) (omega (arith, found.ensures)) ∙ ap (count_trailing_zeros 64) (sym found.ensures) in
    omega (arith, run, run_bound (is_neither c.args.first c.args.second) c.args.bytes.now c.loop-at.at c.loop-at.invariant.1)

pub loop-at-preserved : goal.loop-at-preserved
loop-at-preserved c =
    let run = run_through (is_either c.args.first c.args.second) (is_neither c.args.first c.args.second) (λ x. refl) c.args.bytes.now c.loop-at.at 16 (omega arith) (omega (arith, c.marks-found.ensures)) in
    (omega (arith, run, c.loop-at.invariant.0), omega arith, omega arith)

pub returns-clause-bound : goal.returns-clause-bound
returns-clause-bound c = omega (arith, run_bound (is_neither c.args.first c.args.second) c.args.bytes.now c.loop-at.at c.loop-at.invariant.1)

pub returns-then-at-from-ge-NEAR-clause-value : goal.returns-then-at-from-ge-NEAR-clause-value
returns-then-at-from-ge-NEAR-clause-value c =
    let run = run_through (is_either c.args.first c.args.second) (is_neither c.args.first c.args.second) (λ x. refl) c.args.bytes.now c.loop-at.at 16 (omega arith) (omega (arith, c.marks-found.ensures)) in
    omega (arith, run, c.far_either_from.ensures, c.loop-at.invariant.0)

pub returns-then-at-from-ge-NEAR-clause-bound : goal.returns-then-at-from-ge-NEAR-clause-bound
returns-then-at-from-ge-NEAR-clause-bound c = omega (arith, c.far_either_from.ensures, run_bound (is_neither c.args.first c.args.second) c.args.bytes.now (c.loop-at.at + 16) (omega arith))
