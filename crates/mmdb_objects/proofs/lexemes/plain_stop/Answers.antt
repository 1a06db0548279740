use Rattle.std.proofs.Common.{refl, sym, ap, ◌∙◌, arith}
use lib.Count.{count_trailing_zeros}
use Rattle.mmdb_objects.specs.Scanned.{is_stop, is_plain}
use Rattle.mmdb_filter.proofs.RunLaws.{run_through, run_stops}
use Rattle.mmdb_objects.proofs.VectorLaws.{stop_within}
use Rattle.mmdb_objects.proofs.lexemes.plain_stop.Goals as goal

pub returns-then-found-eq0-clause-at : goal.returns-then-found-eq0-clause-at
returns-then-found-eq0-clause-at c =
    let run = run_through is_stop is_plain (λ x. refl) c.args.text.now c.args.from 16 (omega arith) (omega (arith, c.stops-found.ensures)) in
    omega (arith, run, c.plain_end-then-found-eq0.ensures, c.stop_at-then-found-eq0.ensures)

pub returns-clause-at : goal.returns-clause-at
returns-clause-at c =
    let found = c.stops-found in
    let run = run_stops is_stop is_plain (λ x. refl) c.args.text.now c.args.from 16 (omega arith) (omega arith) (omega (arith, found.ensures)) ∙ ap (count_trailing_zeros 64) (sym found.ensures) in
    omega (arith, run, c.seen_at.ensures)

pub seen_at-requires : goal.seen_at-requires
seen_at-requires c =
    let found = c.stops-found in
    omega (arith, stop_within is_stop c.args.text.now c.args.from 16 (omega arith) (omega arith) (omega (arith, found.ensures)), ap (count_trailing_zeros 64) (sym found.ensures))

pub returns-clause-bound : goal.returns-clause-bound
returns-clause-bound c =
    let found = c.stops-found in
    let within = stop_within is_stop c.args.text.now c.args.from 16 (omega arith) (omega arith) (omega (arith, found.ensures)) in
    omega (arith, within, ap (count_trailing_zeros 64) (sym found.ensures), c.seen_at.ensures)
