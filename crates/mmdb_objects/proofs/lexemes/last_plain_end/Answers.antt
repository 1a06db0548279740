use Rattle.std.proofs.Common.{◌+◌, ap, arith}
use Rattle.mmdb_objects.specs.Scanned.{is_plain}
use Rattle.mmdb_filter.proofs.RunLaws.{run_bound}
use Rattle.mmdb_objects.proofs.RunEndLaws.{last_run_through, last_run_stops}
use Rattle.mmdb_objects.proofs.lexemes.last_plain_end.Goals as goal

pub returns-then-len-lt16-clause-bound : goal.returns-then-len-lt16-clause-bound
returns-then-len-lt16-clause-bound c =
    omega (arith, c.short_plain_end.ensures, run_bound is_plain c.args.text.now c.args.from c.requires.within)

pub returns-then-found-eq0-clause-value : goal.returns-then-found-eq0-clause-value
returns-then-found-eq0-clause-value c =
    last_run_through c.args.text.now c.args.from c.stops.result c.requires.within c.requires.few c.if-len-lt16.false c.stops.ensures c.if-found-eq0.true

pub returns-clause-value : goal.returns-clause-value
returns-clause-value c =
    ap (λ n. c.args.from + n) (last_run_stops c.args.text.now c.args.from c.stops.result c.requires.within c.requires.few c.if-len-lt16.false c.stops.ensures c.if-found-eq0.false)

pub returns-clause-bound : goal.returns-clause-bound
returns-clause-bound c =
    let run = last_run_stops c.args.text.now c.args.from c.stops.result c.requires.within c.requires.few c.if-len-lt16.false c.stops.ensures c.if-found-eq0.false in
    omega (arith, run, run_bound is_plain c.args.text.now c.args.from c.requires.within)
