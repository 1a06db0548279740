use Rattle.std.proofs.Common.{rules, ◌≡◌, drop, arith}
use Rattle.json.specs.Word.{head}
use Rattle.mmdb_objects.proofs.ScanLaws.{goes_nowhere, goes_on, past_escape, last_run}
use Rattle.mmdb_objects.proofs.lexemes.escaped_end.Goals as goal

pub loop-stop-init : goal.loop-stop-init
loop-stop-init c = record { low = omega arith; high = omega arith; goes = goes_nowhere (drop c.args.from c.args.text.now) }

pub returns-then-stop-eq34 : goal.returns-then-stop-eq34
returns-then-stop-eq34 c =
    let text = c.args.text.now in
    let stop = c.plain_stop-stop in
    let there : head (drop stop.result.at text) ≡ 34 = search rules in
    last_run text c.args.from c.loop-stop.at stop.result.at c.loop-stop.invariant.low c.loop-stop.invariant.goes stop.ensures.at there

pub loop-stop-preserved : goal.loop-stop-preserved
loop-stop-preserved c =
    let text = c.args.text.now in
    let stop = c.plain_stop-stop in
    let there : head (drop stop.result.at text) ≡ 92 = search rules in
    let escape = c.in_ok-at.ensures in
    record {
      low = omega (arith, escape.low);
      high = escape.high;
      goes = goes_on (drop c.args.from text) (drop c.loop-stop.at text) (drop c.in_ok-at.at text) c.loop-stop.invariant.goes
          (past_escape text c.loop-stop.at stop.result.at c.in_ok-at.at stop.ensures.at there escape);
    }
