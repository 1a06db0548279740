use Rattle.std.proofs.Common.{rules, ◌≡◌, ◌≢◌, ◌++◌, ◌+◌, take, drop, get_or, refl, sym, ap, ◌∙◌, subst, arith}
use Rattle.mmdb_filter.specs.Rows.{position_after, Goes}
use Rattle.mmdb_filter.specs.Working.{position_behind}
use Rattle.mmdb_filter.specs.declared.rows.RowPosition.TheVariants as spec_position
use Rattle.mmdb_filter.specs.declared.rows.Rows.TheVariants.{Csv}
use Rattle.mmdb_filter.proofs.RowLaws.{not_ended}
use Rattle.mmdb_filter.proofs.QuoteLaws.{goes_behind, goes_quoted, goes_closed, goes_to, not_ended_behind, not_ended_by_quote, ended_behind, stopped_by_quote}
use Rattle.mmdb_filter.proofs.rows.scan_quotes.Goals as goal

pub returns-then-quote-bytes-clause-goes : goal.returns-then-quote-bytes-clause-goes
returns-then-quote-bytes-clause-goes c =
    let bytes = c.args.bytes.now in
    let between : c.loop-at.now ≡ spec_position.Quoted = search rules in
    λ ys. goes_quoted c.args.delimiter c.args.position c.loop-at.now c.loop-at.at c.here_or_from-quote.result bytes ys (bytes ++ ys) between c.here_or_from-quote.ensures.bound c.here_or_from-quote.ensures.value (c.loop-at.invariant.goes ys)

pub loop-at-preserved-then-next_is_quoted : goal.loop-at-preserved-then-next_is_quoted
loop-at-preserved-then-next_is_quoted c =
    let d = c.args.delimiter in
    let bytes = c.args.bytes.now in
    let quote = c.here_or_from-quote.result in
    let between : c.loop-at.now ≡ spec_position.Quoted = search rules in
    let within = c.next_is_quoted.ensures.within c.if-next_is_quoted.true in
    let second : (quote + 1) + 1 ≡ quote + 2 = omega arith in
    let opens : position_after (Csv d) spec_position.Cell (get_or bytes (quote + 2) 0) ≡ spec_position.Quoted =
    subst (λ k. position_after (Csv d) spec_position.Cell (get_or bytes k 0) ≡ spec_position.Quoted) second (c.next_is_quoted.ensures.quoted c.if-next_is_quoted.true) in
    record {
      goes = λ ys. subst (λ p. Goes (Csv d) c.args.position (bytes ++ ys) (take (quote + 3) bytes) p (drop (quote + 3) bytes ++ ys)) (sym between)
          (goes_to d c.args.position spec_position.Cell spec_position.Quoted (quote + 2) (quote + 3) bytes ys (bytes ++ ys) (omega arith) (omega (arith, within)) refl opens
          (goes_to d c.args.position spec_position.Closing spec_position.Cell (quote + 1) (quote + 2) bytes ys (bytes ++ ys) (omega arith) (omega (arith, within)) refl (c.next_is_quoted.ensures.cell c.if-next_is_quoted.true)
          (goes_closed d c.args.position c.loop-at.now c.loop-at.at quote bytes ys (bytes ++ ys) between (omega arith) c.here_or_from-quote.ensures.value (c.loop-at.invariant.goes ys))));
      within = omega (arith, within);
      first = λ zero. absurd (omega arith);
      going = c.loop-at.invariant.going;
    }

pub loop-at-preserved-else-next_is_quoted : goal.loop-at-preserved-else-next_is_quoted
loop-at-preserved-else-next_is_quoted c =
    let bytes = c.args.bytes.now in
    let between : c.loop-at.now ≡ spec_position.Quoted = search rules in
    record {
      goes = λ ys. goes_closed c.args.delimiter c.args.position c.loop-at.now c.loop-at.at c.here_or_from-quote.result bytes ys (bytes ++ ys) between (omega arith) c.here_or_from-quote.ensures.value (c.loop-at.invariant.goes ys);
      within = omega arith;
      first = λ zero. absurd (omega arith);
      going = search rules;
    }

pub loop-at-preserved-then-bytes-at-eq34 : goal.loop-at-preserved-then-bytes-at-eq34
loop-at-preserved-then-bytes-at-eq34 c =
    let d = c.args.delimiter in
    let bytes = c.args.bytes.now in
    let going = not_ended c.loop-at.now c.loop-at.invariant.going in
    let next : position_after (Csv d) c.loop-at.now (get_or bytes c.loop-at.at 0) ≡ c.after-now.result = ap (position_after (Csv d) c.loop-at.now) c.if-bytes-at-eq34.true ∙ sym c.after-now.ensures in
    record {
      goes = λ ys. goes_to d c.args.position c.loop-at.now c.after-now.result c.loop-at.at (c.loop-at.at + 1) bytes ys (bytes ++ ys) refl (omega arith) going next (c.loop-at.invariant.goes ys);
      within = omega arith;
      first = λ zero. absurd (omega arith);
      going = λ is. not_ended_by_quote d c.loop-at.now going (sym c.after-now.ensures ∙ is);
    }

pub returns-then-stop-bytes-clause-goes : goal.returns-then-stop-bytes-clause-goes
returns-then-stop-bytes-clause-goes c =
    let d = c.args.delimiter in
    let bytes = c.args.bytes.now in
    let stop = c.either_from-stop.result in
    let going = not_ended c.loop-at.now c.loop-at.invariant.going in
    λ ys. subst (λ p. Goes (Csv d) c.args.position (bytes ++ ys) (take stop bytes) p (drop stop bytes ++ ys)) (sym c.behind_run-now.ensures)
    (goes_behind d c.args.position c.loop-at.now c.loop-at.at stop bytes ys (bytes ++ ys) c.loop-at.invariant.within c.either_from-stop.ensures.bound c.either_from-stop.ensures.value going (c.loop-at.invariant.goes ys))

pub returns-then-bytes-stop-eq10-clause-goes : goal.returns-then-bytes-stop-eq10-clause-goes
returns-then-bytes-stop-eq10-clause-goes c =
    let d = c.args.delimiter in
    let bytes = c.args.bytes.now in
    let at = c.loop-at.at in
    let stop = c.either_from-stop.result in
    let outside : c.loop-at.now ≢ spec_position.Quoted = search rules in
    let going = not_ended c.loop-at.now c.loop-at.invariant.going in
    λ ys. goes_to d c.args.position (position_behind d c.loop-at.now bytes at stop) spec_position.Ended stop (stop + 1) bytes ys (bytes ++ ys) refl (omega arith) (not_ended_behind d c.loop-at.now bytes at stop going) (ended_behind d c.loop-at.now bytes at stop (get_or bytes stop 0) outside c.if-bytes-stop-eq10.true)
    (goes_behind d c.args.position c.loop-at.now at stop bytes ys (bytes ++ ys) c.loop-at.invariant.within c.either_from-stop.ensures.bound c.either_from-stop.ensures.value going (c.loop-at.invariant.goes ys))

pub loop-at-preserved : goal.loop-at-preserved
loop-at-preserved c =
    let d = c.args.delimiter in
    let bytes = c.args.bytes.now in
    let at = c.loop-at.at in
    let stop = c.either_from-stop.result in
    let behind = position_behind d c.loop-at.now bytes at stop in
    let going = not_ended c.loop-at.now c.loop-at.invariant.going in
    let further = not_ended_behind d c.loop-at.now bytes at stop going in
    let quote = stopped_by_quote at stop bytes (omega arith) c.either_from-stop.ensures.value c.if-bytes-stop-eq10.false in
    let same : c.after-now-in-loop-at.result ≡ position_after (Csv d) behind 34 = c.after-now-in-loop-at.ensures ∙ ap (λ p. position_after (Csv d) p 34) c.behind_run-now.ensures in
    record {
      goes = λ ys. goes_to d c.args.position behind c.after-now-in-loop-at.result stop (stop + 1) bytes ys (bytes ++ ys) refl (omega arith) further (ap (position_after (Csv d) behind) quote ∙ sym same)
          (goes_behind d c.args.position c.loop-at.now at stop bytes ys (bytes ++ ys) c.loop-at.invariant.within c.either_from-stop.ensures.bound c.either_from-stop.ensures.value going (c.loop-at.invariant.goes ys));
      within = omega arith;
      first = λ zero. absurd (omega arith);
      going = λ is. not_ended_by_quote d behind further (sym same ∙ is);
    }
