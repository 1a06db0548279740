use Rattle.std.proofs.Common.{rules, ◌≡◌, ◌≢◌, ◌≤◌, ◌-◌, ◌++◌, [], length, take, drop, OnSome, sym, ap, ◌∙◌, subst, arith, take-append-drop, append-nil, length-drop}
use Rattle.std.specs.Io.KnownBytes.{IsAtEnd}
use Rattle.mmdb_filter.specs.Lines.{row_with, AppendsFront}
use Rattle.mmdb_filter.specs.declared.rows.RowPosition.TheVariants as spec_position
use Rattle.mmdb_filter.proofs.FrontLaws.{on_any_err, front_whole, appends_kept}
use Rattle.mmdb_filter.proofs.PassLaws.{passes_chunk, passed, stopped, stopped_in, at_end_too}
use Rattle.mmdb_filter.proofs.pass.pass_chunks.Goals.{then-eq-via-then-eq, then-eq-via-else-eq+then-len-held}
use Rattle.mmdb_filter.proofs.pass.pass_chunks.Goals as goal

pub returns-then-eq-clause-whole : goal.returns-then-eq-clause-whole
returns-then-eq-clause-whole g c = λ ready.
    let ending : c.loop.now ≢ spec_position.Ended → OnSome (g.R.Read.remaining c.args.input.now) (IsAtEnd (g.R.Read.remaining c.loop.input)) =
    elim c.then-eq.branch [
      | then-eq-via-then-eq w ↦ λ not. absurd (not (search rules))
      | then-eq-via-else-eq+then-len-held w ↦ λ not. c.loop.invariant.ready ready not (search rules)
    ] in
    let last : c.append_row.new.ready.items ≡ row_with c.loop.chunk.items c.args.added.now c.args.behind =
    c.in_ok-append_row.ensures.whole ∙ ap (λ r. r ++ row_with c.as_slice-then-eq.result.now c.args.added.now c.args.behind) c.loop.invariant.empty ∙ ap (λ r. row_with r c.args.added.now c.args.behind) c.as_slice-then-eq.ensures.value in
    passed c.args.rows c.args.position.now c.loop.now c.args.chunk.now.items c.loop.chunk.items c.args.added.now c.args.behind (g.R.Read.remaining c.args.input.now) (g.W.Write.contents c.args.out.now) (g.R.Read.remaining c.loop.input) (g.W.Write.contents c.loop.out) ending
    c.append_row.new.ready.items last c.loop.invariant.way

pub returns-in_err-append_row-clause-begun : goal.returns-in_err-append_row-clause-begun
returns-in_err-append_row-clause-begun g c = λ ready.
    on_any_err c.from_residual.result
    (stopped c.args.rows c.args.position.now c.loop.now c.args.chunk.now.items c.loop.chunk.items c.args.added.now c.args.behind (g.R.Read.remaining c.args.input.now) (g.W.Write.contents c.args.out.now) (g.R.Read.remaining c.loop.input) (g.W.Write.contents c.loop.out) c.loop.invariant.way)

pub returns-in_err-put_front-clause-begun : goal.returns-in_err-put_front-clause-begun
returns-in_err-put_front-clause-begun g c = λ ready.
    let chunk = c.loop.chunk.items in
    let front = take (length chunk - 2) chunk in
    let kept = drop (length chunk - 2) chunk in
    let split : chunk ≡ front ++ kept = sym (take-append-drop (length chunk - 2) chunk) in
    let none : c.args.behind ≡ 0 = c.loop.invariant.none (search rules) in
    let two : 2 ≤ length kept = omega (arith, length-drop (length chunk - 2) chunk) in
    on_any_err c.from_residual-in_err-put_front.result
    (stopped_in c.args.rows c.args.position.now c.loop.now c.args.chunk.now.items chunk c.args.added.now front kept c.args.behind (g.R.Read.remaining c.args.input.now) (g.W.Write.contents c.args.out.now) (g.R.Read.remaining c.loop.input) (g.W.Write.contents c.loop.out) (g.W.Write.contents c.put_front.new.out) split two none c.in_err-put_front.ensures.begun c.loop.invariant.way)

pub returns-in_err-now-clause-begun : goal.returns-in_err-now-clause-begun
returns-in_err-now-clause-begun g c = λ ready.
    let chunk = c.loop.chunk.items in
    let front = take (length chunk - 2) chunk in
    let kept = drop (length chunk - 2) chunk in
    let split : chunk ≡ front ++ kept = sym (take-append-drop (length chunk - 2) chunk) in
    let none : c.args.behind ≡ 0 = c.loop.invariant.none (search rules) in
    let two : 2 ≤ length kept = omega (arith, length-drop (length chunk - 2) chunk) in
    on_any_err c.from_residual-in_err-now.result
    (stopped_in c.args.rows c.args.position.now c.loop.now c.args.chunk.now.items chunk c.args.added.now front kept c.args.behind (g.R.Read.remaining c.args.input.now) (g.W.Write.contents c.args.out.now) (g.R.Read.remaining c.loop.input) (g.W.Write.contents c.loop.out) (g.W.Write.contents c.read_live.new.out) split two none
    (subst (λ t. AppendsFront (g.W.Write.contents c.loop.out) (g.W.Write.contents c.read_live.new.out) t) (append-nil front) (front_whole (g.W.Write.contents c.loop.out) (g.W.Write.contents c.read_live.new.out) front [] (appends_kept (g.W.Write.contents c.loop.out) (g.W.Write.contents c.put_front.new.out) (g.W.Write.contents c.read_live.new.out) front c.in_ok-put_front.ensures.whole c.read_live.ensures.kept))) c.loop.invariant.way)

pub returns-clause-begun : goal.returns-clause-begun
returns-clause-begun g c = λ ready. stopped c.args.rows c.args.position.now c.loop.now c.args.chunk.now.items c.loop.chunk.items c.args.added.now c.args.behind (g.R.Read.remaining c.args.input.now) (g.W.Write.contents c.args.out.now) (g.R.Read.remaining c.loop.input) (g.W.Write.contents c.loop.out) c.loop.invariant.way

pub loop-preserved : goal.loop-preserved
loop-preserved g c =
    let chunk = c.loop.chunk.items in
    let front = take (length chunk - 2) chunk in
    let kept = drop (length chunk - 2) chunk in
    let split : chunk ≡ front ++ kept = sym (take-append-drop (length chunk - 2) chunk) in
    let none : c.args.behind ≡ 0 = c.loop.invariant.none (search rules) in
    let two : 2 ≤ length kept = omega (arith, length-drop (length chunk - 2) chunk) in
    let (bytes, put, leads) = c.in_ok-now.ensures.leads in
    let next : c.read_live.new.chunk.items ≡ kept ++ bytes = put ∙ ap (λ l. l ++ bytes) c.in_ok-put_front.ensures.kept in
    record {
      way = passes_chunk c.args.rows c.args.position.now c.loop.now c.in_ok-now.now c.args.chunk.now.items chunk front kept bytes c.read_live.new.chunk.items c.args.behind (g.R.Read.remaining c.args.input.now) (g.W.Write.contents c.args.out.now) (g.R.Read.remaining c.loop.input) (g.W.Write.contents c.loop.out) (g.R.Read.remaining c.read_live.new.input) (g.W.Write.contents c.read_live.new.out)
          split two none (appends_kept (g.W.Write.contents c.loop.out) (g.W.Write.contents c.put_front.new.out) (g.W.Write.contents c.read_live.new.out) front c.in_ok-put_front.ensures.whole c.read_live.ensures.kept) next leads c.loop.invariant.way;
      empty = search rules;
      none = λ full. none;
      ready = λ first not short. at_end_too c.args.rows c.args.position.now c.loop.now c.args.chunk.now.items chunk c.args.behind (g.R.Read.remaining c.args.input.now) (g.W.Write.contents c.args.out.now) (g.R.Read.remaining c.loop.input) (g.W.Write.contents c.loop.out) (IsAtEnd (g.R.Read.remaining c.read_live.new.input)) c.loop.invariant.way (c.in_ok-now.ensures.end not short);
    }
