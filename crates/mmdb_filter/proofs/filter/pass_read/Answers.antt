use Rattle.std.proofs.Common.{rules, ◌≡◌, ◌+◌, ◌<◌, ◌≤◌, true, ◌++◌, [], ◌∷◌, List, ℕ, length, refl, sym, ap, ◌∙◌, subst, arith}
use Rattle.mmdb_filter.specs.Rows.{Leads}
use Rattle.mmdb_filter.specs.Lines.{IsAdded, StandsBehind, seen_of, is_long}
use Rattle.mmdb_filter.specs.Working.{UnderWay}
use Rattle.mmdb_filter.specs.declared.rows.RowPosition.TheVariants.{Cell}
use Rattle.mmdb_filter.proofs.FrontLaws.{on_any_err}
use Rattle.mmdb_filter.proofs.LineLaws.{way_kept, next_row, read_out, given_up_between, given_up_in}
use Rattle.mmdb_filter.proofs.TextLaws.{long}
use Rattle.mmdb_filter.proofs.filter.pass_read.Goals as goal

empty_list : (xs : List ℕ) → length xs ≡ 0 → xs ≡ []
empty_list [] e = refl
empty_list (x ∷ xs) e = absurd (omega arith)

pub returns-in_err-position-clause-begun : goal.returns-in_err-position-clause-begun
returns-in_err-position-clause-begun g c =
    let adds = g.A.Additions.adds c.args.additions.now in
    let left = g.R.Read.remaining c.args.input.now in
    let now = g.W.Write.contents c.args.out.now in
    let new = g.W.Write.contents c.read_live.new.out in
    on_any_err c.from_residual.result (λ all old before way.
    given_up_between c.args.rows adds all left old new before c.args.batch.now.counts (way_kept c.args.rows adds all left old now new [] before c.args.batch.now.counts way c.read_live.ensures.kept))

pub returns-in_err-addition-clause-begun : goal.returns-in_err-addition-clause-begun
returns-in_err-addition-clause-begun g c =
    let adds = g.A.Additions.adds c.args.additions.now in
    let left = g.R.Read.remaining c.args.input.now in
    let now = g.W.Write.contents c.args.out.now in
    let new = g.W.Write.contents c.read_live.new.out in
    on_any_err c.from_residual-in_err-addition.result (λ all old before way.
    given_up_between c.args.rows adds all left old new before c.args.batch.now.counts (way_kept c.args.rows adds all left old now new [] before c.args.batch.now.counts way c.read_live.ensures.kept))

pub returns-then-is_empty-clause-on : goal.returns-then-is_empty-clause-on
returns-then-is_empty-clause-on g c = λ all old before way.
    let adds = g.A.Additions.adds c.args.additions.now in
    let left = g.R.Read.remaining c.args.input.now in
    let now = g.W.Write.contents c.args.out.now in
    let new = g.W.Write.contents c.read_live.new.out in
    let chunk = c.read_live.new.chunk.items in
    let (bytes, put, leads) = c.in_ok-position.ensures.leads in
    let same : chunk ≡ bytes = put ∙ ap (λ l. l ++ bytes) c.clear.ensures.items in
    let none : length chunk ≡ 0 = search rules in
    let (under, end) =
    read_out c.args.rows adds all left (g.R.Read.remaining c.read_live.new.input) old new before c.args.batch.now.counts c.in_ok-position.position chunk
    (subst (λ p. Leads c.args.rows Cell left p c.in_ok-position.position (g.R.Read.remaining c.read_live.new.input)) (sym same) leads)
    (λ e h. c.in_ok-position.ensures.end e (omega (arith, c.most_seen-most.ensures.most))) (empty_list chunk none) (way_kept c.args.rows adds all left old now new [] before c.args.batch.now.counts way c.read_live.ensures.kept) in
    (subst (λ r. UnderWay c.args.rows adds all (g.R.Read.remaining c.read_live.new.input) old new r before c.args.batch.now.counts) (sym c.requires.none) under, λ _. end)

pub pass_chunks-requires-clause-front : goal.pass_chunks-requires-clause-front
pass_chunks-requires-clause-front g c = λ full.
    let chunk = c.read_live.new.chunk.items in
    let most = c.most_seen-most.result in
    let enough : most + 3 ≤ length chunk = omega arith in
    let yes : c.seen-is_long.result.1 ≡ true = c.seen-is_long.ensures.long ∙ ap (is_long most) c.as_slice-2.ensures.value ∙ long most chunk enough in
    c.in_ok-addition.ensures.behind.1 yes

pub returns-in_err-pass_chunks-clause-begun : goal.returns-in_err-pass_chunks-clause-begun
returns-in_err-pass_chunks-clause-begun g c =
    let adds = g.A.Additions.adds c.args.additions.now in
    let left = g.R.Read.remaining c.args.input.now in
    let mid = g.R.Read.remaining c.read_live.new.input in
    let now = g.W.Write.contents c.args.out.now in
    let kept = g.W.Write.contents c.read_live.new.out in
    let new = g.W.Write.contents c.pass_chunks.new.out in
    let chunk = c.read_live.new.chunk.items in
    let (bytes, put, leads) = c.in_ok-position.ensures.leads in
    let same : chunk ≡ bytes = put ∙ ap (λ l. l ++ bytes) c.clear.ensures.items in
    let some : 0 < length chunk = search rules in
    let (extra, added, is_extra) = c.in_ok-addition.ensures.added in
    let addition = c.in_ok-addition.addition in
    let cells = c.as_slice-3.result.now in
    let cells_are : cells ≡ extra = c.as_slice-3.ensures.value ∙ is_extra ∙ ap (λ l. l ++ extra) c.clear-2.ensures.items in
    let most = c.most_seen-most.ensures.most in
    let text : c.seen-is_long.result.0.now ≡ seen_of adds.most chunk = c.seen-is_long.ensures.text ∙ (λ i. seen_of (most i) (c.as_slice-2.ensures.value i)) in
    let is_long_is : c.seen-is_long.result.1 ≡ is_long adds.most chunk = c.seen-is_long.ensures.long ∙ (λ i. is_long (most i) (c.as_slice-2.ensures.value i)) in
    let may : IsAdded adds chunk cells addition.behind addition.outcome =
    subst (λ t. adds.adds t (is_long adds.most chunk) cells addition.behind addition.outcome × StandsBehind t (is_long adds.most chunk) addition.behind) text
    (subst (λ b. adds.adds c.seen-is_long.result.0.now b cells addition.behind addition.outcome × StandsBehind c.seen-is_long.result.0.now b addition.behind) is_long_is
    (subst (λ e. adds.adds c.seen-is_long.result.0.now c.seen-is_long.result.1 e addition.behind addition.outcome) (sym cells_are) added, c.in_ok-addition.ensures.behind)) in
    let leading = subst (λ p. Leads c.args.rows Cell left p c.in_ok-position.position mid) (sym same) leads in
    on_any_err c.from_residual-in_err-pass_chunks.result (λ all old before way.
    given_up_in c.args.rows adds all left mid old kept new before c.args.batch.now.counts c.in_ok-position.position chunk cells addition.behind addition.outcome
    leading (λ e h. c.in_ok-position.ensures.end e (omega (arith, c.most_seen-most.ensures.most))) some may (λ ready. c.in_err-pass_chunks.ensures.begun (λ e h. ready e (omega (arith, c.most_seen-most.ensures.most)))) (way_kept c.args.rows adds all left old now kept [] before c.args.batch.now.counts way c.read_live.ensures.kept))

pub returns-clause-on : goal.returns-clause-on
returns-clause-on g c = λ all old before way.
    let adds = g.A.Additions.adds c.args.additions.now in
    let left = g.R.Read.remaining c.args.input.now in
    let mid = g.R.Read.remaining c.read_live.new.input in
    let next = g.R.Read.remaining c.pass_chunks.new.input in
    let now = g.W.Write.contents c.args.out.now in
    let kept = g.W.Write.contents c.read_live.new.out in
    let new = g.W.Write.contents c.pass_chunks.new.out in
    let chunk = c.read_live.new.chunk.items in
    let (bytes, put, leads) = c.in_ok-position.ensures.leads in
    let same : chunk ≡ bytes = put ∙ ap (λ l. l ++ bytes) c.clear.ensures.items in
    let some : 0 < length chunk = search rules in
    let (extra, added, is_extra) = c.in_ok-addition.ensures.added in
    let addition = c.in_ok-addition.addition in
    let cells = c.as_slice-3.result.now in
    let cells_are : cells ≡ extra = c.as_slice-3.ensures.value ∙ is_extra ∙ ap (λ l. l ++ extra) c.clear-2.ensures.items in
    let most = c.most_seen-most.ensures.most in
    let text : c.seen-is_long.result.0.now ≡ seen_of adds.most chunk = c.seen-is_long.ensures.text ∙ (λ i. seen_of (most i) (c.as_slice-2.ensures.value i)) in
    let is_long_is : c.seen-is_long.result.1 ≡ is_long adds.most chunk = c.seen-is_long.ensures.long ∙ (λ i. is_long (most i) (c.as_slice-2.ensures.value i)) in
    let may : IsAdded adds chunk cells addition.behind addition.outcome =
    subst (λ t. adds.adds t (is_long adds.most chunk) cells addition.behind addition.outcome × StandsBehind t (is_long adds.most chunk) addition.behind) text
    (subst (λ b. adds.adds c.seen-is_long.result.0.now b cells addition.behind addition.outcome × StandsBehind c.seen-is_long.result.0.now b addition.behind) is_long_is
    (subst (λ e. adds.adds c.seen-is_long.result.0.now c.seen-is_long.result.1 e addition.behind addition.outcome) (sym cells_are) added, c.in_ok-addition.ensures.behind)) in
    let leading = subst (λ p. Leads c.args.rows Cell left p c.in_ok-position.position mid) (sym same) leads in
    let way_next =
    next_row c.args.rows adds all left mid next old kept new before c.args.batch.now.counts c.in_ok-position.position chunk cells addition.behind addition.outcome
    leading (λ e h. c.in_ok-position.ensures.end e (omega (arith, c.most_seen-most.ensures.most))) some may c.pass_chunks.new.ready.items (λ ready. c.in_ok-pass_chunks.ensures.whole (λ e h. ready e (omega (arith, c.most_seen-most.ensures.most)))) (way_kept c.args.rows adds all left old now kept [] before c.args.batch.now.counts way c.read_live.ensures.kept) in
    (subst (λ n. UnderWay c.args.rows adds all next old new c.pass_chunks.new.ready.items before n) (sym c.count.ensures.counted) way_next, λ e. absurd (cc))
