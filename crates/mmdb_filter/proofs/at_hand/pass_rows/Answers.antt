use Rattle.std.proofs.Common.{◌≡◌, ℕ, ◌+◌, ◌-◌, ◌<◌, ◌≤◌, List, ◌++◌, length, take, drop, refl, sym, ap, ◌∙◌, subst, arith, length-drop}
use Rattle.std.proofs.lemmas.List.{take_rest}
use Rattle.mmdb_filter.specs.Rows.{Goes}
use Rattle.mmdb_filter.specs.Working.{GoOn}
use Rattle.mmdb_filter.specs.declared.rows.RowPosition.TheVariants.{Cell, Ended}
use Rattle.mmdb_filter.proofs.LineLaws.{go_row}
use Rattle.mmdb_filter.proofs.at_hand.pass_rows.Goals as goal

pub loop-passed-preserved : goal.loop-passed-preserved
loop-passed-preserved g c =
    let l = c.loop-passed in
    let n = c.in-Some.len in
    let bytes = c.args.bytes.now in
    let adds = g.A.Additions.adds c.args.additions.now in
    let (extra, behind, added, put) = c.in-Ok.ensures.added in
    let some : 0 < n = c.in-Some.ensures.some in
    let rest_is : take (length bytes - l.at) (drop l.at bytes) ≡ drop l.at bytes = take_rest bytes l.at in
    let within : n ≤ length (drop l.at bytes) = subst (λ t. n ≤ length t) rest_is c.in-Some.ensures.within in
    let goes = subst (λ t. (ys : List ℕ) → Goes c.args.rows Cell (t ++ ys) (take n t) Ended (drop n t ++ ys)) rest_is c.in-Some.ensures.goes in
    record {
      within = omega (arith, length-drop l.at bytes);
      on = subst (λ a. GoOn c.args.rows adds bytes (l.at + n) c.args.batch.now.ready.items c.pass_row.new.ready.items c.args.batch.now.counts a) (sym c.count.ensures.counted)
          (go_row c.args.rows adds bytes l.at n (take n (take (length bytes - l.at) (drop l.at bytes))) extra c.args.batch.now.ready.items l.batch.ready.items c.pass_row.new.ready.items behind c.in-Ok.outcome c.args.batch.now.counts l.batch.counts
          (ap (take n) rest_is) some within goes added put l.invariant.on);
      fits = c.in-Ok.ensures.fits;
      few = c.count.ensures.more ∙ ap (λ n. n + 1) (l.invariant.few ∙ l.invariant.same);
      same = refl;
      part = omega (arith, l.invariant.part, l.invariant.same);
    }
