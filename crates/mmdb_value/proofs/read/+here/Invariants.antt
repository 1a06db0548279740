use Rattle.std.proofs.Common.{◌≡◌, ◌++◌, ◌+◌, ◌-◌, ◌*◌, map, false}
use Rattle.mmdb_decode.specs.Arrays.{elements}
use Rattle.mmdb_decode.specs.Errors.{Kept}
use Rattle.mmdb_decode.specs.State.{decoded, Within}
use Rattle.mmdb_value.specs.AnyValue.{value_at, pair_at}
use Rattle.mmdb_decode.proofs.ReadingLaws.{seen}
use Rattle.mmdb_value.proofs.read.+here.Given as goal

-- the levels that are left
abbrev pub decreases-value_here : goal.decreases-value_here
decreases-value_here g l = 8 * (512 - (g.D.Stepping.state l.d.now).levels) + 2

abbrev pub decreases-value_of : goal.decreases-value_of
decreases-value_of g l = 8 * (512 - (g.D.Stepping.state l.d.now).levels) + 1

abbrev pub decreases-target_of : goal.decreases-target_of
decreases-target_of g l = 8 * (512 - (g.D.Stepping.state l.d.now).levels)

abbrev pub decreases-array_of : goal.decreases-array_of
decreases-array_of g l = 8 * (512 - (g.D.Stepping.state l.d.now).levels)

abbrev pub decreases-table_of : goal.decreases-table_of
decreases-table_of g l = 8 * (512 - (g.D.Stepping.state l.d.now).levels)

abbrev pub decreases-values_of : goal.decreases-values_of
decreases-values_of g l = 8 * (512 - (g.D.Stepping.state l.d.now).levels) + 3

abbrev pub decreases-pairs_of : goal.decreases-pairs_of
decreases-pairs_of g l = 8 * (512 - (g.D.Stepping.state l.d.now).levels) + 4

abbrev pub decreases-push_pair : goal.decreases-push_pair
decreases-push_pair g l = 8 * (512 - (g.D.Stepping.state l.d.now).levels) + 3

abbrev pub invariant-values_of-loop : goal.invariant-values_of-loop
invariant-values_of-loop g l =
    let read = value_at g.D.Source.tested in
    record {
      values : decoded false (elements read l.fn.count) (g.D.Stepping.state l.fn.d) ≡ seen (λ vs. map g.D.Source.tree l.all.items ++ vs) (decoded false (elements read (l.count - l.counter)) (g.D.Stepping.state l.d));
      kept : Kept (g.D.Stepping.state l.fn.d) (g.D.Stepping.state l.d);
      within : Within (g.D.Stepping.state l.d).budget;
    }

abbrev pub invariant-pairs_of-loop : goal.invariant-pairs_of-loop
invariant-pairs_of-loop g l =
    let read = pair_at g.D.Source.tested (value_at g.D.Source.tested) in
    record {
      values : decoded false (elements read l.fn.count) (g.D.Stepping.state l.fn.d) ≡ seen (λ vs. map (λ x. (g.D.Source.text_bytes x.0, g.D.Source.tree x.1)) l.all.items ++ vs) (decoded false (elements read (l.count - l.counter)) (g.D.Stepping.state l.d));
      kept : Kept (g.D.Stepping.state l.fn.d) (g.D.Stepping.state l.d);
      within : Within (g.D.Stepping.state l.d).budget;
    }
