use Rattle.std.proofs.Common.{◌≡◌, ◌++◌, map, true, false, IsSome}
use Rattle.mmdb_decode.specs.Arrays.{elements}
use Rattle.mmdb_decode.specs.Errors.{Kept}
use Rattle.mmdb_decode.specs.State.{decoded}
use Rattle.mmdb_decode.proofs.ReadingLaws.{seen}
use Rattle.mmdb_record.proofs.decode.read_items.Given as goal

-- what was read and what is left to read is the whole
abbrev pub invariant-loop-alloc : goal.invariant-loop-alloc
invariant-loop-alloc g l =
    let read = g.T.Decode.meaning in
    record {
      values : g.T.Decode.exact ≡ true → decoded false (elements read l.fn.items.remaining) l.fn.d ≡ seen (λ vs. map g.T.Decode.datum l.out.items ++ vs) (decoded false (elements read l.items.remaining) l.d);
      kept : Kept l.fn.d l.d;
      started : IsSome l.d.budget;
      same : l.items ≡ record l.fn.items { remaining = l.items.remaining };
    }

abbrev pub decreases-loop-alloc : goal.decreases-loop-alloc
decreases-loop-alloc g l = l.items.remaining
