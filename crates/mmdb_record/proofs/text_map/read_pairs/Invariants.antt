use Rattle.std.proofs.Common.{◌≡◌, [], map, true, false, IsSome}
use Rattle.std.specs.String.{string_bytes}
use Rattle.mmdb_decode.specs.Maps.{pairs_from, key_at, pair_of}
use Rattle.mmdb_decode.specs.Errors.{Kept}
use Rattle.mmdb_decode.specs.State.{decoded}
use Rattle.mmdb_record.proofs.text_map.read_pairs.Given as goal

abbrev pub invariant-loop-pairs : goal.invariant-loop-pairs
invariant-loop-pairs g l = record {
  rest : g.T.Decode.exact ≡ true → decoded false (pairs_from key_at (pair_of g.T.Decode.meaning) [] l.fn.entries.remaining) l.fn.d ≡ decoded false (pairs_from key_at (pair_of g.T.Decode.meaning) (map (λ e. (string_bytes e.0, g.T.Decode.datum e.1)) l.pairs.entries) l.entries.remaining) l.d;
  kept : Kept l.fn.d l.d;
  started : IsSome l.d.budget;
  same : l.entries ≡ record l.fn.entries { remaining = l.entries.remaining };
}

abbrev pub decreases-loop-pairs : goal.decreases-loop-pairs
decreases-loop-pairs g l = l.entries.remaining
