use Rattle.std.proofs.Common.{◌≡◌, false, IsSome}
use Rattle.mmdb_decode.specs.Maps.{pairs_from, name_at}
use Rattle.mmdb_decode.specs.Errors.{Kept}
use Rattle.mmdb_decode.specs.State.{decoded}
use Rattle.mmdb_record.proofs.record.read_fields.Given as goal

-- what is left to read, with the fields so far, is the whole
abbrev pub invariant-loop-record : goal.invariant-loop-record
invariant-loop-record g l =
    let R = g.R.Record in
    record {
      rest : decoded false (pairs_from name_at R.fields R.none l.fn.entries.remaining) l.fn.d ≡ decoded false (pairs_from name_at R.fields (R.datum l.record) l.entries.remaining) l.d;
      kept : Kept l.fn.d l.d;
      started : IsSome l.d.budget;
      same : l.entries ≡ record l.fn.entries { remaining = l.entries.remaining };
    }

abbrev pub decreases-loop-record : goal.decreases-loop-record
decreases-loop-record g l = l.entries.remaining
