use Rattle.std.proofs.Common.{◌≡◌, false, IsSome}
use Rattle.mmdb_decode.specs.Maps.{pairs_from, name_at}
use Rattle.mmdb_decode.specs.Errors.{Kept}
use Rattle.mmdb_decode.specs.State.{decoded}
use Rattle.mmdb_record.specs.Tables.{fields_of, no_parts, parts_met, flags}
use Rattle.mmdb_record.specs.Memos.{IsKept}
use Rattle.mmdb_record.proofs.fields.read_each.Given as goal

-- what is left to read, with the fields so far, is the whole
abbrev pub invariant-loop-name : goal.invariant-loop-name
invariant-loop-name g l =
    let t = g.R.Fields.table in
    record {
      rest : decoded false (pairs_from name_at (fields_of t) (no_parts t) l.fn.entries.remaining) l.fn.d ≡ decoded false (pairs_from name_at (fields_of t) (parts_met t (flags l.met) l.fields) l.entries.remaining) l.d;
      kept : Kept l.fn.d l.d;
      started : IsSome l.d.budget;
      kept_part : IsKept g.R.Fields.kept l.met l.fields l.fn.d.section;
      same : l.entries ≡ record l.fn.entries { remaining = l.entries.remaining };
    }

abbrev pub decreases-loop-name : goal.decreases-loop-name
decreases-loop-name g l = l.entries.remaining
