use Rattle.std.proofs.Common.{◌≡◌, false, IsSome}
use Rattle.mmdb_decode.specs.Maps.{pairs_from, name_at}
use Rattle.mmdb_decode.specs.Errors.{Kept}
use Rattle.mmdb_decode.specs.State.{decoded}
use Rattle.test_value.specs.Probe.{fields_of, no_probe, probe_fields}
use Rattle.test_value.proofs.probe.Probe.read_fields.Given as goal

-- what is left to read, with the fields so far, is the whole
abbrev pub invariant-loop-name : goal.invariant-loop-name
invariant-loop-name l =
    record {
      rest : decoded false (pairs_from name_at probe_fields no_probe l.fn.entries.remaining) l.fn.d ≡ decoded false (pairs_from name_at probe_fields (fields_of l.probe) l.entries.remaining) l.d;
      kept : Kept l.fn.d l.d;
      started : IsSome l.d.budget;
      same : l.entries ≡ record l.fn.entries { remaining = l.entries.remaining };
    }

abbrev pub decreases-loop-name : goal.decreases-loop-name
decreases-loop-name l = l.entries.remaining
