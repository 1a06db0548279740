-- The last offset of the marker.
use Rattle.std.proofs.Common.{ℕ, List, Option, Some, None, inl, inr, arith}
use Rattle.std.specs.Option.{MatchOption}
use Rattle.std.proofs.lemmas.Bool.{cases_lt}
use Rattle.memchr.specs.Find.{FindsLastNeedle, OccursAt}
use Rattle.mmdb_reader.specs.File.{marker_bytes, IsMarkerAt, IsLastMarker}
use Rattle.mmdb_reader.specs.Working.{HasNoMarker}

occurs : (file : List ℕ) (offset : ℕ) → IsMarkerAt file offset → OccursAt file marker_bytes offset
occurs file offset h = record { fits = h.fits; reads = h.reads }

pub marker_found : (file : List ℕ) (found : Option ℕ) → FindsLastNeedle file marker_bytes found → MatchOption found (HasNoMarker file) (IsLastMarker file)
marker_found file None h = λ offset stands. let fits = stands.fits in h offset (omega arith) (omega arith) (occurs file offset stands)
marker_found file (Some offset) h = record {
  stands = record { fits = h.1.fits; reads = h.1.reads };
  last = λ other stands. elim (cases_lt offset other) [
    | inl after ↦ let fits = stands.fits in absurd (h.0.after other (omega arith) (omega arith) (occurs file other stands))
    | inr before ↦ before
  ];
}
