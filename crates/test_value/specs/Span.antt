-- Where a value stands.
use Rattle.std.specs.Prelude.{◌≡◌, true}
use Rattle.mmdb_decode.specs.State.{State}
use Rattle.mmdb_decode.specs.Errors.{IsRead}
use Rattle.mmdb_decode.specs.Skipping.{skip_at}
use Rattle.test_value.specs.declared.span.Span.{Span}

-- a value stands where a decoder was, and it was passed
pub record IsSpanOf (before : State) (span : Span) (after : State) : Type 0 where
  pub begins : span.begin ≡ before.offset
  pub passed : IsRead true skip_at before tt after
  pub ends : span.end ≡ after.offset
