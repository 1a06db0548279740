-- Records: maps whose keys name fields.
use Rattle.std.specs.Prelude.{◌≡◌, Option, Some, None, Bool, Result}
use Rattle.std.specs.Result.{OnOk, OnErr, IfErr}
use Rattle.mmdb_format.specs.declared.error.MaxMindDbError.{MaxMindDbError}
use Rattle.mmdb_decode.specs.Reading.{Meaning, mapped, checked}
use Rattle.mmdb_decode.specs.State.{State, GivenUp}
use Rattle.mmdb_decode.specs.Errors.{Fails, Declines}
use Rattle.mmdb_decode.specs.declared.failed.Failed.{Failed}
use Rattle.mmdb_decode.specs.declared.items.Entries.{Entries}
use Rattle.mmdb_decode.specs.Maps.{Fields, pairs_from, name_at, in_map}
use Rattle.mmdb_decode.specs.Skipping.{skip_at}

-- a record: a map of fields
abbrev pub record_at : {P : Type 0} → Fields P → P → Meaning P
record_at fields none = in_map (λ n. pairs_from name_at fields none n)

-- a record whose required fields are all there, which makes it whole
abbrev pub finished : {P R : Type 0} → (P → Option R) → Meaning P → Meaning R
finished = checked

-- a field that comes at most once
abbrev pub once : {A : Type 0} → Meaning A → Option A → Meaning (Option A)
once read None = mapped Some read
once read (Some v) = λ s p d. None

-- a field that is read into its slot, and one that no name of the record names, which is skipped
unfoldable pub field : {P A : Type 0} → (Option A → P) → Meaning A → Option A → Meaning P
field set read slot = mapped set (once read slot)

unfoldable pub skipped : {P : Type 0} → P → Meaning P
skipped p = mapped (λ (x : Unit {0}). p) skip_at

-- what the reading of one field did
pub record FieldRead {P : Type 0} (free : Bool) (read : Option (P × State)) (value : P) (old new : State) (r : Result (Unit {0}) MaxMindDbError) : Type 0 where
  pub ok : OnOk r (read ≡ Some (value, new))
  pub err : IfErr r (λ e. Fails free e read)
  pub given_up : OnErr r (GivenUp old new)

-- the same of a reading that keeps aside why it failed
pub record FieldTaken {P : Type 0} (free : Bool) (read : Option (P × State)) (value : P) (old new : State) (r : Result (Unit {0}) Failed) : Type 0 where
  pub ok : OnOk r (read ≡ Some (value, new))
  pub err : IfErr r (λ e. Declines free e read)
  pub given_up : OnErr r (GivenUp old new)

-- the same of the fields that are left of a map
pub record RestTaken {P : Type 0} (free : Bool) (read : Option (P × State)) (value : P) (old new : State) (before after : Entries) (r : Result (Unit {0}) Failed) : Type 0 where
  pub ok : OnOk r (read ≡ Some (value, new))
  pub err : IfErr r (λ e. Declines free e read)
  pub given_up : OnErr r (GivenUp old new)
  pub rest : after ≡ record before { remaining = after.remaining }
  pub spent : OnOk r (after.remaining ≡ 0)
