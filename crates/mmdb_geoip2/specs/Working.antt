-- What contracts of private functions and proofs name.
use Rattle.std.specs.Prelude.{◌≡◌, ℕ, ◌-◌, ◌<◌, length, min, Some, Result, IsErr}
use Rattle.mmdb_decode.specs.declared.items.Items.{Items}
use Rattle.mmdb_decode.specs.Arrays.{entered_array, items_left}
use Rattle.mmdb_decode.specs.State.{State}

-- Where more elements than the most are declared and more bytes than that are left, the list is rejected,
-- and the decoder is where its first element begins: none was read.
abbrev pub FailsEarly : {T E : Type 0} → ℕ → State → State → Result T E → Type 0
FailsEarly most old new r =
    (x : Items × State) → entered_array old ≡ Some x → most < min (items_left x.0) (length x.1.section - x.1.offset) → IsErr r × (new.offset ≡ x.1.offset)
