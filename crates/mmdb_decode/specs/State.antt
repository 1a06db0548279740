-- A decoder, and what a reading makes of it.
use Rattle.std.specs.Prelude.{◌≡◌, ℕ, ◌+◌, ◌≤◌, List, Option, Some, None, Bool, true, false, ◌&&◌, nat_le, option_map, if◌then◌else◌}
use Rattle.mmdb_decode.specs.declared.budget.Charges.{Charges}
use Rattle.mmdb_format.specs.Header.{◌>>=◌}
use Rattle.mmdb_decode.specs.Reading.{Reading, Meaning}

-- the limits of a budget: values, and bytes of texts and byte strings
abbrev pub most_values : ℕ
most_values = 65536

abbrev pub most_bytes : ℕ
most_bytes = 2097152

-- the budget with more charged, where it stays within the limits
abbrev pub charged : Charges → ℕ → ℕ → Option Charges
charged c values bytes =
    if nat_le (c.values + values) most_values && nat_le (c.bytes + bytes) most_bytes
    then Some (record { values = c.values + values; bytes = c.bytes + bytes }) else None

-- a budget that has not begun begins with one value, if the reading starts one
abbrev pub begun : Bool → Option Charges → Option Charges
begun false budget = budget
begun true (Some c) = Some c
begun true None = Some (record { values = 1; bytes = 0 })

-- without a budget nothing is charged
abbrev pub spent_of : Option Charges → ℕ → ℕ → Option (Option Charges)
spent_of None values bytes = Some None
spent_of (Some c) values bytes = option_map Some (charged c values bytes)

-- what contracts see of a decoder
pub record State : Type 0 where
  pub section : List ℕ
  pub offset : ℕ
  pub levels : ℕ
  pub budget : Option Charges

-- a decoder at the start: at this offset, below no level, under no budget
abbrev pub begin : List ℕ → ℕ → State
begin section offset = record { section = section; offset = offset; levels = 0; budget = None }

-- the decoder after a reading that left a budget
abbrev pub settled : {A : Type 0} → State → Reading A → Option (Option Charges) → Option (A × State)
settled σ r None = None
settled σ r (Some left) = Some (r.value, record { section = σ.section; offset = r.next; levels = σ.levels; budget = left })

abbrev pub after : {A : Type 0} → State → Option Charges → Reading A → Option (A × State)
after σ budget r = settled σ r (spent_of budget r.values r.bytes)

-- What a decoder that reads by a meaning gives, and the decoder then; None where nothing is there within the limits.
-- The flag says whether the reading begins a budget where none has begun.
unfoldable pub decoded : {A : Type 0} → Bool → Meaning A → State → Option (A × State)
decoded starts read σ = read σ.section σ.offset σ.levels >>= after σ (begun starts σ.budget)

-- no charge was given back
abbrev pub NoneBack : Option Charges → Option Charges → Type 0
NoneBack None new = Unit {0}
NoneBack (Some c) None = ⊥
NoneBack (Some c) (Some n) = (c.values ≤ n.values) × (c.bytes ≤ n.bytes)

-- what is known of a decoder after an error
pub record GivenUp (old new : State) : Type 0 where
  pub section : new.section ≡ old.section
  pub charges : NoneBack old.budget new.budget

-- within the limits
abbrev pub Within : Option Charges → Type 0
Within None = Unit {0}
Within (Some c) = (c.values ≤ most_values) × (c.bytes ≤ most_bytes)
