-- That at most one value is at an offset, in the words of the format.
use Rattle.std.specs.Prelude.{◌≡◌, ℕ, List}
use Rattle.mmdb_format.specs.Contents.{scalar_payload}
use Rattle.mmdb_decode.specs.Maps.{Fields}
use Rattle.mmdb_decode.specs.Reading.{Meaning}
use Rattle.mmdb_decode.specs.ScalarReads.{ScalarStands, WholeNumberStands}
use Rattle.mmdb_record.specs.TypedReads.{ListStands, TextMapStands, RecordStands}

-- By a relation (which value is at p below d levels, before which offset it ends, and what it costs) at most one value
-- is there, with one end and one cost.
abbrev pub OneStands : {A : Type 0} → (List ℕ → ℕ → ℕ → A → ℕ → ℕ → ℕ → Type 0) → Type 0
OneStands {A = A} Stands =
    (s : List ℕ) (p d : ℕ) (v w : A) (q r c e b f : ℕ) → Stands s p d v q c b → Stands s p d w r e f →
    (v ≡ w) × (q ≡ r) × (c ≡ e) × (b ≡ f)

-- a scalar, which costs its bytes, and an integer of any type
abbrev pub OneScalarStands : Type 0
OneScalarStands = OneStands (λ s p d x q c b. ScalarStands s p d x q × (c ≡ 0) × (b ≡ scalar_payload x))

abbrev pub OneIntegerStands : Type 0
OneIntegerStands = OneStands (λ s p d z q c b. WholeNumberStands s p d z q × (c ≡ 0) × (b ≡ 0))

-- a list, a map with keys of text, and a record
abbrev pub OneListStands : {A : Type 0} → Meaning A → Type 0
OneListStands read = OneStands (ListStands read)

abbrev pub OneTextMapStands : {A : Type 0} → Meaning A → Type 0
OneTextMapStands read = OneStands (TextMapStands read)

abbrev pub OneRecordStands : {P : Type 0} → Fields P → P → Type 0
OneRecordStands fields none = OneStands (λ s p d x q c b. (names : List (List ℕ)) × RecordStands fields none s p d names x q c b)
