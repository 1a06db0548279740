-- Tables: what was read so far, and what a whole record says.
use Rattle.std.proofs.Common.{◌≡◌, List, [], ◌∷◌, Option, Some, None, Bool, true, false, refl, sym, ap, ◌∙◌, IsSome, option_map}
use Rattle.mmdb_decode.specs.Reading.{Meaning}
use Rattle.mmdb_decode.specs.State.{State, decoded}
use Rattle.mmdb_decode.proofs.StepLaws.{decoded_begun, declines_more}
use Rattle.mmdb_decode.proofs.ReadingLaws.{decoded-mapped, seen, checked_ok, checked_none}
use Rattle.mmdb_record.specs.Records.{record_at, finished}
use Rattle.mmdb_decode.specs.declared.failed.Failed.{Failed}
use Rattle.mmdb_decode.specs.Errors.{Declines}
use Rattle.mmdb_record.specs.Tables.{Table, end, optional, part, Data, data_of, no_data, Parts, parts_met, no_parts, all_parts, first_flag, other_flags, none_met, part_once, fields_of, whole_of, record_of}

-- no part was met
abbrev pub NoneMet : List Bool → Type 0
NoneMet [] = Unit {0}
NoneMet (b ∷ bs) = (b ≡ false) × NoneMet bs

first_unmet : (bs : List Bool) → NoneMet bs → first_flag bs ≡ false
first_unmet [] h = refl
first_unmet (b ∷ bs) h = h.0

others_unmet : (bs : List Bool) → NoneMet bs → NoneMet (other_flags bs)
others_unmet [] h = tt
others_unmet (b ∷ bs) h = h.1

parts_of_none : {R : Type 0} (t : Table R) (met : List Bool) (v : R) → NoneMet met → data_of t v ≡ no_data t → parts_met t met v ≡ no_parts t
parts_of_none end met v h e = refl
parts_of_none (optional name shape get rest) met v h e =
    let first = ap (λ (x : Option shape.Datum × Data rest). x.0) e in
    let others = ap (λ (x : Option shape.Datum × Data rest). x.1) e in
    let more = parts_of_none rest met v h others in
    ap (λ (x : Option shape.Datum). (x, parts_met rest met v)) first ∙ ap (λ (x : Parts rest). (None, x)) more
parts_of_none (part name shape none is_absent get rest) met v h e =
    let first = ap (λ (x : shape.Datum × Data rest). x.0) e in
    let others = ap (λ (x : shape.Datum × Data rest). x.1) e in
    let more = parts_of_none rest (other_flags met) v (others_unmet met h) others in
    ap (λ (b : Bool). ((b, shape.datum (get v)), parts_met rest (other_flags met) v)) (first_unmet met h)
    ∙ ap (λ (x : shape.Datum). ((false, x), parts_met rest (other_flags met) v)) first
    ∙ ap (λ (x : Parts rest). ((false, none), x)) more

-- at first none is met
pub parts_at_first : {R : Type 0} (t : Table R) (met : List Bool) (v : R) → met ≡ none_met → data_of t v ≡ no_data t → parts_met t met v ≡ no_parts t
parts_at_first t met v h e = rw h (parts_of_none t none_met v (refl, (refl, (refl, (refl, (refl, (refl, (refl, (refl, (refl, tt))))))))) e)

pub all_of_parts : {R : Type 0} (t : Table R) (met : List Bool) (v : R) → all_parts t (parts_met t met v) ≡ data_of t v
all_of_parts end met v = refl
all_of_parts (optional name shape get rest) met v = ap (λ (x : Data rest). (option_map shape.datum (get v), x)) (all_of_parts rest met v)
all_of_parts (part name shape none is_absent get rest) met v = ap (λ (x : Data rest). (shape.datum (get v), x)) (all_of_parts rest (other_flags met) v)

-- a whole record, of the parts that were read
pub record_read : {R : Type 0} (t : Table R) (met : List Bool) (v : R) (σ τ : State) → decoded true (record_at (fields_of t) (no_parts t)) σ ≡ Some (parts_met t met v, τ) → decoded true (record_of t) σ ≡ Some (data_of t v, τ)
unfolding record_of
record_read t met v σ τ h = checked_ok true (whole_of t) (record_at (fields_of t) (no_parts t)) σ τ (parts_met t met v) (data_of t v) h (ap Some (all_of_parts t met v))

pub record_declined : {R : Type 0} (free : Bool) (r : Failed) (t : Table R) (σ : State) → Declines free r (decoded true (record_at (fields_of t) (no_parts t)) σ) → Declines free r (decoded true (record_of t) σ)
unfolding record_of
record_declined free r t σ h = declines_more free r (decoded true (record_at (fields_of t) (no_parts t)) σ) (decoded true (finished (whole_of t) (record_at (fields_of t) (no_parts t))) σ) (checked_none true (whole_of t) (record_at (fields_of t) (no_parts t)) σ) h

-- a part that comes at most once
pub part_taken : {A : Type 0} (read : Meaning A) (met : Bool) (v : A) (σ : State) → met ≡ true → decoded false (part_once read (met, v)) σ ≡ None
unfolding decoded
part_taken read true v σ h = refl
part_taken read false v σ h = absurd (cc)

pub part_first : {A : Type 0} (starts : Bool) (read : Meaning A) (met : Bool) (u v : A) (σ τ : State) → met ≡ false → IsSome σ.budget → decoded starts read σ ≡ Some (v, τ) → decoded false (part_once read (met, u)) σ ≡ Some ((true, v), τ)
part_first starts read true u v σ τ h s d = absurd (cc)
part_first {A = A} starts read false u v σ τ h s d = let met : A → Bool × A = λ x. (true, x) in decoded-mapped false met read σ ∙ ap (seen met) (sym (decoded_begun starts read σ s) ∙ d)

pub part_missing : {A : Type 0} (starts : Bool) (read : Meaning A) (met : Bool) (u : A) (σ : State) → met ≡ false → IsSome σ.budget → decoded starts read σ ≡ None → decoded false (part_once read (met, u)) σ ≡ None
part_missing starts read true u σ h s d = absurd (cc)
part_missing {A = A} starts read false u σ h s d = let met : A → Bool × A = λ x. (true, x) in decoded-mapped false met read σ ∙ ap (seen met) (sym (decoded_begun starts read σ s) ∙ d)
