-- What is read within the limits.
use Rattle.std.proofs.Common.{◌≡◌, ℕ, ◌+◌, ◌≤◌, List, Option, Some, None, Bool, true, false, ◌&&◌, nat_le, option_map, refl, ap, arith, cond}
use Rattle.std.proofs.lemmas.Bool.Decides.{nat_tests}
use Rattle.mmdb_format.specs.Header.{◌>>=◌}
use Rattle.mmdb_decode.specs.declared.budget.Charges.{Charges}
use Rattle.mmdb_decode.specs.Reading.{Reading, Meaning}
use Rattle.mmdb_decode.specs.State.{State, most_values, most_bytes, decoded, settled, after}
use Rattle.mmdb_decode.specs.Errors.{answer}
use Rattle.mmdb_record.specs.Limits.{IsWithinLimits, AnswerIsWithinLimits, OneReading}
use Rattle.mmdb_decode.proofs.StepLaws.{state}

within_limits : {A : Type 0} (σ : State) (r : Reading A) (v : A) (t : Bool) (d : Charges) → (t ≡ true → (1 + r.values ≤ most_values) × (r.bytes ≤ most_bytes)) → option_map (λ x. x.0) (settled σ r (option_map Some (cond t (Some d) None))) ≡ Some v → IsWithinLimits r × (r.value ≡ v)
within_limits σ r v true d k h = (k refl, cc)
within_limits σ r v false d k h = absurd (cc)

answered : {A : Type 0} (s : List ℕ) (p : ℕ) (v : A) (o : Option (Reading A)) → option_map (λ x. x.0) (o >>= after (state s p 0 None) (Some (record { values = 1; bytes = 0 }))) ≡ Some v → (r : Reading A) × (o ≡ Some r) × IsWithinLimits r × (r.value ≡ v)
answered s p v None h = absurd (cc)
answered s p v (Some r) h =
    let w = within_limits (state s p 0 None) r v (nat_le (1 + r.values) most_values && nat_le (0 + r.bytes) most_bytes) (record { values = 1 + r.values; bytes = 0 + r.bytes }) (λ e. grind (arith, nat_tests)) h in
    (r, refl, w.0, w.1)

pub answer_within : {A : Type 0} (read : Meaning A) (s : List ℕ) (p : ℕ) (v : A) → answer true read s p ≡ Some v → (r : Reading A) × (read s p 0 ≡ Some r) × IsWithinLimits r × (r.value ≡ v)
unfolding answer decoded
answer_within read s p v h = answered s p v (read s p 0) h

pub within_answer : {A : Type 0} (read : Meaning A) (s : List ℕ) (p : ℕ) (v : A) (r : Reading A) → read s p 0 ≡ Some r → 1 + r.values ≤ most_values → r.bytes ≤ most_bytes → r.value ≡ v → answer true read s p ≡ Some v
unfolding answer decoded
within_answer read s p v r h c b e =
    let t : nat_le (1 + r.values) most_values && nat_le (0 + r.bytes) most_bytes ≡ true = grind (arith, nat_tests) in
    rw (h, t, e) refl

pub answer-is_within_limits : {A : Type 0} → AnswerIsWithinLimits A
answer-is_within_limits read s p v = (answer_within read s p v, λ h. within_answer read s p v h.0 h.1 h.2.0 h.2.1 h.3)

pub reading-is_one : {A : Type 0} (read : Meaning A) → OneReading read
reading-is_one read s p d x y h k =
    let same : x ≡ y = cc in
    (ap (λ r. r.value) same, ap (λ r. r.next) same, ap (λ r. r.values) same, ap (λ r. r.bytes) same)
