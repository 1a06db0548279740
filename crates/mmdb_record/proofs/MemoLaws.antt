-- What was read once is what is read again at the offset.
use Rattle.std.proofs.Common.{◌≡◌, ℕ, List, ◌+◌, ◌-◌, Option, Some, None, Bool, true, false, option_map, refl, sym, ap, ◌∙◌, arith, if◌then◌else◌}
use Rattle.mmdb_format.specs.Header.{◌>>=◌}
use Rattle.mmdb_decode.specs.Reading.{Reading, Meaning}
use Rattle.mmdb_decode.specs.Repeats.{ChargedAgain, Repeats}
use Rattle.mmdb_decode.specs.State.{State, spent_of, settled, after, decoded}
use Rattle.mmdb_decode.specs.declared.budget.Charges.{Charges}
use Rattle.mmdb_record.specs.declared.fields.FieldsSeen.{FieldsSeen}
use Rattle.mmdb_record.specs.Memos.{Kept, nothing, part_at, IsKept}
use Rattle.mmdb_decode.proofs.StepLaws.{read_at}

-- what was charged is what is between the two budgets
abbrev Cost : Charges → Charges → ℕ → ℕ → Type 0
Cost first last values bytes = (last.values - first.values ≡ values) × (last.bytes - first.bytes ≡ bytes)

cost_where : (first last : Charges) (values bytes : ℕ) (within : Bool) → option_map Some (if within then Some (record { values = first.values + values; bytes = first.bytes + bytes }) else None) ≡ Some (Some last) → Cost first last values bytes
cost_where first last values bytes true h =
    let e : ◌≡◌ {A = Charges} (record { values = first.values + values; bytes = first.bytes + bytes }) last = cc in
    rw (← e) (omega arith, omega arith)
cost_where first last values bytes false h = absurd (cc)

cost_of : (first last : Charges) (values bytes : ℕ) → spent_of (Some first) values bytes ≡ Some (Some last) → Cost first last values bytes
cost_of first last values bytes h = cost_where first last values bytes _ h

read_again : {A : Type 0} (read : Meaning A) (r : Reading A) (σ τ : State) (first last : Option Charges) → read σ.section σ.offset σ.levels ≡ Some r → spent_of first r.values r.bytes ≡ Some last → ChargedAgain first last σ.budget τ.budget → τ ≡ record σ { offset = r.next; budget = τ.budget } → decoded false read σ ≡ Some (r.value, τ)
read_again read r σ τ None last h s k t = absurd k
read_again read r σ τ (Some first) None h s k t = absurd k
read_again read r σ τ (Some first) (Some last) h s k t =
    let cost = cost_of first last r.values r.bytes s in
    read_at false read σ r τ.budget h (rw (← cost.0, ← cost.1) k) ∙ ap (λ x. Some (r.value, x)) (sym t)

settled_again : {A : Type 0} (read : Meaning A) (r : Reading A) (v : A) (b a σ τ : State) (o : Option (Option Charges)) → o ≡ spent_of b.budget r.values r.bytes → settled b r o ≡ Some (v, a) → read σ.section σ.offset σ.levels ≡ Some r → Repeats b a σ τ → decoded false read σ ≡ Some (v, τ)
settled_again read r v b a σ τ None e h k w = absurd (cc)
settled_again {A = A} read r v b a σ τ (Some left) e h k w =
    let p : ◌≡◌ {A = A × State} (r.value, record { section = b.section; offset = r.next; levels = b.levels; budget = left }) (v, a) = cc in
    let value : r.value ≡ v = ap (λ x. x.0) p in
    let offset : r.next ≡ a.offset = ap (λ x. x.1.offset) p in
    let budget : left ≡ a.budget = ap (λ x. x.1.budget) p in
    rw (← value) (read_again read r σ τ b.budget a.budget k (sym e ∙ ap Some budget) w.charges (rw offset w.same))

repeats_by : {A : Type 0} (read : Meaning A) (v : A) (b a σ τ : State) (o : Option (Reading A)) → o ≡ read σ.section σ.offset σ.levels → (o >>= after b b.budget) ≡ Some (v, a) → Repeats b a σ τ → decoded false read σ ≡ Some (v, τ)
repeats_by read v b a σ τ None e h w = absurd (cc)
repeats_by read v b a σ τ (Some r) e h w = settled_again read r v b a σ τ (spent_of b.budget r.values r.bytes) refl h (sym e) w

pub repeats_read : {A : Type 0} (read : Meaning A) (v : A) (b a σ τ : State) → b.section ≡ σ.section → Repeats b a σ τ → decoded false read b ≡ Some (v, a) → decoded false read σ ≡ Some (v, τ)
unfolding decoded
repeats_read read v b a σ τ s w h = repeats_by read v b a σ τ (read b.section b.offset b.levels) (rw (s, w.offset, w.levels) refl) h w

-- at first nothing is kept
pub kept_at_first : {R : Type 0} (k : Kept R) (m : FieldsSeen) (v : R) (section : List ℕ) → m.9 ≡ None → IsKept k m v section
kept_at_first nothing m v section h = tt
kept_at_first (part_at t get) m v section h = rw h tt
