-- Records, field by field.
use Rattle.std.specs.Result.{IfOk, IfErr}
use Rattle.mmdb_format.specs.declared.error.MaxMindDbError.{MaxMindDbError}
use Rattle.mmdb_decode.specs.Maps.{KeyRead, NoKey, NoneLeft, Fields, pairs_from, name_at}
use Rattle.mmdb_decode.specs.Reading.{Meaning, mapped}
use Rattle.mmdb_record.specs.Records.{field, FieldRead, once, finished}
use Rattle.mmdb_decode.specs.Errors.{Fails, Kept}
use Rattle.mmdb_decode.specs.State.{State, after, decoded, GivenUp}
use Rattle.mmdb_decode.proofs.StepLaws.{fails_more, fails_weaker}
use Rattle.std.proofs.Common.{◌≡◌, ℕ, ◌-◌, List, Option, Some, None, Bool, true, false, option_map, refl, sym, ap, ◌∙◌, IsSome, Result, Ok, Err, is_some, cond}
use Rattle.mmdb_decode.specs.declared.items.Entries.{Entries}
use Rattle.mmdb_decode.proofs.StepLaws.{kept_decoded, kept_trans, given_up_trans, decoded_begun, still_begun, fails, kept_same}
use Rattle.mmdb_decode.proofs.ReadingLaws.{mapped_none, decoded-mapped, seen, checked_ok, checked_missing, checked_none}
use Rattle.mmdb_decode.proofs.MapLaws.{some_left_to_read, pairs_done, pairs_go_on, pairs_stop, pairs_nameless}

-- a field that comes at most once
pub once_read : {A : Type 0} (starts : Bool) (read : Meaning A) (σ τ : State) (v : A) → IsSome σ.budget → decoded starts read σ ≡ Some (v, τ) → decoded false (once read None) σ ≡ Some (Some v, τ)
once_read starts read σ τ v s h = decoded-mapped false Some read σ ∙ ap (seen Some) (sym (decoded_begun starts read σ s) ∙ h)

pub once_unread : {A : Type 0} (starts : Bool) (read : Meaning A) (σ : State) → IsSome σ.budget → decoded starts read σ ≡ None → decoded false (once read None) σ ≡ None
once_unread starts read σ s h = decoded-mapped false Some read σ ∙ ap (seen Some) (sym (decoded_begun starts read σ s) ∙ h)

pub once_twice : {A : Type 0} (read : Meaning A) (σ : State) (v : A) → decoded false (once read (Some v)) σ ≡ None
unfolding decoded
once_twice read σ v = refl

-- a slot that was filled before, or not
pub once_taken : {T A : Type 0} (f : T → A) (read : Meaning A) (slot : Option T) (σ : State) → is_some slot ≡ true → decoded false (once read (option_map f slot)) σ ≡ None
once_taken f read None σ h = absurd (cc)
once_taken f read (Some x) σ h = once_twice read σ (f x)

pub once_first : {T A : Type 0} (f : T → A) (read : Meaning A) (starts : Bool) (slot : Option T) (σ τ : State) (v : T) → is_some slot ≡ false → IsSome σ.budget → decoded starts read σ ≡ Some (f v, τ) → decoded false (once read (option_map f slot)) σ ≡ Some (Some (f v), τ)
once_first f read starts None σ τ v h s d = once_read starts read σ τ (f v) s d
once_first f read starts (Some x) σ τ v h s d = absurd (cc)

pub once_missing : {T A : Type 0} (f : T → A) (read : Meaning A) (starts : Bool) (slot : Option T) (σ : State) → is_some slot ≡ false → IsSome σ.budget → decoded starts read σ ≡ None → decoded false (once read (option_map f slot)) σ ≡ None
once_missing f read starts None σ h s d = once_unread starts read σ s d
once_missing f read starts (Some x) σ h s d = absurd (cc)

-- a field that is read into its slot
field_ok : {P A : Type 0} (set : Option A → P) (read : Meaning A) (slot : Option A) (σ τ : State) (v : Option A) → decoded false (once read slot) σ ≡ Some (v, τ) → decoded false (field set read slot) σ ≡ Some (set v, τ)
unfolding field
field_ok set read slot σ τ v h = decoded-mapped false set (once read slot) σ ∙ ap (seen set) h

field_none : {P A : Type 0} (set : Option A → P) (read : Meaning A) (slot : Option A) (σ : State) → decoded false (once read slot) σ ≡ None → decoded false (field set read slot) σ ≡ None
unfolding field
field_none set read slot σ h = decoded-mapped false set (once read slot) σ ∙ ap (seen set) h

pub field_read : {P A : Type 0} (free : Bool) (set : Option A → P) (read : Meaning A) (slot : Option A) (v : Option A) (σ τ : State) (r : Result (Unit {0}) MaxMindDbError) → FieldRead free (decoded false (once read slot) σ) v σ τ r → FieldRead free (decoded false (field set read slot) σ) (set v) σ τ r
field_read free set read slot v σ τ (Ok x) h = record { ok = field_ok set read slot σ τ v h.ok; err = tt; given_up = tt }
field_read free set read slot v σ τ (Err e) h = record { ok = tt; err = fails_more free e (decoded false (once read slot) σ) (decoded false (field set read slot) σ) (field_none set read slot σ) h.err; given_up = h.given_up }

-- the same of a record that may take memory
pub field_read_not_free : {P A : Type 0} (free : Bool) (set : Option A → P) (read : Meaning A) (slot : Option A) (v : Option A) (σ τ : State) (r : Result (Unit {0}) MaxMindDbError) → FieldRead free (decoded false (once read slot) σ) v σ τ r → FieldRead false (decoded false (field set read slot) σ) (set v) σ τ r
field_read_not_free free set read slot v σ τ (Ok x) h = record { ok = field_ok set read slot σ τ v h.ok; err = tt; given_up = tt }
field_read_not_free free set read slot v σ τ (Err e) h = record { ok = tt; err = fails_weaker free e (decoded false (once read slot) σ) (decoded false (field set read slot) σ) (field_none set read slot σ) h.err; given_up = h.given_up }

-- a test of a name
pub then_read : {P : Type 0} (free : Bool) (b : Bool) (m n : Meaning P) (v : P) (σ τ : State) (r : Result (Unit {0}) MaxMindDbError) → b ≡ true → FieldRead free (decoded false m σ) v σ τ r → FieldRead free (decoded false (cond b m n) σ) v σ τ r
then_read free b m n v σ τ r e h = rw e h

pub else_read : {P : Type 0} (free : Bool) (b : Bool) (m n : Meaning P) (v : P) (σ τ : State) (r : Result (Unit {0}) MaxMindDbError) → b ≡ false → FieldRead free (decoded false n σ) v σ τ r → FieldRead free (decoded false (cond b m n) σ) v σ τ r
else_read free b m n v σ τ r e h = rw e h

-- the same, as the search applies it
pub read_into : {P A : Type 0} (free : Bool) (set : Option A → P) (read : Meaning A) (slot : Option A) (v : Option A) (w : P) (σ τ : State) (r : Result (Unit {0}) MaxMindDbError) → FieldRead free (decoded false (once read slot) σ) v σ τ r → w ≡ set v → FieldRead free (decoded false (field set read slot) σ) w σ τ r
read_into free set read slot v w σ τ r h e = rw e (field_read free set read slot v σ τ r h)

-- what a partial record is made
pub mapped_fails : {P R : Type 0} (free starts : Bool) (e : MaxMindDbError) (f : P → R) (read : Meaning P) (σ : State) → Fails free e (decoded starts read σ) → Fails free e (decoded starts (mapped f read) σ)
mapped_fails free starts e f read σ h = fails_more free e (decoded starts read σ) (decoded starts (mapped f read) σ) (mapped_none starts f read σ) h

-- A loop over fields: what is left to read, with the fields so far, is the whole.
pub record Progress {P : Type 0} (fields : Fields P) (whole : Option (P × State)) (first : State) (p : P) (n : ℕ) (σ : State) : Type 0 where
  pub rest : whole ≡ decoded false (pairs_from name_at fields p n) σ
  pub kept : Kept first σ
  pub started : IsSome σ.budget

pub progress_begins : {P : Type 0} (fields : Fields P) (p : P) (n : ℕ) (σ : State) → IsSome σ.budget → Progress fields (decoded false (pairs_from name_at fields p n) σ) σ p n σ
progress_begins fields p n σ s = record { rest = refl; kept = kept_same σ; started = s }

key_kept : (σ τ : State) (before after : Entries) (name : List ℕ) → KeyRead name_at σ τ before after name → Kept σ τ
key_kept σ τ before after name k = kept_decoded false name_at σ τ name k.step

pub progress_started : {P : Type 0} (fields : Fields P) (whole : Option (P × State)) (first : State) (p : P) (σ τ : State) (before after : Entries) (name : List ℕ) → Progress fields whole first p before.remaining σ → KeyRead name_at σ τ before after name → IsSome τ.budget
progress_started fields whole first p σ τ before after name h k = still_begun σ.budget τ.budget (key_kept σ τ before after name k).charges h.started

pub progress_goes_on : {P : Type 0} (free : Bool) (fields : Fields P) (whole : Option (P × State)) (first : State) (p q : P) (σ τ ρ : State) (before after : Entries) (name : List ℕ) → Progress fields whole first p before.remaining σ → KeyRead name_at σ τ before after name → FieldRead free (decoded false (fields p name) τ) q τ ρ (Ok tt) → Progress fields whole first q after.remaining ρ
progress_goes_on free fields whole first p q σ τ ρ before after name h k f =
    let both : Kept σ ρ = kept_trans σ τ ρ (key_kept σ τ before after name k) (kept_decoded false (fields p name) τ ρ q f.ok) in
    record {
      rest = pairs_go_on name_at fields whole p q name before.remaining after.remaining σ τ ρ h.rest k.one k.step f.ok;
      kept = kept_trans first σ ρ h.kept both;
      started = still_begun σ.budget ρ.budget both.charges h.started;
    }

pub progress_stops : {P : Type 0} (free : Bool) (fields : Fields P) (whole : Option (P × State)) (first : State) (p q : P) (σ τ ρ : State) (before after : Entries) (name : List ℕ) (e : MaxMindDbError) → Progress fields whole first p before.remaining σ → KeyRead name_at σ τ before after name → FieldRead free (decoded false (fields p name) τ) q τ ρ (Err e) → Fails free e whole × GivenUp first ρ
progress_stops free fields whole first p q σ τ ρ before after name e h k f = (fails_more free e (decoded false (fields p name) τ) whole (pairs_stop name_at fields whole p name before.remaining after.remaining σ τ h.rest k.one k.step) f.err, given_up_trans first τ ρ (kept_trans first σ τ h.kept (key_kept σ τ before after name k)) f.given_up)

pub progress_nameless : {P : Type 0} (free : Bool) (fields : Fields P) (whole : Option (P × State)) (first : State) (p : P) (σ τ : State) (before : Entries) (e : MaxMindDbError) → Progress fields whole first p before.remaining σ → NoKey name_at σ τ before → Fails free e whole × GivenUp first τ
progress_nameless free fields whole first p σ τ before e h k = (fails free e whole (pairs_nameless name_at fields whole p before.remaining (before.remaining - 1) σ h.rest (some_left_to_read before.remaining k.some) k.fails), given_up_trans first σ τ h.kept k.given_up)

pub progress_ends : {P : Type 0} (fields : Fields P) (whole : Option (P × State)) (first : State) (p : P) (σ τ : State) (before after : Entries) → Progress fields whole first p before.remaining σ → NoneLeft σ τ before after → whole ≡ Some (p, τ)
progress_ends fields whole first p σ τ before after h k = pairs_done name_at fields whole p before.remaining σ τ h.rest k.none k.same k.within

-- the whole record, of the fields that were read
pub whole_ok : {P R X : Type 0} {E : Type 0} (f : P → Option R) (view : X → R) (read : Meaning P) (σ τ : State) (p : P) (r : Result X E) → decoded true read σ ≡ Some (p, τ) → IfOk r (λ v. f p ≡ Some (view v)) → IfOk r (λ v. decoded true (finished f read) σ ≡ Some (view v, τ))
whole_ok f view read σ τ p (Ok v) h k = checked_ok true f read σ τ p (view v) h k
whole_ok f view read σ τ p (Err e) h k = tt

pub whole_err : {P R X : Type 0} (free : Bool) (f : P → Option R) (read : Meaning P) (σ τ : State) (p : P) (r : Result X MaxMindDbError) → decoded true read σ ≡ Some (p, τ) → IfErr r (λ e. Fails free e (f p)) → IfErr r (λ e. Fails free e (decoded true (finished f read) σ))
whole_err free f read σ τ p (Ok v) h k = tt
whole_err free f read σ τ p (Err e) h k = fails_more free e (f p) (decoded true (finished f read) σ) (checked_missing true f read σ τ p h) k

pub whole_unread : {P R : Type 0} (free : Bool) (e : MaxMindDbError) (f : P → Option R) (read : Meaning P) (σ : State) → Fails free e (decoded true read σ) → Fails free e (decoded true (finished f read) σ)
whole_unread free e f read σ h = fails_more free e (decoded true read σ) (decoded true (finished f read) σ) (checked_none true f read σ) h
