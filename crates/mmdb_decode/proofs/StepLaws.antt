-- What one step of a decoder is, over plain variables.
use Rattle.std.proofs.Common.{◌≡◌, ℕ, ◌+◌, ◌≤◌, List, Option, Some, None, Bool, true, false, ◌&&◌, nat_le, option_map, refl, ap, ◌∙◌, cond, arith, add-zero, subst, Result, Ok, Err}
use Rattle.std.proofs.lemmas.Bool.Decides.{nat_tests}
use Rattle.mmdb_format.specs.Header.{◌>>=◌}
use Rattle.mmdb_decode.specs.Arrays.{array_at, entered_array}
use Rattle.mmdb_decode.specs.Reading.{Reading, Meaning}
use Rattle.mmdb_decode.specs.Errors.{Fails, Declines, Reads, Kept, answer}
use Rattle.mmdb_decode.specs.State.{State, charged, spent_of, begun, settled, after, decoded, Within, NoneBack, GivenUp, most_values, most_bytes}
use Rattle.mmdb_decode.specs.declared.budget.Charges.{Charges}
use Rattle.mmdb_decode.specs.declared.direct.Entered.{Entered}
use Rattle.std.specs.Result.{OnOk, IfOk, IfErr}
use Rattle.std.specs.Option.{IsSome}
use Rattle.mmdb_format.specs.declared.error.MaxMindDbError.{MaxMindDbError}
use Rattle.mmdb_format.specs.declared.error.MaxMindDbError.TheVariants.{InvalidDatabase, Io, Decoding, ResourceLimit, InvalidNetwork, InvalidInput, Memory}
use Rattle.mmdb_decode.specs.declared.failed.Failed.{Failed}
use Rattle.mmdb_decode.specs.declared.failed.Failed.TheVariants.{OutOfMemory, Unreadable}

abbrev pub state : List ℕ → ℕ → ℕ → Option Charges → State
state s p d budget = record { section = s; offset = p; levels = d; budget = budget }

pub none_back : (budget : Option Charges) → NoneBack budget budget
none_back None = tt
none_back (Some c) = (omega arith, omega arith)

pub fails : {A : Type 0} (free : Bool) (e : MaxMindDbError) (read : Option A) → read ≡ None → Fails free e read
fails true e read h = h
fails false Memory read h = tt
fails false (InvalidDatabase m o) read h = h
fails false (Io e) read h = h
fails false (Decoding m o p) read h = h
fails false (ResourceLimit m o p) read h = h
fails false (InvalidNetwork e) read h = h
fails false (InvalidInput m) read h = h

pub unread : {A : Type 0} (starts : Bool) (read : Meaning A) (σ : State) → read σ.section σ.offset σ.levels ≡ None → decoded starts read σ ≡ None
unfolding decoded
unread starts read σ h = rw h refl

pub unread_gives_up : {A : Type 0} (free starts : Bool) (e : MaxMindDbError) (read : Meaning A) (σ : State) → read σ.section σ.offset σ.levels ≡ None → GivenUp σ σ × Fails free e (decoded starts read σ)
unread_gives_up free starts e read σ h = (record { section = refl; charges = none_back σ.budget }, fails free e (decoded starts read σ) (unread starts read σ h))

nothing_charged : (c : Charges) → (c.values ≤ most_values) × (c.bytes ≤ most_bytes) → charged c 0 0 ≡ Some c
nothing_charged c h = simp add-zero (grind (arith, nat_tests))

pub nothing_spent : (budget : Option Charges) → Within budget → spent_of budget 0 0 ≡ Some budget
nothing_spent None h = refl
nothing_spent (Some c) h = ap (option_map Some) (nothing_charged c h)

-- a reading that is within the limits
pub read_at : {A : Type 0} (starts : Bool) (read : Meaning A) (σ : State) (r : Reading A) (left : Option Charges) → read σ.section σ.offset σ.levels ≡ Some r → spent_of (begun starts σ.budget) r.values r.bytes ≡ Some left → decoded starts read σ ≡ Some (r.value, state σ.section r.next σ.levels left)
unfolding decoded
read_at starts read σ r left h k = rw (h, k) refl

-- a reading past the limits
pub read_past : {A : Type 0} (starts : Bool) (read : Meaning A) (σ : State) (r : Reading A) → read σ.section σ.offset σ.levels ≡ Some r → spent_of (begun starts σ.budget) r.values r.bytes ≡ None → decoded starts read σ ≡ None
unfolding decoded
read_past starts read σ r h k = rw (h, k) refl

-- a reading with no cost
pub read_free : {A : Type 0} (read : Meaning A) (σ : State) (v : A) (next : ℕ) → Within σ.budget → read σ.section σ.offset σ.levels ≡ Some (record { value = v; next = next; values = 0; bytes = 0 }) → decoded false read σ ≡ Some (v, state σ.section next σ.levels σ.budget)
read_free read σ v next w h = read_at false read σ (record { value = v; next = next; values = 0; bytes = 0 }) σ.budget h (nothing_spent σ.budget w)

pub declines : {A : Type 0} (free : Bool) (r : Failed) (read : Option A) → read ≡ None → Declines free r read
declines true r read h = h
declines false OutOfMemory read h = tt
declines false Unreadable read h = h

pub declines_more : {A B : Type 0} (free : Bool) (r : Failed) (p : Option A) (q : Option B) → (p ≡ None → q ≡ None) → Declines free r p → Declines free r q
declines_more true r p q k h = k h
declines_more false OutOfMemory p q k h = tt
declines_more false Unreadable p q k h = k h

pub declines_weaker : {A B : Type 0} (free : Bool) (r : Failed) (p : Option A) (q : Option B) → (p ≡ None → q ≡ None) → Declines free r p → Declines false r q
declines_weaker true r p q k h = declines false r q (k h)
declines_weaker false r p q k h = declines_more false r p q k h

-- the error that is made of a failed read
pub fails_as : {A : Type 0} (free : Bool) (r : Failed) (e : MaxMindDbError) (read : Option A) → (r ≡ OutOfMemory → e ≡ Memory) → Declines free r read → Fails free e read
fails_as true r e read k h = h
fails_as false OutOfMemory e read k h = rw (k refl) tt
fails_as false Unreadable e read k h = fails false e read h

pub fails_more : {A B : Type 0} (free : Bool) (e : MaxMindDbError) (r : Option A) (q : Option B) → (r ≡ None → q ≡ None) → Fails free e r → Fails free e q
fails_more true e r q k h = k h
fails_more false Memory r q k h = tt
fails_more false (InvalidDatabase m o) r q k h = k h
fails_more false (Io e) r q k h = k h
fails_more false (Decoding m o p) r q k h = k h
fails_more false (ResourceLimit m o p) r q k h = k h
fails_more false (InvalidNetwork e) r q k h = k h
fails_more false (InvalidInput m) r q k h = k h

pub fails_weaker : {A B : Type 0} (free : Bool) (e : MaxMindDbError) (r : Option A) (q : Option B) → (r ≡ None → q ≡ None) → Fails free e r → Fails false e q
fails_weaker true e r q k h = fails false e q (k h)
fails_weaker false e r q k h = fails_more false e r q k h

-- charges only grow
back_charged : (t : Bool) (c d : Charges) (left : Option Charges) → (c.values ≤ d.values) × (c.bytes ≤ d.bytes) → option_map Some (cond t (Some d) None) ≡ Some left → NoneBack (Some c) left
back_charged true c d left k h = let e : Some d ≡ left = cc in subst (λ l. NoneBack (Some c) l) e k
back_charged false c d left k h = absurd (cc)

pub some_back : (starts : Bool) (budget : Option Charges) (v b : ℕ) (left : Option Charges) → spent_of (begun starts budget) v b ≡ Some left → NoneBack budget left
some_back starts None v b left h = tt
some_back true (Some c) v b left h = back_charged (nat_le (c.values + v) most_values && nat_le (c.bytes + b) most_bytes) c (record { values = c.values + v; bytes = c.bytes + b }) left (omega arith, omega arith) h
some_back false (Some c) v b left h = back_charged (nat_le (c.values + v) most_values && nat_le (c.bytes + b) most_bytes) c (record { values = c.values + v; bytes = c.bytes + b }) left (omega arith, omega arith) h

kept_settled : {A : Type 0} (σ τ : State) (r : Reading A) (v : A) (o : Option (Option Charges)) → ((left : Option Charges) → o ≡ Some left → NoneBack σ.budget left) → settled σ r o ≡ Some (v, τ) → Kept σ τ
kept_settled σ τ r v None k h = absurd (cc)
kept_settled {A = A} σ τ r v (Some left) k h = let p : ◌≡◌ {A = A × State} (r.value, state σ.section r.next σ.levels left) (v, τ) = cc in let e : state σ.section r.next σ.levels left ≡ τ = ap (λ x. x.1) p in subst (λ t. Kept σ t) e (record { section = refl; levels = refl; charges = k left refl })

kept_after : {A : Type 0} (starts : Bool) (σ τ : State) (v : A) (o : Option (Reading A)) → (o >>= after σ (begun starts σ.budget)) ≡ Some (v, τ) → Kept σ τ
kept_after starts σ τ v None h = absurd (cc)
kept_after starts σ τ v (Some r) h = kept_settled σ τ r v (spent_of (begun starts σ.budget) r.values r.bytes) (some_back starts σ.budget r.values r.bytes) h

pub kept_decoded : {A : Type 0} (starts : Bool) (read : Meaning A) (σ τ : State) (v : A) → decoded starts read σ ≡ Some (v, τ) → Kept σ τ
unfolding decoded
kept_decoded starts read σ τ v h = kept_after starts σ τ v (read σ.section σ.offset σ.levels) h

pub kept_reads : {X A : Type 0} (view : X → A) (free starts : Bool) (read : Meaning A) (σ τ : State) (r : Result X MaxMindDbError) → Reads view free (decoded starts read σ) σ τ r → OnOk r (Kept σ τ)
kept_reads view free starts read σ τ (Ok x) h = kept_decoded starts read σ τ (view x) h
kept_reads view free starts read σ τ (Err e) h = tt

-- an array that is entered
pub entered_none : (σ : State) → array_at σ.section σ.offset σ.levels ≡ None → entered_array σ ≡ None
unfolding entered_array
entered_none σ h = rw h refl

pub entered_past : (σ : State) (at : Entered) → array_at σ.section σ.offset σ.levels ≡ Some at → spent_of (begun true σ.budget) at.count 0 ≡ None → entered_array σ ≡ None
unfolding entered_array
entered_past σ at h k = rw (h, k) refl

pub entered_at : (σ : State) (at : Entered) (left : Option Charges) → array_at σ.section σ.offset σ.levels ≡ Some at → spent_of (begun true σ.budget) at.count 0 ≡ Some left → entered_array σ ≡ Some (record { remaining = at.count; after = at.after; levels = σ.levels }, state σ.section at.body at.levels left)
unfolding entered_array
entered_at σ at left h k = rw (h, k) refl

pub back_trans : (a b c : Option Charges) → NoneBack a b → NoneBack b c → NoneBack a c
back_trans None b c h k = tt
back_trans (Some x) None c h k = absurd h
back_trans (Some x) (Some y) None h k = absurd k
back_trans (Some x) (Some y) (Some z) h k = (omega arith, omega arith)

pub kept_trans : (ρ σ τ : State) → Kept ρ σ → Kept σ τ → Kept ρ τ
kept_trans ρ σ τ h k = record { section = k.section ∙ h.section; levels = k.levels ∙ h.levels; charges = back_trans ρ.budget σ.budget τ.budget h.charges k.charges }

pub given_up_trans : (ρ σ τ : State) → Kept ρ σ → GivenUp σ τ → GivenUp ρ τ
given_up_trans ρ σ τ h k = record { section = k.section ∙ h.section; charges = back_trans ρ.budget σ.budget τ.budget h.charges k.charges }

pub kept_same : (σ : State) → Kept σ σ
kept_same σ = record { section = refl; levels = refl; charges = none_back σ.budget }

pub given_up_kept : (σ τ : State) → Kept σ τ → GivenUp σ τ
given_up_kept σ τ h = record { section = h.section; charges = h.charges }

-- a budget that has begun goes on
pub still_begun : (a b : Option Charges) → NoneBack a b → IsSome a → IsSome b
still_begun None b h k = absurd (cc)
still_begun (Some x) None h k = absurd h
still_begun (Some x) (Some y) h k = k

begun_already : (starts : Bool) (budget : Option Charges) → IsSome budget → begun starts budget ≡ budget
begun_already false budget h = refl
begun_already true None h = absurd (cc)
begun_already true (Some c) h = refl

-- under a budget it doesn't matter whether a reading starts one
pub decoded_begun : {A : Type 0} (starts : Bool) (read : Meaning A) (σ : State) → IsSome σ.budget → decoded starts read σ ≡ decoded false read σ
unfolding decoded
decoded_begun starts read σ h = rw (begun_already starts σ.budget h) refl

pub answer_ok : {A : Type 0} (starts : Bool) (read : Meaning A) (s : List ℕ) (p : ℕ) (σ τ : State) (v : A) → σ ≡ state s p 0 None → decoded starts read σ ≡ Some (v, τ) → answer starts read s p ≡ Some v
unfolding answer
answer_ok starts read s p σ τ v k h = rw (← k, h) refl

pub answer_none : {A : Type 0} (starts : Bool) (read : Meaning A) (s : List ℕ) (p : ℕ) (σ : State) → σ ≡ state s p 0 None → decoded starts read σ ≡ None → answer starts read s p ≡ None
unfolding answer
answer_none starts read s p σ k h = rw (← k, h) refl

pub if_ok_weaker : {X E : Type 0} (r : Result X E) (P Q : X → Type 0) → ((x : X) → P x → Q x) → IfOk r P → IfOk r Q
if_ok_weaker (Ok x) P Q k h = k x h
if_ok_weaker (Err e) P Q k h = tt

pub if_err_weaker : {X E : Type 0} (r : Result X E) (P Q : E → Type 0) → ((e : E) → P e → Q e) → IfErr r P → IfErr r Q
if_err_weaker (Ok x) P Q k h = tt
if_err_weaker (Err e) P Q k h = k e h

-- a step that found nothing
pub nothing_taken : {A : Type 0} (read : Option (A × State)) (σ : State) → read ≡ None → GivenUp σ σ × (read ≡ None)
nothing_taken read σ h = (record { section = refl; charges = none_back σ.budget }, h)

-- a reading with no cost that begins a budget
pub read_started : {A : Type 0} (read : Meaning A) (σ : State) (v : A) (next : ℕ) (left : Option Charges) → left ≡ begun true σ.budget → Within left → read σ.section σ.offset σ.levels ≡ Some (record { value = v; next = next; values = 0; bytes = 0 }) → decoded true read σ ≡ Some (v, state σ.section next σ.levels left)
read_started read σ v next left e w h = read_at true read σ (record { value = v; next = next; values = 0; bytes = 0 }) left h (rw (← e) (nothing_spent left w))
