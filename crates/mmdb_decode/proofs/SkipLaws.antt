-- Skipping, level by level.
use Rattle.std.specs.Option.{IsSome}
use Rattle.std.proofs.Common.{Result, Ok, Err}
use Rattle.mmdb_format.specs.Contents.{passed_end}
use Rattle.mmdb_format.specs.Header.{◌>>=◌, header_at}
use Rattle.mmdb_decode.specs.Reading.{Reading, Meaning, given}
use Rattle.mmdb_decode.specs.Scalars.{free_of_charge}
use Rattle.mmdb_decode.specs.Errors.{Takes, Kept}
use Rattle.mmdb_decode.specs.Skipping.{skip_at, parts_of, passes, counted, skip_within}
use Rattle.mmdb_decode.specs.Working.{scalar_passed, entered_inline}
use Rattle.mmdb_decode.specs.State.{State, charged, spent_of, begun, settled, after, decoded, Within, NoneBack, GivenUp}
use Rattle.mmdb_decode.proofs.StepLaws.{still_begun, kept_decoded, decoded_begun}
use Rattle.std.proofs.Common.{◌≡◌, ℕ, suc, zero, List, Option, Some, None, true, false, option_map, refl, ◌∙◌, subst}
use Rattle.mmdb_decode.specs.declared.budget.Charges.{Charges}
use Rattle.mmdb_format.specs.declared.header.Header.{Header}
use Rattle.mmdb_decode.proofs.StepLaws.{state, read_free, some_back, none_back, given_up_trans}
use Rattle.mmdb_decode.proofs.ReadingLaws.{charged-more, decoded-followed}

pub scalar_none : (σ : State) (header : Header) → passed_end σ.section header ≡ None → scalar_passed σ header ≡ None
unfolding scalar_passed
scalar_none σ header h = rw h refl

pub scalar_some : (σ : State) (header : Header) (next : ℕ) → passed_end σ.section header ≡ Some next → scalar_passed σ header ≡ Some (tt, state σ.section next σ.levels σ.budget)
unfolding scalar_passed
scalar_some σ header next h = rw h refl

pub inline_past : (σ : State) (header : Header) (parts : ℕ) → spent_of σ.budget parts 0 ≡ None → entered_inline σ header parts ≡ None
unfolding entered_inline
inline_past σ header parts h = rw h refl

pub inline_in : (σ : State) (header : Header) (parts : ℕ) (left : Option Charges) → spent_of σ.budget parts 0 ≡ Some left → entered_inline σ header parts ≡ Some (tt, state σ.section header.body σ.levels left)
unfolding entered_inline
inline_in σ header parts left h = rw h refl

abbrev beyond : State → ℕ → Unit {0} × State
beyond σ next = (tt, state σ.section next σ.levels σ.budget)

abbrev inside : State → Header → Option Charges → Unit {0} × State
inside σ header left = (tt, state σ.section header.body σ.levels left)

pub skip_headless : (n : ℕ) (σ : State) → header_at σ.section σ.offset ≡ None → decoded false (skip_within n) σ ≡ None
unfolding decoded skip_within
skip_headless zero σ h = rw h refl
skip_headless (suc n) σ h = rw h refl

pub skip_deep : (σ : State) (header : Header) (parts : ℕ) → header_at σ.section σ.offset ≡ Some header → parts_of header ≡ Some parts → decoded false (skip_within 0) σ ≡ None
unfolding decoded skip_within
skip_deep σ header parts h k = rw (h, k) refl

scalar_alone : (σ : State) (header : Header) → Within σ.budget → (o : Option ℕ) → ((o >>= λ next. Some (record { value = tt; next = next; values = 0; bytes = 0 })) >>= after σ σ.budget) ≡ (o >>= λ next. Some (beyond σ next))
unfolding decoded
scalar_alone σ header w None = refl
scalar_alone σ header w (Some next) = read_free {A = Unit {0}} (λ s p d. Some (record { value = tt; next = next; values = 0; bytes = 0 })) σ tt next w refl

pub skip_plain : (n : ℕ) (σ : State) (header : Header) → Within σ.budget → header_at σ.section σ.offset ≡ Some header → parts_of header ≡ None → decoded false (skip_within n) σ ≡ scalar_passed σ header
unfolding decoded skip_within scalar_passed
skip_plain zero σ header w h k = rw (h, k) (scalar_alone σ header w (passed_end σ.section header))
skip_plain (suc n) σ header w h k = rw (h, k) (scalar_alone σ header w (passed_end σ.section header))

inline_left : (σ : State) (header : Header) (parts : ℕ) (r : Reading (Unit {0})) (left : Option Charges) (o : Option Charges) → settled σ (counted parts r) (option_map Some o) ≡ settled (state σ.section header.body σ.levels left) r (option_map Some o)
inline_left σ header parts r left None = refl
inline_left σ header parts r left (Some d) = refl

inline_charged : (σ : State) (header : Header) (parts : ℕ) (r : Reading (Unit {0})) (o : Option Charges) → settled σ (counted parts r) (option_map Some (o >>= λ d. charged d r.values r.bytes)) ≡ ((option_map Some o >>= λ left. Some (inside σ header left)) >>= λ x. after x.1 x.1.budget r)
inline_charged σ header parts r None = refl
inline_charged σ header parts r (Some d) = inline_left σ header parts r (Some d) (charged d r.values r.bytes)

inline_nothing : (σ : State) (header : Header) (o : Option (Option Charges)) → ◌≡◌ {A = Option (Unit {0} × State)} None ((o >>= λ left. Some (inside σ header left)) >>= λ x. None)
inline_nothing σ header None = refl
inline_nothing σ header (Some left) = refl

inline_budget : (σ : State) (header : Header) (parts : ℕ) (budget : Option Charges) (o : Option (Reading (Unit {0}))) → ((o >>= λ r. Some (counted parts r)) >>= after σ budget) ≡ ((spent_of budget parts 0 >>= λ left. Some (inside σ header left)) >>= λ x. o >>= after x.1 x.1.budget)
inline_budget σ header parts budget None = inline_nothing σ header (spent_of budget parts 0)
inline_budget σ header parts None (Some r) = refl
inline_budget σ header parts (Some c) (Some r) = rw (charged-more c parts r.values r.bytes) (inline_charged σ header parts r (charged c parts 0))

inline_same : (n : ℕ) (σ : State) (header : Header) (parts : ℕ) (o : Option (Option Charges)) → ((o >>= λ left. Some (inside σ header left)) >>= λ x. passes (skip_within n) parts σ.section header.body σ.levels >>= after x.1 x.1.budget) ≡ ((o >>= λ left. Some (inside σ header left)) >>= λ x. decoded false (passes (skip_within n) parts) x.1)
unfolding decoded
inline_same n σ header parts None = refl
inline_same n σ header parts (Some left) = refl

-- a container is its parts, one nesting down
pub skip_parts : (n : ℕ) (σ : State) (header : Header) (parts : ℕ) → header_at σ.section σ.offset ≡ Some header → parts_of header ≡ Some parts → decoded false (skip_within (suc n)) σ ≡ (entered_inline σ header parts >>= λ x. decoded false (passes (skip_within n) parts) x.1)
unfolding decoded skip_within entered_inline
skip_parts n σ header parts h k = rw (h, k) (inline_budget σ header parts σ.budget (passes (skip_within n) parts σ.section header.body σ.levels) ∙ inline_same n σ header parts (spent_of σ.budget parts 0))

pub passes_step : (read : Meaning (Unit {0})) (n : ℕ) (σ : State) → decoded false (passes read (suc n)) σ ≡ (decoded false read σ >>= λ x. decoded false (passes read n) x.1)
passes_step read n σ = decoded-followed read (λ _. passes read n) σ

pub pass_done : (read : Meaning (Unit {0})) (whole : Option (Unit {0} × State)) (n : ℕ) (σ : State) → whole ≡ decoded false (passes read n) σ → n ≡ 0 → Within σ.budget → whole ≡ Some (tt, σ)
pass_done read whole n σ h z w = h ∙ (rw z (read_free {A = Unit {0}} (given tt) σ tt σ.offset w refl))

pub pass_goes_on : (read : Meaning (Unit {0})) (whole : Option (Unit {0} × State)) (n m : ℕ) (σ τ : State) → whole ≡ decoded false (passes read n) σ → n ≡ suc m → decoded false read σ ≡ Some (tt, τ) → whole ≡ decoded false (passes read m) τ
pass_goes_on read whole n m σ τ h e k = h ∙ (rw e (passes_step read m σ ∙ rw k refl))

pub pass_stops : (read : Meaning (Unit {0})) (whole : Option (Unit {0} × State)) (n m : ℕ) (σ : State) → whole ≡ decoded false (passes read n) σ → n ≡ suc m → decoded false read σ ≡ None → whole ≡ None
pass_stops read whole n m σ h e k = h ∙ (rw e (passes_step read m σ ∙ rw k refl))

inline_kept_by : (σ τ : State) (header : Header) (o : Option (Option Charges)) → ((left : Option Charges) → o ≡ Some left → NoneBack σ.budget left) → (o >>= λ left. Some (inside σ header left)) ≡ Some (tt, τ) → Kept σ τ
inline_kept_by σ τ header None k h = absurd (cc)
inline_kept_by σ τ header (Some left) k h = let p : ◌≡◌ {A = Unit {0} × State} (inside σ header left) (tt, τ) = cc in subst (λ (x : Unit {0} × State). Kept σ x.1) p (record { section = refl; levels = refl; charges = k left refl })

pub inline_kept : (σ τ : State) (header : Header) (parts : ℕ) → entered_inline σ header parts ≡ Some (tt, τ) → Kept σ τ
unfolding entered_inline
inline_kept σ τ header parts h = inline_kept_by σ τ header (spent_of σ.budget parts 0) (some_back false σ.budget parts 0) h

pub plain_takes : {E : Type 0} (n : ℕ) (σ τ : State) (header : Header) (r : Result (Unit {0}) E) → Within σ.budget → header_at σ.section σ.offset ≡ Some header → parts_of header ≡ None → Takes (λ x. tt) (scalar_passed σ header) σ τ r → Takes (λ x. tt) (decoded false (skip_within n) σ) σ τ r
plain_takes n σ τ header (Ok x) w h k e = skip_plain n σ header w h k ∙ e
plain_takes n σ τ header (Err x) w h k e = (e.0, skip_plain n σ header w h k ∙ e.1)

pub parts_are : (n m : ℕ) (σ τ : State) (header : Header) (parts : ℕ) → n ≡ suc m → header_at σ.section σ.offset ≡ Some header → parts_of header ≡ Some parts → entered_inline σ header parts ≡ Some (tt, τ) → decoded false (skip_within n) σ ≡ decoded false (passes (skip_within m) parts) τ
parts_are n m σ τ header parts z h k e = rw z (skip_parts m σ header parts h k ∙ rw e refl)

pub parts_no : (n m : ℕ) (σ : State) (header : Header) (parts : ℕ) → n ≡ suc m → header_at σ.section σ.offset ≡ Some header → parts_of header ≡ Some parts → entered_inline σ header parts ≡ None → decoded false (skip_within n) σ ≡ None
parts_no n m σ header parts z h k e = rw z (skip_parts m σ header parts h k ∙ rw e refl)

-- a skip from the start begins a budget
abbrev pub begins : State → State
begins σ = record { section = σ.section; offset = σ.offset; levels = σ.levels; budget = begun true σ.budget }

begins_settled : {A : Type 0} (σ : State) (r : Reading A) (o : Option (Option Charges)) → settled σ r o ≡ settled (begins σ) r o
begins_settled σ r None = refl
begins_settled σ r (Some left) = refl

begins_by : {A : Type 0} (σ : State) (budget : Option Charges) (o : Option (Reading A)) → (o >>= after σ budget) ≡ (o >>= after (begins σ) budget)
begins_by σ budget None = refl
begins_by σ budget (Some r) = begins_settled σ r (spent_of budget r.values r.bytes)

pub decoded_begins : {A : Type 0} (read : Meaning A) (σ : State) → decoded true read σ ≡ decoded false read (begins σ)
unfolding decoded
decoded_begins {A = A} read σ = begins_by {A = A} σ (begun true σ.budget) (read σ.section σ.offset σ.levels)

begins_back : (σ : State) (budget : Option Charges) → NoneBack budget (begun true budget)
begins_back σ None = tt
begins_back σ (Some c) = none_back (Some c)

pub begins_kept : (σ : State) → Kept σ (begins σ)
begins_kept σ = record { section = refl; levels = refl; charges = begins_back σ σ.budget }

pub skip_read : (read : Meaning (Unit {0})) (σ τ ρ : State) → τ ≡ begins σ → decoded false read τ ≡ Some (tt, ρ) → decoded true read σ ≡ Some (tt, ρ)
skip_read read σ τ ρ e h = decoded_begins read σ ∙ (rw (← e) h)

pub skip_rejected : (read : Meaning (Unit {0})) (σ τ ρ : State) → τ ≡ begins σ → decoded false read τ ≡ None → GivenUp τ ρ → GivenUp σ ρ × (decoded true read σ ≡ None)
skip_rejected read σ τ ρ e h g = (given_up_trans σ (begins σ) ρ (begins_kept σ) (rw e at g), decoded_begins read σ ∙ (rw (← e) h))

-- a budget that had begun has still begun
pub skip_begun : {E : Type 0} (σ τ : State) (r : Result (Unit {0}) E) → Takes (λ x. tt) (decoded true skip_at σ) σ τ r → IsSome σ.budget → IsSome τ.budget
skip_begun σ τ (Ok x) h s = still_begun σ.budget τ.budget (kept_decoded true skip_at σ τ tt h).charges s
skip_begun σ τ (Err e) h s = still_begun σ.budget τ.budget h.0.charges s

pub begun_there : (budget : Option Charges) → IsSome budget → ((x : Charges) → budget ≡ Some x → ⊥) → ⊥
begun_there None s n = absurd (cc)
begun_there (Some x) s n = n x refl

-- a scalar is passed, however deep containers may nest
pub scalar_skipped : (n : ℕ) (s : List ℕ) (p levels next : ℕ) (header : Header) → header_at s p ≡ Some header → parts_of header ≡ None → passed_end s header ≡ Some next → skip_within n s p levels ≡ Some (free_of_charge (tt, next))
unfolding skip_within
scalar_skipped zero s p levels next header h k e = rw (h, k, e) refl
scalar_skipped (suc n) s p levels next header h k e = rw (h, k, e) refl

pub scalar_left : (σ : State) (next : ℕ) → Within σ.budget → IsSome σ.budget → skip_at σ.section σ.offset σ.levels ≡ Some (free_of_charge (tt, next)) → decoded true skip_at σ ≡ Some (tt, record { section = σ.section; offset = next; levels = σ.levels; budget = σ.budget })
scalar_left σ next w s h = decoded_begun true skip_at σ s ∙ read_free skip_at σ tt next w h
