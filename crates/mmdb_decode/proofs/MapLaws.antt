-- Maps, pair by pair.
use Rattle.mmdb_format.specs.Contents.{key_bytes_at}
use Rattle.mmdb_format.specs.Header.{◌>>=◌}
use Rattle.mmdb_decode.specs.Maps.{map_at, whole_map, in_map, entered_map, left_map, Fields, pairs_from, key_past}
use Rattle.mmdb_decode.specs.Reading.{Reading, Meaning, given, followed}
use Rattle.mmdb_decode.specs.Errors.{Kept}
use Rattle.mmdb_decode.specs.State.{State, charged, spent_of, begun, settled, after, decoded, Within, NoneBack, GivenUp}
use Rattle.std.proofs.Common.{◌≡◌, ℕ, suc, ◌+◌, ◌*◌, ◌-◌, ◌<◌, List, length, Option, Some, None, true, false, option_map, refl, ap, ◌∙◌, arith, add-one, subst, IsSome}
use Rattle.mmdb_decode.specs.declared.budget.Charges.{Charges}
use Rattle.mmdb_decode.specs.declared.items.Entries.{Entries}
use Rattle.mmdb_decode.specs.declared.direct.Entered.{Entered}
use Rattle.mmdb_decode.proofs.StepLaws.{state, read_free, some_back, back_trans}
use Rattle.mmdb_decode.proofs.ReadingLaws.{charged-more, decoded-followed}

abbrev pub map_end : {A : Type 0} → Entries → Option (A × State) → Option (A × State)
map_end entries None = None
map_end entries (Some y) = Some (y.0, left_map entries y.1)

abbrev entries_of : State → Entered → Entries
entries_of σ at = record { remaining = at.count; after = at.after; levels = σ.levels }

abbrev inside_of : State → Entered → Option Charges → State
inside_of σ at left = record { section = σ.section; offset = at.body; levels = at.levels; budget = left }

abbrev entry : State → Entered → Option Charges → Entries × State
entry σ at left = (entries_of σ at, inside_of σ at left)

map_left : {A : Type 0} (σ : State) (at : Entered) (r : Reading A) (left : Option Charges) (o : Option Charges) → settled σ (whole_map at r) (option_map Some o) ≡ map_end (entries_of σ at) (settled (inside_of σ at left) r (option_map Some o))
map_left σ at r left None = refl
map_left σ at r left (Some d) = refl

map_charged : {A : Type 0} (σ : State) (at : Entered) (r : Reading A) (o : Option Charges) → settled σ (whole_map at r) (option_map Some (o >>= λ d. charged d r.values r.bytes)) ≡ ((option_map Some o >>= λ left. Some (entry σ at left)) >>= λ x. map_end x.0 (after x.1 x.1.budget r))
map_charged σ at r None = refl
map_charged σ at r (Some d) = map_left σ at r (Some d) (charged d r.values r.bytes)

map_nothing : {A : Type 0} (σ : State) (at : Entered) (o : Option (Option Charges)) → ◌≡◌ {A = Option (A × State)} None ((o >>= λ left. Some (entry σ at left)) >>= λ x. None)
map_nothing σ at None = refl
map_nothing σ at (Some left) = refl

map_budget : {A : Type 0} (σ : State) (at : Entered) (budget : Option Charges) (o : Option (Reading A)) → ((o >>= λ r. Some (whole_map at r)) >>= after σ budget) ≡ ((spent_of budget (2 * at.count) 0 >>= λ left. Some (entry σ at left)) >>= λ x. map_end x.0 (o >>= after x.1 x.1.budget))
map_budget {A = A} σ at budget None = map_nothing {A = A} σ at (spent_of budget (2 * at.count) 0)
map_budget σ at None (Some r) = refl
map_budget σ at (Some c) (Some r) = rw (charged-more c (2 * at.count) r.values r.bytes) (map_charged σ at r (charged c (2 * at.count) 0))

same_entered : {A : Type 0} (pairs : ℕ → Meaning A) (σ : State) (at : Entered) (o : Option (Option Charges)) → ((o >>= λ left. Some (entry σ at left)) >>= λ x. map_end x.0 (pairs at.count σ.section at.body at.levels >>= after x.1 x.1.budget)) ≡ ((o >>= λ left. Some (entry σ at left)) >>= λ x. map_end x.0 (decoded false (pairs x.0.remaining) x.1))
unfolding decoded
same_entered pairs σ at None = refl
same_entered pairs σ at (Some left) = refl

map_entered : {A : Type 0} (pairs : ℕ → Meaning A) (σ : State) (o : Option Entered) → ((o >>= λ at. pairs at.count σ.section at.body at.levels >>= λ r. Some (whole_map at r)) >>= after σ (begun true σ.budget)) ≡ ((o >>= λ at. spent_of (begun true σ.budget) (2 * at.count) 0 >>= λ left. Some (entry σ at left)) >>= λ x. map_end x.0 (decoded false (pairs x.0.remaining) x.1))
unfolding decoded
map_entered pairs σ None = refl
map_entered pairs σ (Some at) = map_budget σ (at) (begun true σ.budget) (pairs at.count σ.section at.body at.levels) ∙ same_entered pairs σ at (spent_of (begun true σ.budget) (2 * at.count) 0)

-- a map: its header, its pairs, its end
pub decoded-in_map : {A : Type 0} (pairs : ℕ → Meaning A) (σ : State) → decoded true (in_map pairs) σ ≡ (entered_map σ >>= λ x. map_end x.0 (decoded false (pairs x.0.remaining) x.1))
unfolding decoded in_map entered_map
decoded-in_map pairs σ = map_entered pairs σ (map_at σ.section σ.offset σ.levels)

-- the steps of entering
pub map_none : (σ : State) → map_at σ.section σ.offset σ.levels ≡ None → entered_map σ ≡ None
unfolding entered_map
map_none σ h = rw h refl

pub map_past : (σ : State) (at : Entered) → map_at σ.section σ.offset σ.levels ≡ Some at → spent_of (begun true σ.budget) (2 * at.count) 0 ≡ None → entered_map σ ≡ None
unfolding entered_map
map_past σ at h k = rw (h, k) refl

pub map_in : (σ : State) (at : Entered) (left : Option Charges) → map_at σ.section σ.offset σ.levels ≡ Some at → spent_of (begun true σ.budget) (2 * at.count) 0 ≡ Some left → entered_map σ ≡ Some (record { remaining = at.count; after = at.after; levels = σ.levels }, state σ.section at.body at.levels left)
unfolding entered_map
map_in σ at left h k = rw (h, k) refl

-- what entering a map keeps
pub record Enters (σ τ : State) (entries : Entries) : Type 0 where
  pub section : τ.section ≡ σ.section
  pub levels : entries.levels ≡ σ.levels
  pub charges : NoneBack σ.budget τ.budget
  pub started : IsSome τ.budget

some_left : (o : Option Charges) (left : Option Charges) → option_map Some o ≡ Some left → IsSome left
some_left None left h = absurd (cc)
some_left (Some c) left h = let e : Some c ≡ left = cc in subst (λ l. IsSome l) e refl

started_by : (b : Option Charges) (v w : ℕ) (left : Option Charges) → spent_of (begun true b) v w ≡ Some left → IsSome left
started_by None v w left h = some_left (charged (record { values = 1; bytes = 0 }) v w) left h
started_by (Some c) v w left h = some_left (charged c v w) left h

enters_left : (σ τ : State) (entries : Entries) (at : Entered) (o : Option (Option Charges)) → ((left : Option Charges) → o ≡ Some left → NoneBack σ.budget left × IsSome left) → (o >>= λ left. Some (entry σ at left)) ≡ Some (entries, τ) → Enters σ τ entries
enters_left σ τ entries at None k h = absurd (cc)
enters_left σ τ entries at (Some left) k h = let p : ◌≡◌ {A = Entries × State} (entry σ at left) (entries, τ) = cc in subst (λ (x : Entries × State). Enters σ x.1 x.0) p (record { section = refl; levels = refl; charges = (k left refl).0; started = (k left refl).1 })

enters_by : (σ τ : State) (entries : Entries) (o : Option Entered) → (o >>= λ at. spent_of (begun true σ.budget) (2 * at.count) 0 >>= λ left. Some (entry σ at left)) ≡ Some (entries, τ) → Enters σ τ entries
enters_by σ τ entries None h = absurd (cc)
enters_by σ τ entries (Some at) h = enters_left σ τ entries at (spent_of (begun true σ.budget) (2 * at.count) 0) (λ left e. (some_back true σ.budget (2 * at.count) 0 left e, started_by σ.budget (2 * at.count) 0 left e)) h

pub enters_map : (σ τ : State) (entries : Entries) → entered_map σ ≡ Some (entries, τ) → Enters σ τ entries
unfolding entered_map
enters_map σ τ entries h = enters_by σ τ entries (map_at σ.section σ.offset σ.levels) h

-- a key that is read
pub key_none : (free : ℕ) (σ : State) → key_bytes_at σ.section σ.offset ≡ None → decoded false (key_past free) σ ≡ None
unfolding key_past decoded
key_none free σ h = rw h refl

pub key_step : (free : ℕ) (σ : State) (key : List ℕ × ℕ) (left : Option Charges) → key_bytes_at σ.section σ.offset ≡ Some key → spent_of σ.budget 0 (length key.0 - free) ≡ Some left → decoded false (key_past free) σ ≡ Some (key.0, state σ.section key.1 σ.levels left)
unfolding key_past decoded
key_step free σ key left h k = rw (h, k) refl

pub key_over : (free : ℕ) (σ : State) (key : List ℕ × ℕ) → key_bytes_at σ.section σ.offset ≡ Some key → spent_of σ.budget 0 (length key.0 - free) ≡ None → decoded false (key_past free) σ ≡ None
unfolding key_past decoded
key_over free σ key h k = rw (h, k) refl

-- pairs, one after the other
pub pairs_done : {P : Type 0} (key : Meaning (List ℕ)) (fields : Fields P) (whole : Option (P × State)) (p : P) (n : ℕ) (σ τ : State) → whole ≡ decoded false (pairs_from key fields p n) σ → n ≡ 0 → τ ≡ σ → Within τ.budget → whole ≡ Some (p, τ)
pairs_done key fields whole p n σ τ h z e w = h ∙ (rw (z, ← e) (read_free (given p) τ p τ.offset w refl))

pairs_inner : {P : Type 0} (key : Meaning (List ℕ)) (fields : Fields P) (p : P) (n : ℕ) (o : Option (List ℕ × State)) → (o >>= λ x. decoded false (followed (fields p x.0) (λ q. pairs_from key fields q n)) x.1) ≡ (o >>= λ x. decoded false (fields p x.0) x.1 >>= λ y. decoded false (pairs_from key fields y.0 n) y.1)
pairs_inner key fields p n None = refl
pairs_inner key fields p n (Some x) = decoded-followed (fields p x.0) (λ q. pairs_from key fields q n) x.1

pub pairs_step : {P : Type 0} (key : Meaning (List ℕ)) (fields : Fields P) (p : P) (n : ℕ) (σ : State) → decoded false (pairs_from key fields p (suc n)) σ ≡ (decoded false key σ >>= λ x. decoded false (fields p x.0) x.1 >>= λ y. decoded false (pairs_from key fields y.0 n) y.1)
pairs_step key fields p n σ = decoded-followed key (λ name. followed (fields p name) (λ q. pairs_from key fields q n)) σ ∙ pairs_inner key fields p n (decoded false key σ)

-- one more pair was read
pub pairs_go_on : {P : Type 0} (key : Meaning (List ℕ)) (fields : Fields P) (whole : Option (P × State)) (p q : P) (name : List ℕ) (n m : ℕ) (σ τ ρ : State) → whole ≡ decoded false (pairs_from key fields p n) σ → n ≡ m + 1 → decoded false key σ ≡ Some (name, τ) → decoded false (fields p name) τ ≡ Some (q, ρ) → whole ≡ decoded false (pairs_from key fields q m) ρ
pairs_go_on key fields whole p q name n m σ τ ρ h e k v = h ∙ (rw (e, add-one) (pairs_step key fields p m σ ∙ rw (k, v) refl))

-- its value isn't there
pub pairs_stop : {P : Type 0} (key : Meaning (List ℕ)) (fields : Fields P) (whole : Option (P × State)) (p : P) (name : List ℕ) (n m : ℕ) (σ τ : State) → whole ≡ decoded false (pairs_from key fields p n) σ → n ≡ m + 1 → decoded false key σ ≡ Some (name, τ) → decoded false (fields p name) τ ≡ None → whole ≡ None
pairs_stop key fields whole p name n m σ τ h e k v = h ∙ (rw (e, add-one) (pairs_step key fields p m σ ∙ rw (k, v) refl))

-- its key isn't there
pub pairs_nameless : {P : Type 0} (key : Meaning (List ℕ)) (fields : Fields P) (whole : Option (P × State)) (p : P) (n m : ℕ) (σ : State) → whole ≡ decoded false (pairs_from key fields p n) σ → n ≡ suc m → decoded false key σ ≡ None → whole ≡ None
pairs_nameless key fields whole p n m σ h e k = h ∙ (rw e (pairs_step key fields p m σ ∙ rw k refl))

-- a record: its header, its fields, its end
pub map_read : {A : Type 0} (pairs : ℕ → Meaning A) (σ τ ρ π : State) (entries spent : Entries) (v : A) → entered_map σ ≡ Some (entries, τ) → decoded false (pairs entries.remaining) τ ≡ Some (v, ρ) → spent ≡ record entries { remaining = spent.remaining } → π ≡ left_map spent ρ → decoded true (in_map pairs) σ ≡ Some (v, π)
map_read pairs σ τ ρ π entries spent v h k s e = decoded-in_map pairs σ ∙ rw (h, k, e, s) refl

pub map_not_entered : {A : Type 0} (pairs : ℕ → Meaning A) (σ : State) → entered_map σ ≡ None → decoded true (in_map pairs) σ ≡ None
map_not_entered pairs σ h = decoded-in_map pairs σ ∙ rw h refl

pub map_not_read : {A : Type 0} (pairs : ℕ → Meaning A) (σ τ : State) (entries : Entries) → entered_map σ ≡ Some (entries, τ) → decoded false (pairs entries.remaining) τ ≡ None → decoded true (in_map pairs) σ ≡ None
map_not_read pairs σ τ entries h k = decoded-in_map pairs σ ∙ rw (h, k) refl

pub kept_map : (σ τ ρ π : State) (entries spent : Entries) → Enters σ τ entries → Kept τ ρ → spent ≡ record entries { remaining = spent.remaining } → π ≡ left_map spent ρ → Kept σ π
kept_map σ τ ρ π entries spent h k s e = rw (e, s) (record { section = k.section ∙ h.section; levels = h.levels; charges = back_trans σ.budget τ.budget ρ.budget h.charges k.charges })

pub given_up_map : (σ τ ρ π : State) (entries : Entries) (levels : ℕ) → Enters σ τ entries → GivenUp τ ρ → π ≡ record ρ { levels = levels } → GivenUp σ π
given_up_map σ τ ρ π entries levels h k e = rw e (record { section = k.section ∙ h.section; charges = back_trans σ.budget τ.budget ρ.budget h.charges k.charges })

-- a map that is given up on its own levels
pub given_up_in_map : (σ τ ρ : State) (entries : Entries) → Enters σ τ entries → GivenUp τ ρ → GivenUp σ ρ
given_up_in_map σ τ ρ entries h k = record { section = k.section ∙ h.section; charges = back_trans σ.budget τ.budget ρ.budget h.charges k.charges }

pub some_left_to_read : (n : ℕ) → 0 < n → n ≡ suc (n - 1)
some_left_to_read n h = omega arith

pub same_entries : (a b c : Entries) → b ≡ record a { remaining = b.remaining } → c ≡ record b { remaining = c.remaining } → c ≡ record a { remaining = c.remaining }
same_entries a b c h k = k ∙ ap (λ (i : Entries). record i { remaining = c.remaining }) h
