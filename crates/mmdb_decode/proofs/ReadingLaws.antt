-- How readings follow one another.
use Rattle.std.proofs.Common.{◌≡◌, ℕ, suc, ◌+◌, List, ◌∷◌, Option, Some, None, Bool, true, false, option_map, refl, sym, ap, ◌∙◌, arith, add_assoc, zero-add}
use Rattle.std.proofs.lemmas.Bool.Decides.{nat_tests}
use Rattle.mmdb_format.specs.Header.{◌>>=◌}
use Rattle.mmdb_decode.specs.Arrays.{elements, list_at, entered_array, left_array, array_at, whole_array}
use Rattle.mmdb_decode.specs.Reading.{Reading, Meaning, plus, followed, mapped, checked}
use Rattle.mmdb_decode.specs.State.{State, charged, spent_of, begun, settled, after, decoded}
use Rattle.mmdb_decode.specs.declared.budget.Charges.{Charges}
use Rattle.mmdb_decode.specs.declared.items.Items.{Items}
use Rattle.mmdb_decode.specs.declared.direct.Entered.{Entered}

-- charging twice is charging the sums
pub charged-plus : (c : Charges) (v w a b : ℕ) → charged c (v + w) (a + b) ≡ (charged c v a >>= λ d. charged d w b)
charged-plus c v w a b = rw (← add_assoc c.values v w, ← add_assoc c.bytes a b) (grind (arith, nat_tests))

pub charged-more : (c : Charges) (v w b : ℕ) → charged c (v + w) b ≡ (charged c v 0 >>= λ d. charged d w b)
charged-more c v w b = ap (λ x. charged c (v + w) x) (sym (zero-add b)) ∙ charged-plus c v w 0 b

settled_none : {A B : Type 0} (σ : State) (x : Reading A) (o : Option Charges) → ◌≡◌ {A = Option (B × State)} None (settled σ x (option_map Some o) >>= λ z. None)
settled_none σ x None = refl
settled_none σ x (Some d) = refl

settled_some : {A B : Type 0} (σ : State) (x : Reading A) (y : Reading B) (o : Option Charges) → settled σ (plus x y) (option_map Some (o >>= λ d. charged d y.values y.bytes)) ≡ (settled σ x (option_map Some o) >>= λ z. after z.1 z.1.budget y)
settled_some σ x y None = refl
settled_some σ x y (Some d) = refl

pub after-plus : {A B : Type 0} (σ : State) (budget : Option Charges) (x : Reading A) (o : Option (Reading B)) → ((o >>= λ y. Some (plus x y)) >>= after σ budget) ≡ (after σ budget x >>= λ z. o >>= after z.1 z.1.budget)
after-plus σ None x None = refl
after-plus σ None x (Some y) = refl
after-plus {B = B} σ (Some c) x None = settled_none {B = B} σ x (charged c x.values x.bytes)
after-plus σ (Some c) x (Some y) = rw (charged-plus c x.values y.values x.bytes y.bytes) (settled_some σ x y (charged c x.values x.bytes))

same_after : {A B : Type 0} (g : A → Meaning B) (σ : State) (x : Reading A) (o : Option (Option Charges)) → (settled σ x o >>= λ z. g x.value σ.section x.next σ.levels >>= after z.1 z.1.budget) ≡ (settled σ x o >>= λ z. decoded false (g z.0) z.1)
unfolding decoded
same_after g σ x None = refl
same_after g σ x (Some left) = refl

-- a reading after a reading, where the first has these outcomes
followed_by : {A B : Type 0} (g : A → Meaning B) (σ : State) (o : Option (Reading A)) → ((o >>= λ x. g x.value σ.section x.next σ.levels >>= λ y. Some (plus x y)) >>= after σ σ.budget) ≡ ((o >>= after σ σ.budget) >>= λ x. decoded false (g x.0) x.1)
unfolding decoded
followed_by g σ None = refl
followed_by g σ (Some x) = after-plus σ σ.budget x (g x.value σ.section x.next σ.levels) ∙ same_after g σ x (spent_of σ.budget x.values x.bytes)

-- a reading after a reading, in any state
pub decoded-followed : {A B : Type 0} → (f : Meaning A) (g : A → Meaning B) (σ : State) → decoded false (followed f g) σ ≡ (decoded false f σ >>= λ x. decoded false (g x.0) x.1)
unfolding decoded
decoded-followed f g σ = followed_by g σ (f σ.section σ.offset σ.levels)

-- a datum that is seen through a function
abbrev pub seen : {A B : Type 0} → (A → B) → Option (A × State) → Option (B × State)
seen f None = None
seen f (Some x) = Some (f x.0, x.1)

seen_settled : {A B : Type 0} (f : A → B) (σ : State) (r : Reading A) (o : Option (Option Charges)) → settled σ (record { value = f r.value; next = r.next; values = r.values; bytes = r.bytes }) o ≡ seen f (settled σ r o)
seen_settled f σ r None = refl
seen_settled f σ r (Some left) = refl

seen_after : {A B : Type 0} (f : A → B) (σ : State) (budget : Option Charges) (o : Option (Reading A)) → ((o >>= λ r. Some (record { value = f r.value; next = r.next; values = r.values; bytes = r.bytes })) >>= after σ budget) ≡ seen f (o >>= after σ budget)
seen_after f σ budget None = refl
seen_after f σ budget (Some r) = seen_settled f σ r (spent_of budget r.values r.bytes)

pub decoded-mapped : {A B : Type 0} (starts : Bool) (f : A → B) (read : Meaning A) (σ : State) → decoded starts (mapped f read) σ ≡ seen f (decoded starts read σ)
unfolding decoded
decoded-mapped starts f read σ = seen_after f σ (begun starts σ.budget) (read σ.section σ.offset σ.levels)

pub none_seen : {A B : Type 0} (f : A → B) (r : Option (A × State)) → r ≡ None → seen f r ≡ None
none_seen f r h = rw h refl

more_elements : {A : Type 0} (read : Meaning A) (n : ℕ) (o : Option (A × State)) → (o >>= λ x. decoded false (mapped (λ vs. x.0 ∷ vs) (elements read n)) x.1) ≡ (o >>= λ x. seen (λ vs. x.0 ∷ vs) (decoded false (elements read n) x.1))
more_elements read n None = refl
more_elements read n (Some x) = decoded-mapped false (λ vs. x.0 ∷ vs) (elements read n) x.1

-- one element, and the others
pub decoded-elements : {A : Type 0} (read : Meaning A) (n : ℕ) (σ : State) → decoded false (elements read (suc n)) σ ≡ (decoded false read σ >>= λ x. seen (λ vs. x.0 ∷ vs) (decoded false (elements read n) x.1))
decoded-elements read n σ = decoded-followed read (λ v. mapped (λ vs. v ∷ vs) (elements read n)) σ ∙ more_elements read n (decoded false read σ)

abbrev pub list_end : {A : Type 0} → Items → Option (A × State) → Option (A × State)
list_end items None = None
list_end items (Some y) = Some (y.0, left_array items y.1)

abbrev pub items_of : State → Entered → Items
items_of σ at = record { remaining = at.count; after = at.after; levels = σ.levels }

abbrev pub inside_of : State → Entered → Option Charges → State
inside_of σ at left = record { section = σ.section; offset = at.body; levels = at.levels; budget = left }

abbrev pub entry : State → Entered → Option Charges → Items × State
entry σ at left = (items_of σ at, inside_of σ at left)

list_left : {A : Type 0} (σ : State) (at : Entered) (r : Reading (List A)) (left : Option Charges) (o : Option Charges) → settled σ (whole_array at r) (option_map Some o) ≡ list_end (items_of σ at) (settled (inside_of σ at left) r (option_map Some o))
list_left σ at r left None = refl
list_left σ at r left (Some d) = refl

list_charged : {A : Type 0} (σ : State) (at : Entered) (r : Reading (List A)) (o : Option Charges) → settled σ (whole_array at r) (option_map Some (o >>= λ d. charged d r.values r.bytes)) ≡ ((option_map Some o >>= λ left. Some (entry σ at left)) >>= λ x. list_end x.0 (after x.1 x.1.budget r))
list_charged σ at r None = refl
list_charged σ at r (Some d) = list_left σ at r (Some d) (charged d r.values r.bytes)

list_nothing : {A : Type 0} (σ : State) (at : Entered) (o : Option (Option Charges)) → ◌≡◌ {A = Option (List A × State)} None ((o >>= λ left. Some (entry σ at left)) >>= λ x. None)
list_nothing σ at None = refl
list_nothing σ at (Some left) = refl

list_budget : {A : Type 0} (σ : State) (at : Entered) (budget : Option Charges) (o : Option (Reading (List A))) → ((o >>= λ r. Some (whole_array at r)) >>= after σ budget) ≡ ((spent_of budget at.count 0 >>= λ left. Some (entry σ at left)) >>= λ x. list_end x.0 (o >>= after x.1 x.1.budget))
list_budget {A = A} σ at budget None = list_nothing {A = A} σ at (spent_of budget at.count 0)
list_budget σ at None (Some r) = refl
list_budget σ at (Some c) (Some r) = rw (charged-more c at.count r.values r.bytes) (list_charged σ at r (charged c at.count 0))

same_entered : {A : Type 0} (read : Meaning A) (σ : State) (at : Entered) (o : Option (Option Charges)) → ((o >>= λ left. Some (entry σ at left)) >>= λ x. list_end x.0 (elements read at.count σ.section at.body at.levels >>= after x.1 x.1.budget)) ≡ ((o >>= λ left. Some (entry σ at left)) >>= λ x. list_end x.0 (decoded false (elements read x.0.remaining) x.1))
unfolding decoded
same_entered read σ at None = refl
same_entered read σ at (Some left) = refl

list_entered : {A : Type 0} (read : Meaning A) (σ : State) (o : Option Entered) → ((o >>= λ at. elements read at.count σ.section at.body at.levels >>= λ r. Some (whole_array at r)) >>= after σ (begun true σ.budget)) ≡ ((o >>= λ at. spent_of (begun true σ.budget) at.count 0 >>= λ left. Some (entry σ at left)) >>= λ x. list_end x.0 (decoded false (elements read x.0.remaining) x.1))
unfolding decoded
list_entered read σ None = refl
list_entered read σ (Some at) = list_budget σ (at) (begun true σ.budget) (elements read at.count σ.section at.body at.levels) ∙ same_entered read σ at (spent_of (begun true σ.budget) at.count 0)

-- a list: its header, its elements, its end
pub decoded-list : {A : Type 0} (read : Meaning A) (σ : State) → decoded true (list_at read) σ ≡ (entered_array σ >>= λ x. list_end x.0 (decoded false (elements read x.0.remaining) x.1))
unfolding decoded list_at entered_array
decoded-list read σ = list_entered read σ (array_at σ.section σ.offset σ.levels)

-- a value that is tested
abbrev pub closing : {R : Type 0} → State → Option R → Option (R × State)
closing τ None = None
closing τ (Some v) = Some (v, τ)

checked_by : {P R : Type 0} (f : P → Option R) (σ : State) (r : Reading P) (o : Option R) (left : Option (Option Charges)) → ((o >>= λ v. Some (record { value = v; next = r.next; values = r.values; bytes = r.bytes })) >>= λ x. settled σ x left) ≡ (settled σ r left >>= λ x. closing x.1 o)
checked_by f σ r None None = refl
checked_by f σ r None (Some left) = refl
checked_by f σ r (Some v) None = refl
checked_by f σ r (Some v) (Some left) = refl

checked_value : {P R : Type 0} (f : P → Option R) (σ : State) (budget : Option Charges) (r : Reading P) (o : Option R) → ((o >>= λ v. Some (record { value = v; next = r.next; values = r.values; bytes = r.bytes })) >>= after σ budget) ≡ (settled σ r (spent_of budget r.values r.bytes) >>= λ x. closing x.1 o)
checked_value f σ budget r None = checked_by f σ r None (spent_of budget r.values r.bytes)
checked_value f σ budget r (Some v) = checked_by f σ r (Some v) (spent_of budget r.values r.bytes)

checked_same : {P R : Type 0} (f : P → Option R) (σ : State) (r : Reading P) (left : Option (Option Charges)) → (settled σ r left >>= λ x. closing x.1 (f r.value)) ≡ (settled σ r left >>= λ x. closing x.1 (f x.0))
checked_same f σ r None = refl
checked_same f σ r (Some left) = refl

checked_reading : {P R : Type 0} (f : P → Option R) (σ : State) (budget : Option Charges) (o : Option (Reading P)) → ((o >>= λ r. f r.value >>= λ v. Some (record { value = v; next = r.next; values = r.values; bytes = r.bytes })) >>= after σ budget) ≡ ((o >>= after σ budget) >>= λ x. closing x.1 (f x.0))
checked_reading f σ budget None = refl
checked_reading f σ budget (Some r) = checked_value f σ budget r (f r.value) ∙ checked_same f σ r (spent_of budget r.values r.bytes)

pub decoded-checked : {P R : Type 0} (starts : Bool) (f : P → Option R) (read : Meaning P) (σ : State) → decoded starts (checked f read) σ ≡ (decoded starts read σ >>= λ x. closing x.1 (f x.0))
unfolding decoded
decoded-checked starts f read σ = checked_reading f σ (begun starts σ.budget) (read σ.section σ.offset σ.levels)

pub checked_ok : {P R : Type 0} (starts : Bool) (f : P → Option R) (read : Meaning P) (σ τ : State) (p : P) (v : R) → decoded starts read σ ≡ Some (p, τ) → f p ≡ Some v → decoded starts (checked f read) σ ≡ Some (v, τ)
checked_ok starts f read σ τ p v h k = decoded-checked starts f read σ ∙ rw (h, k) refl

pub checked_missing : {P R : Type 0} (starts : Bool) (f : P → Option R) (read : Meaning P) (σ τ : State) (p : P) → decoded starts read σ ≡ Some (p, τ) → f p ≡ None → decoded starts (checked f read) σ ≡ None
checked_missing starts f read σ τ p h k = decoded-checked starts f read σ ∙ rw (h, k) refl

pub checked_none : {P R : Type 0} (starts : Bool) (f : P → Option R) (read : Meaning P) (σ : State) → decoded starts read σ ≡ None → decoded starts (checked f read) σ ≡ None
checked_none starts f read σ h = decoded-checked starts f read σ ∙ rw h refl

-- a value that another represents
pub mapped_ok : {P R : Type 0} (starts : Bool) (f : P → R) (read : Meaning P) (σ τ : State) (v : P) → decoded starts read σ ≡ Some (v, τ) → decoded starts (mapped f read) σ ≡ Some (f v, τ)
mapped_ok starts f read σ τ v h = decoded-mapped starts f read σ ∙ ap (seen f) h

pub mapped_none : {P R : Type 0} (starts : Bool) (f : P → R) (read : Meaning P) (σ : State) → decoded starts read σ ≡ None → decoded starts (mapped f read) σ ≡ None
mapped_none starts f read σ h = decoded-mapped starts f read σ ∙ ap (seen f) h
