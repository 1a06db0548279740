-- A list that is read element by element.
use Rattle.std.proofs.Common.{◌≡◌, ℕ, ◌+◌, ◌≤◌, ◌<◌, List, [], ◌∷◌, ◌++◌, map, Option, Some, None, Bool, true, false, nat_le, nat_eq, option_map, refl, sym, ap, ◌∙◌, arith, add-one, append_assoc, append-nil, subst, IsSome}
use Rattle.std.proofs.lemmas.List.{map-append}
use Rattle.std.proofs.lemmas.Bool.Decides.{nat_tests}
use Rattle.mmdb_format.specs.Header.{◌>>=◌}
use Rattle.mmdb_decode.specs.Arrays.{elements, list_at, entered_array, left_array, array_at, few_at, if_sized, entered_array_of}
use Rattle.mmdb_decode.specs.Reading.{Meaning, given}
use Rattle.mmdb_decode.specs.Errors.{Kept}
use Rattle.mmdb_decode.specs.State.{State, charged, spent_of, begun, decoded, Within, NoneBack, GivenUp}
use Rattle.mmdb_decode.specs.declared.budget.Charges.{Charges}
use Rattle.mmdb_decode.specs.declared.items.Items.{Items}
use Rattle.mmdb_decode.specs.declared.direct.Entered.{Entered}
use Rattle.mmdb_decode.proofs.ReadingLaws.{seen, decoded-elements, decoded-list, entry}
use Rattle.mmdb_decode.proofs.StepLaws.{read_free, decoded_begun, some_back, back_trans}

given_here : {A : Type 0} (v : A) (σ : State) → Within σ.budget → decoded false (given v) σ ≡ Some (v, σ)
given_here v σ w = read_free (given v) σ v σ.offset w refl

-- nothing is left
pub list_done : {A : Type 0} (read : Meaning A) (whole : Option (List A × State)) (xs : List A) (n : ℕ) (σ τ : State) → whole ≡ seen (λ vs. xs ++ vs) (decoded false (elements read n) σ) → n ≡ 0 → τ ≡ σ → Within τ.budget → whole ≡ Some (xs, τ)
list_done {A = A} read whole xs n σ τ h z e w =
    let left : decoded false (elements read n) σ ≡ Some ([], τ) = rw (z, ← e) (given_here {A = List A} [] τ w) in
    h ∙ (rw left (rw append-nil refl))

seen_twice : {A B C : Type 0} (f : A → B) (g : B → C) (o : Option (A × State)) → seen g (seen f o) ≡ seen (λ x. g (f x)) o
seen_twice f g None = refl
seen_twice f g (Some x) = refl

seen_same : {A B : Type 0} (f g : A → B) (o : Option (A × State)) → ((x : A) → f x ≡ g x) → seen f o ≡ seen g o
seen_same f g None h = refl
seen_same f g (Some x) h = ap (λ y. Some (y, x.1)) (h x.0)

-- one more was read
pub list_goes_on : {T A : Type 0} (f : T → A) (starts : Bool) (read : Meaning A) (whole : Option (List A × State)) (xs ys : List T) (v : T) (n m : ℕ) (σ τ ρ : State) → whole ≡ seen (λ vs. map f xs ++ vs) (decoded false (elements read n) σ) → n ≡ m + 1 → τ ≡ σ → IsSome τ.budget → decoded starts read τ ≡ Some (f v, ρ) → ys ≡ xs ++ v ∷ [] → whole ≡ seen (λ vs. map f ys ++ vs) (decoded false (elements read m) ρ)
list_goes_on f starts read whole xs ys v n m σ τ ρ h k e s d y =
    let one : decoded false read τ ≡ Some (f v, ρ) = sym (decoded_begun starts read τ s) ∙ d in
    let more : decoded false (elements read n) σ ≡ seen (λ vs. f v ∷ vs) (decoded false (elements read m) ρ) = rw (k, add-one, ← e) (decoded-elements read m τ ∙ rw one refl) in
    h ∙ (rw more (seen_twice (λ vs. f v ∷ vs) (λ vs. map f xs ++ vs) (decoded false (elements read m) ρ) ∙ seen_same (λ vs. map f xs ++ (f v ∷ vs)) (λ vs. map f ys ++ vs) (decoded false (elements read m) ρ) (λ vs. rw (y, map-append, append_assoc) refl)))

-- the next one isn't there
pub list_stops : {A : Type 0} (starts : Bool) (read : Meaning A) (whole : Option (List A × State)) (xs : List A) (n m : ℕ) (σ τ : State) → whole ≡ seen (λ vs. xs ++ vs) (decoded false (elements read n) σ) → n ≡ m + 1 → τ ≡ σ → IsSome τ.budget → decoded starts read τ ≡ None → whole ≡ None
list_stops starts read whole xs n m σ τ h k e s d =
    let one : decoded false read τ ≡ None = sym (decoded_begun starts read τ s) ∙ d in
    let more : decoded false (elements read n) σ ≡ None = rw (k, add-one, ← e) (decoded-elements read m τ ∙ rw one refl) in
    h ∙ (rw more refl)

-- what entering an array keeps
pub record Enters (σ τ : State) (items : Items) : Type 0 where
  pub section : τ.section ≡ σ.section
  pub levels : items.levels ≡ σ.levels
  pub charges : NoneBack σ.budget τ.budget
  pub started : IsSome τ.budget

some_left : (o : Option Charges) (left : Option Charges) → option_map Some o ≡ Some left → IsSome left
some_left None left h = absurd (cc)
some_left (Some c) left h = let e : Some c ≡ left = cc in subst (λ l. IsSome l) e refl

started_by : (b : Option Charges) (v w : ℕ) (left : Option Charges) → spent_of (begun true b) v w ≡ Some left → IsSome left
started_by None v w left h = some_left (charged (record { values = 1; bytes = 0 }) v w) left h
started_by (Some c) v w left h = some_left (charged c v w) left h

enters_left : (σ τ : State) (items : Items) (at : Entered) (o : Option (Option Charges)) → ((left : Option Charges) → o ≡ Some left → NoneBack σ.budget left × IsSome left) → (o >>= λ left. Some (entry σ at left)) ≡ Some (items, τ) → Enters σ τ items
enters_left σ τ items at None k h = absurd (cc)
enters_left σ τ items at (Some left) k h = let p : ◌≡◌ {A = Items × State} (entry σ at left) (items, τ) = cc in subst (λ (x : Items × State). Enters σ x.1 x.0) p (record { section = refl; levels = refl; charges = (k left refl).0; started = (k left refl).1 })

enters_by : (σ τ : State) (items : Items) (o : Option Entered) → (o >>= λ at. spent_of (begun true σ.budget) at.count 0 >>= λ left. Some (entry σ at left)) ≡ Some (items, τ) → Enters σ τ items
enters_by σ τ items None h = absurd (cc)
enters_by σ τ items (Some at) h = enters_left σ τ items at (spent_of (begun true σ.budget) at.count 0) (λ left e. (some_back true σ.budget at.count 0 left e, started_by σ.budget at.count 0 left e)) h

pub enters : (σ τ : State) (items : Items) → entered_array σ ≡ Some (items, τ) → Enters σ τ items
unfolding entered_array
enters σ τ items h = enters_by σ τ items (array_at σ.section σ.offset σ.levels) h

pub same_items : (a b c : Items) (m : ℕ) → b ≡ record a { remaining = b.remaining } → c ≡ record b { remaining = m } → c ≡ record a { remaining = c.remaining }
same_items a b c m h k = rw k (ap (λ (i : Items). record i { remaining = m }) h)

pub list_read : {A : Type 0} (read : Meaning A) (σ τ ρ π : State) (items spent : Items) (vs : List A) → entered_array σ ≡ Some (items, τ) → decoded false (elements read items.remaining) τ ≡ Some (vs, ρ) → spent ≡ record items { remaining = 0 } → π ≡ left_array spent ρ → decoded true (list_at read) σ ≡ Some (vs, π)
list_read read σ τ ρ π items spent vs h k s e = decoded-list read σ ∙ rw (h, k, e, s) refl

pub list_not_entered : {A : Type 0} (read : Meaning A) (σ : State) → entered_array σ ≡ None → decoded true (list_at read) σ ≡ None
list_not_entered read σ h = decoded-list read σ ∙ rw h refl

pub list_not_read : {A : Type 0} (read : Meaning A) (σ τ : State) (items : Items) → entered_array σ ≡ Some (items, τ) → decoded false (elements read items.remaining) τ ≡ None → decoded true (list_at read) σ ≡ None
list_not_read read σ τ items h k = decoded-list read σ ∙ rw (h, k) refl

pub kept_list : (σ τ ρ π : State) (items spent : Items) → Enters σ τ items → Kept τ ρ → spent ≡ record items { remaining = 0 } → π ≡ left_array spent ρ → Kept σ π
kept_list σ τ ρ π items spent h k s e = rw (e, s) (record { section = k.section ∙ h.section; levels = h.levels; charges = back_trans σ.budget τ.budget ρ.budget h.charges k.charges })

-- a list that is given up on its own levels
pub given_up_in_list : (σ τ ρ : State) (items : Items) → Enters σ τ items → GivenUp τ ρ → GivenUp σ ρ
given_up_in_list σ τ ρ items h k = record { section = k.section ∙ h.section; charges = back_trans σ.budget τ.budget ρ.budget h.charges k.charges }

pub given_up_list : (σ τ ρ π : State) (items : Items) (levels : ℕ) → Enters σ τ items → GivenUp τ ρ → π ≡ record ρ { levels = levels } → GivenUp σ π
given_up_list σ τ ρ π items levels h k e = rw e (record { section = k.section ∙ h.section; charges = back_trans σ.budget τ.budget ρ.budget h.charges k.charges })

-- a list of at most `most` elements
few_by : {A : Type 0} (most : ℕ) (read : Meaning A) (σ : State) (at : Entered) → array_at σ.section σ.offset σ.levels ≡ Some at → nat_le at.count most ≡ true → decoded true (few_at most read) σ ≡ decoded true (list_at read) σ
unfolding decoded few_at
few_by most read σ at h k = rw (h, k) refl

few_past : {A : Type 0} (most : ℕ) (read : Meaning A) (σ : State) (at : Entered) → array_at σ.section σ.offset σ.levels ≡ Some at → nat_le at.count most ≡ false → decoded true (few_at most read) σ ≡ None
unfolding decoded few_at
few_past most read σ at h k = rw (h, k) refl

few_no_array : {A : Type 0} (most : ℕ) (read : Meaning A) (σ : State) → array_at σ.section σ.offset σ.levels ≡ None → decoded true (few_at most read) σ ≡ None
unfolding decoded few_at
few_no_array most read σ h = rw h refl

pub few_none_by : {A : Type 0} (most : ℕ) (read : Meaning A) (σ : State) (at : Entered) (b : Bool) → array_at σ.section σ.offset σ.levels ≡ Some at → nat_le at.count most ≡ b → decoded true (list_at read) σ ≡ None → decoded true (few_at most read) σ ≡ None
few_none_by most read σ at true h e k = few_by most read σ at h e ∙ k
few_none_by most read σ at false h e k = few_past most read σ at h e

few_none_of : {A : Type 0} (most : ℕ) (read : Meaning A) (σ : State) (o : Option Entered) → array_at σ.section σ.offset σ.levels ≡ o → decoded true (list_at read) σ ≡ None → decoded true (few_at most read) σ ≡ None
few_none_of most read σ None h k = few_no_array most read σ h
few_none_of most read σ (Some at) h k = few_none_by most read σ at (nat_le at.count most) h refl k

-- where no list is read, none of few elements is
pub few_none : {A : Type 0} (most : ℕ) (read : Meaning A) (σ : State) → decoded true (list_at read) σ ≡ None → decoded true (few_at most read) σ ≡ None
few_none most read σ k = few_none_of most read σ (array_at σ.section σ.offset σ.levels) refl k

-- the array that was entered
entered_left : (σ τ : State) (items : Items) (at : Entered) (o : Option (Option Charges)) → (o >>= λ left. Some (entry σ at left)) ≡ Some (items, τ) → at.count ≡ items.remaining
entered_left σ τ items at None h = absurd (cc)
entered_left σ τ items at (Some left) h = let p : ◌≡◌ {A = Items × State} (entry σ at left) (items, τ) = cc in ap (λ (x : Items × State). x.0.remaining) p

entered_of : (σ τ : State) (items : Items) (o : Option Entered) → array_at σ.section σ.offset σ.levels ≡ o → (o >>= λ at. spent_of (begun true σ.budget) at.count 0 >>= λ left. Some (entry σ at left)) ≡ Some (items, τ) → (at : Entered) × (array_at σ.section σ.offset σ.levels ≡ Some at) × (at.count ≡ items.remaining)
entered_of σ τ items None e h = absurd (cc)
entered_of σ τ items (Some at) e h = (at, e, entered_left σ τ items at (spent_of (begun true σ.budget) at.count 0) h)

entered_from : (σ τ : State) (items : Items) → entered_array σ ≡ Some (items, τ) → (at : Entered) × (array_at σ.section σ.offset σ.levels ≡ Some at) × (at.count ≡ items.remaining)
unfolding entered_array
entered_from σ τ items h = entered_of σ τ items (array_at σ.section σ.offset σ.levels) refl h

pub few_read : {A : Type 0} (most : ℕ) (read : Meaning A) (σ τ : State) (items : Items) → entered_array σ ≡ Some (items, τ) → items.remaining ≤ most → decoded true (few_at most read) σ ≡ decoded true (list_at read) σ
few_read most read σ τ items h k = let x = entered_from σ τ items h in let few : nat_le x.0.count most ≡ true = grind (arith, nat_tests, x.2) in few_by most read σ x.0 x.1 few

pub few_rejected : {A : Type 0} (most : ℕ) (read : Meaning A) (σ τ : State) (items : Items) → entered_array σ ≡ Some (items, τ) → most < items.remaining → decoded true (few_at most read) σ ≡ None
few_rejected most read σ τ items h k = let x = entered_from σ τ items h in let many : nat_le x.0.count most ≡ false = grind (arith, nat_tests, x.2) in few_past most read σ x.0 x.1 many

-- an array of another length
other_by : (len : ℕ) (x : Items × State) (b : Bool) → nat_eq x.0.remaining len ≡ b → (x.0.remaining ≡ len → ⊥) → if_sized len x ≡ None
other_by len x true e h = absurd (h (grind (arith, nat_tests)))
other_by len x false e h = rw e refl

pub other_length : (len : ℕ) (σ τ : State) (items : Items) → entered_array σ ≡ Some (items, τ) → (items.remaining ≡ len → ⊥) → entered_array_of len σ ≡ None
other_length len σ τ items h k = rw h (other_by len (items, τ) (nat_eq items.remaining len) refl k)
