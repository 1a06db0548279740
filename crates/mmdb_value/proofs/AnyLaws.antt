-- Any value, level by level.
use Rattle.std.proofs.Common.{◌≡◌, ◌≢◌, ℕ, suc, zero, ◌+◌, ◌-◌, ◌*◌, List, [], ◌∷◌, ◌++◌, map, Option, Some, None, Bool, true, false, ◌&&◌, nat_le, nat_lt, nat_eq, option_map, refl, ap, ◌∙◌, arith, cond, subst, append_assoc, append-nil}
use Rattle.std.proofs.lemmas.Bool.Decides.{nat_tests}
use Rattle.std.proofs.lemmas.List.{map-append}
use Rattle.mmdb_decode.specs.Arrays.{elements}
use Rattle.mmdb_decode.specs.Levels.{entered_pointer, entered_parts, content_of}
use Rattle.mmdb_decode.specs.Maps.{key_past}
use Rattle.mmdb_decode.specs.Reading.{Reading, Meaning, plus, mapped, checked, given}
use Rattle.mmdb_decode.specs.State.{State, charged, spent_of, begun, settled, after, decoded, Within, most_values, most_bytes}
use Rattle.mmdb_format.specs.Contents.{content_at}
use Rattle.mmdb_format.specs.Header.{◌>>=◌, header_at}
use Rattle.mmdb_format.specs.Pointer.{pointer_at, most_levels}
use Rattle.mmdb_format.specs.Unfolding.{Tree}
use Rattle.mmdb_value.specs.AnyValue.{key_at, value_at, value_within, behind_pointer, scalar_of, pair_at, container, array_of, table_of}
use Rattle.mmdb_decode.specs.declared.budget.Charges.{Charges}
use Rattle.mmdb_format.specs.declared.header.Header.{Header}
use Rattle.mmdb_format.specs.declared.header.Pointer.{Pointer}
use Rattle.mmdb_decode.proofs.PassingLaws.{no_content_1, no_content_7, no_content_11}
use Rattle.mmdb_decode.proofs.StepLaws.{state, read_free}
use Rattle.mmdb_decode.proofs.ReadingLaws.{charged-more, seen, decoded-elements}

-- a reading that is looked at before it is taken
abbrev pub taken_by : {A B : Type 0} → (A → Option B) → Option (A × State) → Option (B × State)
taken_by f None = None
taken_by f (Some x) = f x.0 >>= λ y. Some (y, x.1)

checked_left : {A B : Type 0} (f : A → Option B) (σ : State) (r : Reading A) (o : Option B) (left : Option (Option Charges)) → f r.value ≡ o → ((o >>= λ y. Some (record { value = y; next = r.next; values = r.values; bytes = r.bytes })) >>= λ z. settled σ z left) ≡ taken_by f (settled σ r left)
checked_left f σ r None None e = refl
checked_left f σ r None (Some left) e = rw e refl
checked_left f σ r (Some y) None e = refl
checked_left f σ r (Some y) (Some left) e = rw e refl

checked_budget : {A B : Type 0} (f : A → Option B) (σ : State) (budget : Option Charges) (r : Reading A) (o : Option B) → ((o >>= λ y. Some (record { value = y; next = r.next; values = r.values; bytes = r.bytes })) >>= after σ budget) ≡ ((o >>= λ y. Some (record { value = y; next = r.next; values = r.values; bytes = r.bytes })) >>= λ z. settled σ z (spent_of budget r.values r.bytes))
checked_budget f σ budget r None = refl
checked_budget f σ budget r (Some y) = refl

checked_by : {A B : Type 0} (f : A → Option B) (σ : State) (budget : Option Charges) (o : Option (Reading A)) → ((o >>= λ r. f r.value >>= λ y. Some (record { value = y; next = r.next; values = r.values; bytes = r.bytes })) >>= after σ budget) ≡ taken_by f (o >>= after σ budget)
checked_by f σ budget None = refl
checked_by f σ budget (Some r) = checked_budget f σ budget r (f r.value) ∙ checked_left f σ r (f r.value) (spent_of budget r.values r.bytes) refl

pub decoded-checked : {A B : Type 0} (f : A → Option B) (read : Meaning A) (σ : State) → decoded false (checked f read) σ ≡ taken_by f (decoded false read σ)
unfolding decoded
decoded-checked f read σ = checked_by f σ σ.budget (read σ.section σ.offset σ.levels)

no_scalar : (tested : Bool) (s : List ℕ) (header : Header) (p d : ℕ) → content_at s header ≡ None → scalar_of tested header s p d ≡ None
unfolding content_of
no_scalar tested s header p d h = rw h refl

scalar_anywhere : (tested : Bool) (s : List ℕ) (header : Header) (p q d e : ℕ) → scalar_of tested header s p d ≡ scalar_of tested header s q e
unfolding content_of
scalar_anywhere tested s header p q d e = refl

-- a value that holds no other
scalar_by : (tested : Bool) (σ : State) (header : Header) (n : ℕ) → header_at σ.section σ.offset ≡ Some header → nat_eq header.kind 1 ≡ false → nat_eq header.kind 7 ≡ false → nat_eq header.kind 11 ≡ false → 512 - σ.levels ≡ n → decoded false (value_at tested) σ ≡ decoded false (scalar_of tested header) σ
unfolding decoded value_at value_within
scalar_by tested σ header zero h i j k e = rw (e, h, scalar_anywhere tested σ.section header header.body σ.offset 0 σ.levels) refl
scalar_by tested σ header (suc n) h i j k e = rw (e, h, i, k, j, scalar_anywhere tested σ.section header header.body σ.offset 0 σ.levels) refl

pub any_scalar : (tested : Bool) (σ : State) (header : Header) → header_at σ.section σ.offset ≡ Some header → header.kind ≢ 1 → header.kind ≢ 7 → header.kind ≢ 11 → decoded false (value_at tested) σ ≡ decoded false (scalar_of tested header) σ
any_scalar tested σ header h i j k =
    let a : nat_eq header.kind 1 ≡ false = grind (arith, nat_tests) in
    let b : nat_eq header.kind 7 ≡ false = grind (arith, nat_tests) in
    let c : nat_eq header.kind 11 ≡ false = grind (arith, nat_tests) in
    scalar_by tested σ header (512 - σ.levels) h a b c refl

no_head_by : (tested : Bool) (σ : State) → header_at σ.section σ.offset ≡ None → (n : ℕ) → 512 - σ.levels ≡ n → decoded false (value_at tested) σ ≡ None
unfolding decoded value_at value_within
no_head_by tested σ h zero e = rw (e, h) refl
no_head_by tested σ h (suc n) e = rw (e, h) refl

pub no_head : (tested : Bool) (σ : State) → header_at σ.section σ.offset ≡ None → decoded false (value_at tested) σ ≡ None
no_head tested σ h = no_head_by tested σ h (512 - σ.levels) refl

-- back one level up, at an offset
abbrev pub risen : ℕ → ℕ → Option (Tree × State) → Option (Tree × State)
risen next levels None = None
risen next levels (Some x) = Some (x.0, state x.1.section next levels x.1.budget)

risen_settled : (σ τ : State) (r : Reading Tree) (next : ℕ) (o : Option (Option Charges)) → τ.section ≡ σ.section → settled σ (record { value = r.value; next = next; values = r.values; bytes = r.bytes }) o ≡ risen next σ.levels (settled τ r o)
risen_settled σ τ r next None e = refl
risen_settled σ τ r next (Some left) e = rw e refl

risen_after : (σ : State) (target next : ℕ) (o : Option (Reading Tree)) → ((o >>= λ r. Some (record { value = r.value; next = next; values = r.values; bytes = r.bytes })) >>= after σ σ.budget) ≡ risen next σ.levels (o >>= after (state σ.section target (σ.levels + 1) σ.budget) σ.budget)
risen_after σ target next None = refl
risen_after σ target next (Some r) = risen_settled σ (state σ.section target (σ.levels + 1) σ.budget) r next (spent_of σ.budget r.values r.bytes) refl

abbrev down : State → Pointer → ℕ × State
down σ to = (to.next, state σ.section to.target (σ.levels + 1) σ.budget)

behind_after : (tested : Bool) (σ : State) (n : ℕ) (o : Option Pointer) → ((o >>= behind_pointer (value_within tested n) σ.section) >>= after σ σ.budget) ≡ ((o >>= λ to. Some (down σ to)) >>= λ x. risen x.0 σ.levels (value_within tested n x.1.section x.1.offset 0 >>= after x.1 x.1.budget))
behind_after tested σ n None = refl
behind_after tested σ n (Some to) = risen_after σ to.target to.next (value_within tested n σ.section to.target 0)

same_below : (tested : Bool) (σ : State) (n : ℕ) (o : Option Pointer) → 512 - (σ.levels + 1) ≡ n → ((o >>= λ to. Some (down σ to)) >>= λ x. risen x.0 σ.levels (value_within tested n x.1.section x.1.offset 0 >>= after x.1 x.1.budget)) ≡ ((o >>= λ to. Some (down σ to)) >>= λ x. risen x.0 σ.levels (decoded false (value_at tested) x.1))
unfolding decoded value_at
same_below tested σ n None e = refl
same_below tested σ n (Some to) e = rw e refl

pointer_by : (tested : Bool) (σ : State) (header : Header) (n : ℕ) → header_at σ.section σ.offset ≡ Some header → header.kind ≡ 1 → 512 - σ.levels ≡ n → decoded false (value_at tested) σ ≡ (entered_pointer σ header >>= λ x. risen x.0 σ.levels (decoded false (value_at tested) x.1))
unfolding decoded value_at entered_pointer value_within
pointer_by tested σ header zero h k e =
    let no : nat_lt σ.levels most_levels ≡ false = grind (arith, nat_tests) in
    rw (e, h, no, no_scalar tested σ.section header header.body 0 (no_content_1 σ.section header k)) refl
pointer_by tested σ header (suc n) h k e =
    let yes : nat_lt σ.levels most_levels ≡ true = grind (arith, nat_tests) in
    let below : 512 - (σ.levels + 1) ≡ n = omega arith in
    rw (e, h, k, yes) (behind_after tested σ n (pointer_at σ.section header.body header.size) ∙ same_below tested σ n (pointer_at σ.section header.body header.size) below)

-- a pointer is what its target is, one level down
pub any_pointer : (tested : Bool) (σ : State) (header : Header) → header_at σ.section σ.offset ≡ Some header → header.kind ≡ 1 → decoded false (value_at tested) σ ≡ (entered_pointer σ header >>= λ x. risen x.0 σ.levels (decoded false (value_at tested) x.1))
any_pointer tested σ header h k = pointer_by tested σ header (512 - σ.levels) h k refl

-- parts that two readings read alike
more_alike : {A : Type 0} (R Q : Meaning A) (s : List ℕ) (d e n : ℕ) → ((p : ℕ) → elements R n s p d ≡ elements Q n s p e) → (o : Option (Reading A)) → (o >>= λ x. mapped (λ vs. x.value ∷ vs) (elements R n) s x.next d >>= λ y. Some (plus x y)) ≡ (o >>= λ x. mapped (λ vs. x.value ∷ vs) (elements Q n) s x.next e >>= λ y. Some (plus x y))
more_alike R Q s d e n h None = refl
more_alike R Q s d e n h (Some x) = rw (h x.next) refl

pub elements_alike : {A : Type 0} (R Q : Meaning A) (s : List ℕ) (d e : ℕ) → ((p : ℕ) → Q s p e ≡ R s p d) → (n p : ℕ) → elements R n s p d ≡ elements Q n s p e
elements_alike R Q s d e h zero p = refl
elements_alike R Q s d e h (suc n) p = rw (h p) (more_alike R Q s d e n (elements_alike R Q s d e h n) (R s p d))

pair_value_alike : (R Q : Meaning Tree) (s : List ℕ) (d e : ℕ) → ((p : ℕ) → Q s p e ≡ R s p d) → (o : Option (Reading (List ℕ))) → (o >>= λ x. mapped {A = Tree} {B = List ℕ × Tree} (λ v. (x.value, v)) Q s x.next e >>= λ y. Some (plus x y)) ≡ (o >>= λ x. mapped {A = Tree} {B = List ℕ × Tree} (λ v. (x.value, v)) R s x.next d >>= λ y. Some (plus x y))
pair_value_alike R Q s d e h None = refl
pair_value_alike R Q s d e h (Some x) = rw (h x.next) refl

key_alike : (tested : Bool) (s : List ℕ) (p d e : ℕ) → key_at tested s p e ≡ key_at tested s p d
unfolding key_past
key_alike tested s p d e = refl

pub pair_alike : (tested : Bool) (R Q : Meaning Tree) (s : List ℕ) (d e : ℕ) → ((p : ℕ) → Q s p e ≡ R s p d) → (p : ℕ) → pair_at tested Q s p e ≡ pair_at tested R s p d
pair_alike tested R Q s d e h p = rw (key_alike tested s p d e) (pair_value_alike R Q s d e h (key_at tested s p d))

level_down : (tested : Bool) (s : List ℕ) (d n : ℕ) → 512 - d ≡ n → (p : ℕ) → value_at tested s p d ≡ value_within tested n s p 0
unfolding value_at
level_down tested s d n e p = rw e refl

-- back one level up from a container's parts
abbrev pub raised : {A : Type 0} → (List A → Tree) → ℕ → Option (List A × State) → Option (Tree × State)
raised f levels None = None
raised f levels (Some x) = Some (f x.0, state x.1.section x.1.offset levels x.1.budget)

abbrev inside : State → Header → Option Charges → State
inside σ header left = state σ.section header.body (σ.levels + 1) left

module _ {A : Type 0} (f : List A → Tree) (σ : State) (header : Header) (count : ℕ) where
  raised_left : (r : Reading (List A)) (left o : Option Charges) → settled σ (container f count r) (option_map Some o) ≡ raised f σ.levels (settled (inside σ header left) r (option_map Some o))
  raised_left r left None = refl
  raised_left r left (Some d) = refl

  raised_charged : (r : Reading (List A)) (o : Option Charges) → settled σ (container f count r) (option_map Some (o >>= λ d. charged d r.values r.bytes)) ≡ ((option_map Some o >>= λ left. Some (inside σ header left)) >>= λ τ. raised f σ.levels (after τ τ.budget r))
  raised_charged r None = refl
  raised_charged r (Some d) = raised_left r (Some d) (charged d r.values r.bytes)

  raised_nothing : (o : Option (Option Charges)) → ◌≡◌ {A = Option (Tree × State)} None ((o >>= λ left. Some (inside σ header left)) >>= λ τ. None)
  raised_nothing None = refl
  raised_nothing (Some left) = refl

  parts_budget : (budget : Option Charges) (o : Option (Reading (List A))) → ((o >>= λ r. Some (container f count r)) >>= after σ budget) ≡ ((spent_of budget count 0 >>= λ left. Some (inside σ header left)) >>= λ τ. raised f σ.levels (o >>= after τ τ.budget))
  parts_budget budget None = raised_nothing (spent_of budget count 0)
  parts_budget None (Some r) = refl
  parts_budget (Some c) (Some r) = rw (charged-more c count r.values r.bytes) (raised_charged r (charged c count 0))

  parts_same : (R : Meaning A) (o : Option (Option Charges)) → ((o >>= λ left. Some (inside σ header left)) >>= λ τ. raised f σ.levels (elements R header.size σ.section header.body (σ.levels + 1) >>= after τ τ.budget)) ≡ ((o >>= λ left. Some (inside σ header left)) >>= λ τ. raised f σ.levels (decoded false (elements R header.size) τ))
  unfolding decoded
  parts_same R None = refl
  parts_same R (Some left) = refl

  parts_all : (R : Meaning A) → ((elements R header.size σ.section header.body (σ.levels + 1) >>= λ r. Some (container f count r)) >>= after σ σ.budget) ≡ ((spent_of σ.budget count 0 >>= λ left. Some (inside σ header left)) >>= λ τ. raised f σ.levels (decoded false (elements R header.size) τ))
  parts_all R = parts_budget σ.budget (elements R header.size σ.section header.body (σ.levels + 1)) ∙ parts_same R (spent_of σ.budget count 0)

array_by : (tested : Bool) (σ : State) (header : Header) (n : ℕ) → header_at σ.section σ.offset ≡ Some header → header.kind ≡ 11 → 512 - σ.levels ≡ n → decoded false (value_at tested) σ ≡ (entered_parts σ header header.size >>= λ τ. raised array_of σ.levels (decoded false (elements (value_at tested) header.size) τ))
unfolding decoded value_at entered_parts value_within
array_by tested σ header zero h k e =
    let no : nat_lt σ.levels most_levels ≡ false = grind (arith, nat_tests) in
    rw (e, h, no, no_scalar tested σ.section header header.body 0 (no_content_11 σ.section header k)) refl
array_by tested σ header (suc n) h k e =
    let yes : nat_lt σ.levels most_levels ≡ true = grind (arith, nat_tests) in
    let below : 512 - (σ.levels + 1) ≡ n = omega arith in
    rw (e, h, k, yes) (rw (elements_alike (value_within tested n) (value_at tested) σ.section 0 (σ.levels + 1) (level_down tested σ.section (σ.levels + 1) n below) header.size header.body) (parts_all array_of σ header header.size (value_at tested)))

-- an array is its elements, one level down
pub any_array : (tested : Bool) (σ : State) (header : Header) → header_at σ.section σ.offset ≡ Some header → header.kind ≡ 11 → decoded false (value_at tested) σ ≡ (entered_parts σ header header.size >>= λ τ. raised array_of σ.levels (decoded false (elements (value_at tested) header.size) τ))
any_array tested σ header h k = array_by tested σ header (512 - σ.levels) h k refl

table_by : (tested : Bool) (σ : State) (header : Header) (n : ℕ) → header_at σ.section σ.offset ≡ Some header → header.kind ≡ 7 → 512 - σ.levels ≡ n → decoded false (value_at tested) σ ≡ (entered_parts σ header (2 * header.size) >>= λ τ. raised table_of σ.levels (decoded false (elements (pair_at tested (value_at tested)) header.size) τ))
unfolding decoded value_at entered_parts value_within
table_by tested σ header zero h k e =
    let no : nat_lt σ.levels most_levels ≡ false = grind (arith, nat_tests) in
    rw (e, h, no, no_scalar tested σ.section header header.body 0 (no_content_7 σ.section header k)) refl
table_by tested σ header (suc n) h k e =
    let yes : nat_lt σ.levels most_levels ≡ true = grind (arith, nat_tests) in
    let below : 512 - (σ.levels + 1) ≡ n = omega arith in
    rw (e, h, k, yes) (rw (elements_alike (pair_at tested (value_within tested n)) (pair_at tested (value_at tested)) σ.section 0 (σ.levels + 1) (pair_alike tested (value_within tested n) (value_at tested) σ.section 0 (σ.levels + 1) (level_down tested σ.section (σ.levels + 1) n below)) header.size header.body) (parts_all table_of σ header (2 * header.size) (pair_at tested (value_at tested))))

-- a map is its pairs, one level down
pub any_table : (tested : Bool) (σ : State) (header : Header) → header_at σ.section σ.offset ≡ Some header → header.kind ≡ 7 → decoded false (value_at tested) σ ≡ (entered_parts σ header (2 * header.size) >>= λ τ. raised table_of σ.levels (decoded false (elements (pair_at tested (value_at tested)) header.size) τ))
any_table tested σ header h k = table_by tested σ header (512 - σ.levels) h k refl

-- parts that are read one by one
seen_same : {A : Type 0} (o : Option (List A × State)) → o ≡ seen (λ vs. [] ++ vs) o
seen_same None = refl
seen_same (Some x) = refl

seen_twice : {A B C : Type 0} (f : A → B) (g : B → C) (h : A → C) (o : Option (A × State)) → ((x : A) → g (f x) ≡ h x) → seen g (seen f o) ≡ seen h o
seen_twice f g h None e = refl
seen_twice f g h (Some x) e = ap (λ y. Some (y, x.1)) (e x.0)

pub parts_begin : {T A : Type 0} (f : T → A) (read : Meaning A) (n : ℕ) (σ : State) (xs : List T) → xs ≡ [] → decoded false (elements read n) σ ≡ seen (λ vs. map f xs ++ vs) (decoded false (elements read n) σ)
parts_begin f read n σ xs e = rw e (seen_same (decoded false (elements read n) σ))

pub parts_go_on : {T A : Type 0} (f : T → A) (read : Meaning A) (whole : Option (List A × State)) (xs ys : List T) (v : T) (n m : ℕ) (σ ρ : State) → whole ≡ seen (λ vs. map f xs ++ vs) (decoded false (elements read n) σ) → n ≡ suc m → decoded false read σ ≡ Some (f v, ρ) → ys ≡ xs ++ v ∷ [] → whole ≡ seen (λ vs. map f ys ++ vs) (decoded false (elements read m) ρ)
parts_go_on f read whole xs ys v n m σ ρ h k d y =
    let more : decoded false (elements read n) σ ≡ seen (λ vs. f v ∷ vs) (decoded false (elements read m) ρ) = rw k (decoded-elements read m σ ∙ rw d refl) in
    h ∙ (rw more (seen_twice (λ vs. f v ∷ vs) (λ vs. map f xs ++ vs) (λ vs. map f ys ++ vs) (decoded false (elements read m) ρ) (λ vs. rw (y, map-append, append_assoc) refl)))

pub parts_stop : {A : Type 0} (read : Meaning A) (whole : Option (List A × State)) (xs : List A) (n m : ℕ) (σ : State) → whole ≡ seen (λ vs. xs ++ vs) (decoded false (elements read n) σ) → n ≡ suc m → decoded false read σ ≡ None → whole ≡ None
parts_stop read whole xs n m σ h k d =
    let more : decoded false (elements read n) σ ≡ None = rw k (decoded-elements read m σ ∙ rw d refl) in
    h ∙ (rw more refl)

pub parts_end : {A : Type 0} (read : Meaning A) (whole : Option (List A × State)) (xs : List A) (n : ℕ) (σ : State) → whole ≡ seen (λ vs. xs ++ vs) (decoded false (elements read n) σ) → n ≡ 0 → Within σ.budget → whole ≡ Some (xs, σ)
parts_end {A = A} read whole xs n σ h z w =
    let left : decoded false (elements read n) σ ≡ Some ([], σ) = rw z (read_free {A = List A} (given []) σ [] σ.offset w refl) in
    h ∙ (rw left (rw append-nil refl))

-- a reading leaves the limits kept
within_charged : (t : Bool) (d : Charges) (left : Option Charges) → (t ≡ true → Within (Some d)) → option_map Some (cond t (Some d) None) ≡ Some left → Within left
within_charged true d left w h = let e : Some d ≡ left = cc in subst (λ l. Within l) e (w refl)
within_charged false d left w h = absurd (cc)

pub within_spent : (budget : Option Charges) (v b : ℕ) (left : Option Charges) → spent_of budget v b ≡ Some left → Within left
within_spent None v b left h = let e : ◌≡◌ {A = Option Charges} None left = cc in subst (λ l. Within l) e tt
within_spent (Some c) v b left h = within_charged (nat_le (c.values + v) most_values && nat_le (c.bytes + b) most_bytes) (record { values = c.values + v; bytes = c.bytes + b }) left (λ e. grind (arith, nat_tests)) h

within_settled : {A : Type 0} (σ τ : State) (r : Reading A) (v : A) (o : Option (Option Charges)) → ((left : Option Charges) → o ≡ Some left → Within left) → settled σ r o ≡ Some (v, τ) → Within τ.budget
within_settled σ τ r v None k h = absurd (cc)
within_settled {A = A} σ τ r v (Some left) k h = let p : ◌≡◌ {A = A × State} (r.value, state σ.section r.next σ.levels left) (v, τ) = cc in let e : state σ.section r.next σ.levels left ≡ τ = ap (λ x. x.1) p in subst (λ t. Within t.budget) e (k left refl)

within_after : {A : Type 0} (starts : Bool) (σ τ : State) (v : A) (o : Option (Reading A)) → (o >>= after σ (begun starts σ.budget)) ≡ Some (v, τ) → Within τ.budget
within_after starts σ τ v None h = absurd (cc)
within_after starts σ τ v (Some r) h = within_settled σ τ r v (spent_of (begun starts σ.budget) r.values r.bytes) (within_spent (begun starts σ.budget) r.values r.bytes) h

pub within_decoded : {A : Type 0} (starts : Bool) (read : Meaning A) (σ τ : State) (v : A) → decoded starts read σ ≡ Some (v, τ) → Within τ.budget
unfolding decoded
within_decoded starts read σ τ v h = within_after starts σ τ v (read σ.section σ.offset σ.levels) h
