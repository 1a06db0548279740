-- What each step of reading any value makes of it, over plain variables.
use Rattle.std.proofs.Common.{◌≡◌, ℕ, ◌+◌, ◌-◌, ◌*◌, ◌<◌, List, length, Option, Some, None, Bor, Bool as Truth, true, false, nat_lt, option_map, refl, ap, ◌∙◌, arith, cond, subst}
use Rattle.std.proofs.lemmas.Bool.Decides.{nat_tests}
use Rattle.mmdb_decode.specs.Arrays.{elements}
use Rattle.mmdb_decode.specs.Levels.{entered_pointer, entered_parts, content_of}
use Rattle.mmdb_decode.specs.Maps.{raw_key_at}
use Rattle.mmdb_decode.specs.Reading.{Reading, Meaning, mapped, checked}
use Rattle.mmdb_decode.specs.Errors.{Kept, Declines}
use Rattle.mmdb_decode.specs.State.{State, spent_of, settled, after, decoded, Within, NoneBack, GivenUp}
use Rattle.mmdb_format.specs.Contents.{Scalar, text, content_at, scalar_payload, bytes_of_content}
use Rattle.mmdb_format.specs.Views.{content_view}
use Rattle.mmdb_format.specs.declared.content.Content.{Content}
use Rattle.mmdb_format.specs.declared.content.Content.TheVariants.{Text, Bytes, Bool, I32, U16, U32, U64, U128, Double, Float}
use Rattle.mmdb_format.specs.Header.{◌>>=◌, header_at}
use Rattle.mmdb_format.specs.Pointer.{pointer_at, most_levels}
use Rattle.mmdb_format.specs.Unfolding.{Tree, scalar}
use Rattle.mmdb_value.specs.AnyValue.{key_at, if_utf8, if_scalar_text, value_at, pair_at, array_of, table_of, scalar_of}
use Rattle.mmdb_decode.specs.declared.budget.Charges.{Charges}
use Rattle.mmdb_format.specs.declared.header.Header.{Header}
use Rattle.mmdb_format.specs.declared.header.Pointer.{Pointer}
use Rattle.mmdb_decode.specs.declared.failed.Failed.{Failed}
use Rattle.mmdb_decode.proofs.StepLaws.{state, none_back, declines, declines_more, back_trans, some_back, kept_trans, kept_decoded}
use Rattle.mmdb_decode.proofs.ReadingLaws.{seen, decoded-followed, decoded-mapped}
use Rattle.mmdb_value.proofs.AnyLaws.{any_scalar, any_pointer, any_array, any_table, within_spent, decoded-checked}

-- a failure here, and one further down
pub not_here : {A : Type 0} (σ : State) (e : Failed) (read : Option A) → read ≡ None → GivenUp σ σ × Declines false e read
not_here σ e read h = (record { section = refl; charges = none_back σ.budget }, declines false e read h)

pub given_up_after : (ρ σ τ : State) → GivenUp ρ σ → GivenUp σ τ → GivenUp ρ τ
given_up_after ρ σ τ h k = record { section = k.section ∙ h.section; charges = back_trans ρ.budget σ.budget τ.budget h.charges k.charges }

pub not_below : {A B : Type 0} (σ τ ρ : State) (e : Failed) (r : Option A) (q : Option B) → GivenUp σ τ → (r ≡ None → q ≡ None) → GivenUp τ ρ × Declines false e r → GivenUp σ ρ × Declines false e q
not_below σ τ ρ e r q g k h = (given_up_after σ τ ρ g h.0, declines_more false e r q k h.1)

pub same_given_up : (σ τ : State) → Kept σ τ → GivenUp σ τ
same_given_up σ τ h = record { section = h.section; charges = h.charges }

-- what going down keeps
pub record Goes (σ τ : State) : Type 0 where
  pub section : τ.section ≡ σ.section
  pub levels : τ.levels ≡ σ.levels + 1
  pub charges : NoneBack σ.budget τ.budget
  pub below : σ.levels < 512

pub goes_given_up : (σ τ : State) → Goes σ τ → GivenUp σ τ
goes_given_up σ τ h = record { section = h.section; charges = h.charges }

abbrev down : State → Pointer → ℕ × State
down σ to = (to.next, state σ.section to.target (σ.levels + 1) σ.budget)

goes_by : (σ τ : State) (next : ℕ) (b : Truth) (o : Option Pointer) → (b ≡ true → σ.levels < 512) → cond b (o >>= λ to. Some (down σ to)) None ≡ Some (next, τ) → Goes σ τ × (τ.budget ≡ σ.budget)
goes_by σ τ next false o l h = absurd (cc)
goes_by σ τ next true None l h = absurd (cc)
goes_by σ τ next true (Some to) l h = let p : ◌≡◌ {A = ℕ × State} (down σ to) (next, τ) = cc in subst (λ (x : ℕ × State). Goes σ x.1 × (x.1.budget ≡ σ.budget)) p (record { section = refl; levels = refl; charges = none_back σ.budget; below = l refl }, refl)

pub goes_to_target : (σ τ : State) (header : Header) (next : ℕ) → entered_pointer σ header ≡ Some (next, τ) → Goes σ τ × (τ.budget ≡ σ.budget)
unfolding entered_pointer
goes_to_target σ τ header next h = goes_by σ τ next (nat_lt σ.levels most_levels) (pointer_at σ.section header.body header.size) (λ e. grind (arith, nat_tests)) h

goes_left : (σ τ : State) (header : Header) (o : Option (Option Charges)) → σ.levels < 512 → ((left : Option Charges) → o ≡ Some left → NoneBack σ.budget left × Within left) → (o >>= λ left. Some (state σ.section header.body (σ.levels + 1) left)) ≡ Some τ → Goes σ τ × Within τ.budget
goes_left σ τ header None l k h = absurd (cc)
goes_left σ τ header (Some left) l k h = let p : state σ.section header.body (σ.levels + 1) left ≡ τ = cc in subst (λ (x : State). Goes σ x × Within x.budget) p (record { section = refl; levels = refl; charges = (k left refl).0; below = l }, (k left refl).1)

goes_in : (σ τ : State) (header : Header) (n : ℕ) (b : Truth) → (b ≡ true → σ.levels < 512) → cond b (spent_of σ.budget n 0 >>= λ left. Some (state σ.section header.body (σ.levels + 1) left)) None ≡ Some τ → Goes σ τ × Within τ.budget
goes_in σ τ header n false l h = absurd (cc)
goes_in σ τ header n true l h = goes_left σ τ header (spent_of σ.budget n 0) (l refl) (λ left e. (some_back false σ.budget n 0 left e, within_spent σ.budget n 0 left e)) h

pub goes_to_parts : (σ τ : State) (header : Header) (n : ℕ) → entered_parts σ header n ≡ Some τ → Goes σ τ × Within τ.budget
unfolding entered_parts
goes_to_parts σ τ header n h = goes_in σ τ header n (nat_lt σ.levels most_levels) (λ e. grind (arith, nat_tests)) h

module _ (tested : Truth) (σ τ : State) (header : Header) (here : header_at σ.section σ.offset ≡ Some header) where
  pub pointer_not_entered : header.kind ≡ 1 → entered_pointer σ header ≡ None → decoded false (value_at tested) σ ≡ None
  pointer_not_entered k e = any_pointer tested σ header here k ∙ rw e refl

  pub pointer_not_read : (next : ℕ) → header.kind ≡ 1 → entered_pointer σ header ≡ Some (next, τ) → decoded false (value_at tested) τ ≡ None → decoded false (value_at tested) σ ≡ None
  pointer_not_read next k e d = any_pointer tested σ header here k ∙ rw (e, d) refl

  pub pointer_read : (ρ π : State) (next : ℕ) (t : Tree) → header.kind ≡ 1 → entered_pointer σ header ≡ Some (next, τ) → decoded false (value_at tested) τ ≡ Some (t, ρ) → Kept τ ρ → π ≡ record ρ { offset = next; levels = ρ.levels - 1 } → decoded false (value_at tested) σ ≡ Some (t, π)
  pointer_read ρ π next t k e d kept p =
      let go = (goes_to_target σ τ header next e).0 in
      let up : ρ.levels - 1 ≡ σ.levels = omega (arith, kept.levels, go.levels) in
      any_pointer tested σ header here k ∙ rw (e, d, p, up) refl

  pub array_not_entered : header.kind ≡ 11 → entered_parts σ header header.size ≡ None → decoded false (value_at tested) σ ≡ None
  array_not_entered k e = any_array tested σ header here k ∙ rw e refl

  pub array_not_read : header.kind ≡ 11 → entered_parts σ header header.size ≡ Some τ → decoded false (elements (value_at tested) header.size) τ ≡ None → decoded false (value_at tested) σ ≡ None
  array_not_read k e d = any_array tested σ header here k ∙ rw (e, d) refl

  pub array_read : (ρ π : State) (ts : List Tree) → header.kind ≡ 11 → entered_parts σ header header.size ≡ Some τ → decoded false (elements (value_at tested) header.size) τ ≡ Some (ts, ρ) → Kept τ ρ → π ≡ record ρ { levels = ρ.levels - 1 } → decoded false (value_at tested) σ ≡ Some (array_of ts, π)
  array_read ρ π ts k e d kept p =
      let go = (goes_to_parts σ τ header header.size e).0 in
      let up : ρ.levels - 1 ≡ σ.levels = omega (arith, kept.levels, go.levels) in
      any_array tested σ header here k ∙ rw (e, d, p, up) refl

  pub table_not_entered : header.kind ≡ 7 → entered_parts σ header (2 * header.size) ≡ None → decoded false (value_at tested) σ ≡ None
  table_not_entered k e = any_table tested σ header here k ∙ rw e refl

  pub table_not_read : header.kind ≡ 7 → entered_parts σ header (2 * header.size) ≡ Some τ → decoded false (elements (pair_at tested (value_at tested)) header.size) τ ≡ None → decoded false (value_at tested) σ ≡ None
  table_not_read k e d = any_table tested σ header here k ∙ rw (e, d) refl

  pub table_read : (ρ π : State) (xs : List (List ℕ × Tree)) → header.kind ≡ 7 → entered_parts σ header (2 * header.size) ≡ Some τ → decoded false (elements (pair_at tested (value_at tested)) header.size) τ ≡ Some (xs, ρ) → Kept τ ρ → π ≡ record ρ { levels = ρ.levels - 1 } → decoded false (value_at tested) σ ≡ Some (table_of xs, π)
  table_read ρ π xs k e d kept p =
      let go = (goes_to_parts σ τ header (2 * header.size) e).0 in
      let up : ρ.levels - 1 ≡ σ.levels = omega (arith, kept.levels, go.levels) in
      any_table tested σ header here k ∙ rw (e, d, p, up) refl

-- a key and its value
pair_value : (read : Meaning Tree) (o : Option (List ℕ × State)) → (o >>= λ x. decoded false (mapped {A = Tree} {B = List ℕ × Tree} (λ v. (x.0, v)) read) x.1) ≡ (o >>= λ x. seen {A = Tree} {B = List ℕ × Tree} (λ v. (x.0, v)) (decoded false read x.1))
pair_value read None = refl
pair_value read (Some x) = decoded-mapped false (λ (v : Tree). (x.0, v)) read x.1

pub decoded-pair : (tested : Truth) (read : Meaning Tree) (σ : State) → decoded false (pair_at tested read) σ ≡ (decoded false (key_at tested) σ >>= λ x. seen {A = Tree} {B = List ℕ × Tree} (λ v. (x.0, v)) (decoded false read x.1))
decoded-pair tested read σ = decoded-followed (key_at tested) (λ k. mapped {A = Tree} {B = List ℕ × Tree} (λ v. (k, v)) read) σ ∙ pair_value read (decoded false (key_at tested) σ)

pub pair_no_key : (tested : Truth) (read : Meaning Tree) (σ : State) → decoded false (key_at tested) σ ≡ None → decoded false (pair_at tested read) σ ≡ None
pair_no_key tested read σ h = decoded-pair tested read σ ∙ rw h refl

pub pair_no_value : (tested : Truth) (read : Meaning Tree) (σ τ : State) (k : List ℕ) → decoded false (key_at tested) σ ≡ Some (k, τ) → decoded false read τ ≡ None → decoded false (pair_at tested read) σ ≡ None
pair_no_value tested read σ τ k h d = decoded-pair tested read σ ∙ rw (h, d) refl

pub pair_read : (tested : Truth) (read : Meaning Tree) (σ τ ρ : State) (k : List ℕ) (v : Tree) → decoded false (key_at tested) σ ≡ Some (k, τ) → decoded false read τ ≡ Some (v, ρ) → decoded false (pair_at tested read) σ ≡ Some ((k, v), ρ)
pair_read tested read σ τ ρ k v h d = decoded-pair tested read σ ∙ rw (h, d) refl

-- a key and a text, whose header was looked at between
module _ (tested : Truth) (σ τ μ : State) (header : Header) (k : List ℕ) (key : decoded false (key_at tested) σ ≡ Some (k, τ)) (here : header_at τ.section τ.offset ≡ Some header) (kind : header.kind ≡ 2) (same : μ ≡ τ) where
  as_text : decoded false (value_at tested) τ ≡ decoded false (scalar_of tested header) μ
  as_text = rw same (any_scalar tested τ header here (omega arith) (omega arith) (omega arith))

  pub text_paired : (ρ : State) (v : Tree) → decoded false (scalar_of tested header) μ ≡ Some (v, ρ) → decoded false (pair_at tested (value_at tested)) σ ≡ Some ((k, v), ρ)
  text_paired ρ v h = pair_read tested (value_at tested) σ τ ρ k v key (as_text ∙ h)

  pub text_not_paired : decoded false (scalar_of tested header) μ ≡ None → decoded false (pair_at tested (value_at tested)) σ ≡ None
  text_not_paired h = pair_no_value tested (value_at tested) σ τ k key (as_text ∙ h)

-- what is looked at before it is taken
seen_scalar : (τ : State) (o : Option Scalar) → seen scalar (o >>= λ y. Some (y, τ)) ≡ (option_map scalar o >>= λ t. Some (t, τ))
seen_scalar τ None = refl
seen_scalar τ (Some y) = refl

pub scalar_unread : (tested : Truth) (header : Header) (σ : State) → decoded false (content_of header) σ ≡ None → decoded false (scalar_of tested header) σ ≡ None
scalar_unread tested header σ h = decoded-mapped false scalar (checked (if_scalar_text tested) (content_of header)) σ ∙ ap (seen scalar) (decoded-checked (if_scalar_text tested) (content_of header) σ) ∙ rw h refl

pub scalar_looked_at : (tested : Truth) (header : Header) (σ τ : State) (x : Scalar) (o : Option Tree) → decoded false (content_of header) σ ≡ Some (x, τ) → o ≡ option_map scalar (if_scalar_text tested x) → decoded false (scalar_of tested header) σ ≡ (o >>= λ t. Some (t, τ))
scalar_looked_at tested header σ τ x o h e = decoded-mapped false scalar (checked (if_scalar_text tested) (content_of header)) σ ∙ ap (seen scalar) (decoded-checked (if_scalar_text tested) (content_of header) σ) ∙ rw (h, e) (seen_scalar τ (if_scalar_text tested x))

pub key_unread : (tested : Truth) (σ : State) → decoded false raw_key_at σ ≡ None → decoded false (key_at tested) σ ≡ None
key_unread tested σ h = decoded-checked (if_utf8 tested) raw_key_at σ ∙ rw h refl

pub key_looked_at : (tested : Truth) (σ τ : State) (x : List ℕ) (o : Option (List ℕ)) → decoded false raw_key_at σ ≡ Some (x, τ) → o ≡ if_utf8 tested x → decoded false (key_at tested) σ ≡ (o >>= λ t. Some (t, τ))
key_looked_at tested σ τ x o h e = decoded-checked (if_utf8 tested) raw_key_at σ ∙ rw (h, e) refl

pub same_here : (σ : State) → GivenUp σ σ
same_here σ = record { section = refl; charges = none_back σ.budget }

pub step_kept : {A : Type 0} (read : Meaning A) (σ τ ρ : State) (v : A) → Kept σ τ → decoded false read τ ≡ Some (v, ρ) → Kept σ ρ
step_kept read σ τ ρ v k h = kept_trans σ τ ρ k (kept_decoded false read τ ρ v h)

-- what follows the header of a text is one
settled_text : (σ τ : State) (r : Reading Scalar) (left : Option (Option Charges)) (v : Scalar) → settled σ r left ≡ Some (v, τ) → v ≡ r.value
settled_text σ τ r None v h = absurd (cc)
settled_text σ τ r (Some left) v h =
    let p : ◌≡◌ {A = Scalar × State} (v, τ) (r.value, state σ.section r.next σ.levels left) = cc in
    ap (λ (x : Scalar × State). x.0) p

text_by : (σ τ : State) (next : ℕ) (o : Option (List ℕ)) (v : Scalar) → (((o >>= λ x. Some (text x)) >>= λ c. Some (record { value = c; next = next; values = 0; bytes = scalar_payload c })) >>= after σ σ.budget) ≡ Some (v, τ) → (x : List ℕ) × (v ≡ text x)
text_by σ τ next None v h = absurd (cc)
text_by σ τ next (Some x) v h = (x, settled_text σ τ (record { value = text x; next = next; values = 0; bytes = length x }) (spent_of σ.budget 0 (length x)) v h)

pub is_text : (σ τ : State) (header : Header) (v : Scalar) → header.kind ≡ 2 → decoded false (content_of header) σ ≡ Some (v, τ) → (x : List ℕ) × (v ≡ text x)
unfolding decoded content_of content_at
is_text σ τ header v k h = text_by σ τ (header.body + header.size) (bytes_of_content σ.section header) v (rw k at h)

pub not_text : (content : Content) → ((x : Bor (List ℕ)) → content ≡ Text x → ⊥) → (x : List ℕ) → content_view content ≡ text x → ⊥
not_text (Text x) not y h = not x refl
not_text (Bytes x) not y h = absurd (cc)
not_text (Bool x) not y h = absurd (cc)
not_text (I32 x) not y h = absurd (cc)
not_text (U16 x) not y h = absurd (cc)
not_text (U32 x) not y h = absurd (cc)
not_text (U64 x) not y h = absurd (cc)
not_text (U128 x) not y h = absurd (cc)
not_text (Double x) not y h = absurd (cc)
not_text (Float x) not y h = absurd (cc)
