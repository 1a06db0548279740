-- Going along a path, step by step, and what is read at its end.
use Rattle.std.proofs.Common.{◌≡◌, ℕ, List, [], ◌∷◌, Option, Some, None, Bool, true, false, refl, sym, ap, ◌∙◌, IsSome, if◌then◌else◌, option_map, ◌==◌, inl, inr, ◌+◌, ◌<◌, ◌≤◌, ◌++◌, length, take, drop, get_or, append-nil}
use Rattle.std.proofs.lemmas.Grind.{flat_map-append}
use Rattle.std.proofs.lemmas.List.{take_more, drop_more, drop_all}
use Rattle.mmdb_format.specs.Header.{◌>>=◌}
use Rattle.mmdb_format.specs.Error.{OfMemory, kind_of, IsOfOrMemory}
use Rattle.mmdb_format.specs.declared.error.MaxMindDbError.{MaxMindDbError}
use Rattle.mmdb_format.specs.declared.error.MaxMindDbError.TheVariants.{InvalidDatabase, Io, Decoding, ResourceLimit, InvalidNetwork, InvalidInput, Memory}
use Rattle.mmdb_decode.specs.Reading.{Meaning, given}
use Rattle.mmdb_decode.specs.Errors.{Fails, answer}
use Rattle.mmdb_decode.specs.State.{State, begun, decoded, Within}
use Rattle.mmdb_decode.specs.declared.budget.Charges.{Charges}
use Rattle.mmdb_decode.proofs.ReadingLaws.{decoded-followed, decoded-mapped, seen}
use Rattle.mmdb_decode.proofs.SkipLaws.{begins, decoded_begins}
use Rattle.mmdb_decode.proofs.StepLaws.{read_free, decoded_begun, fails, kept_decoded, still_begun}
use Rattle.mmdb_reader.specs.Decoding.{FailsToDecode}
use Rattle.mmdb_reader.specs.PathText.{step_text, path_text}
use Rattle.mmdb_reader.specs.Selecting.{at_step, selected, read_there, read_along, answer_along, SelectsTo}
use Rattle.mmdb_reader.specs.declared.path.PathElement.{PathElement}
use Rattle.mmdb_reader.specs.declared.path.PathElement.TheVariants.{Key}

given_here : {A : Type 0} (v : A) (σ : State) → Within σ.budget → decoded false (given v) σ ≡ Some (v, σ)
given_here v σ w = read_free (given v) σ v σ.offset w refl

-- one step and the others
step_first : (e : PathElement) (path : List PathElement) (σ : State) → IsSome σ.budget → decoded false (selected (e ∷ path)) σ ≡ (decoded true (at_step e) σ >>= λ x. decoded false (if x.0 then selected path else given false) x.1)
step_first e path σ s = rw (decoded_begun true (at_step e) σ s) (decoded-followed (at_step e) (λ there. if there then selected path else given false) σ)

pub along_done : (whole : Option (Bool × State)) (path : List PathElement) (σ : State) → whole ≡ decoded false (selected path) σ → path ≡ [] → Within σ.budget → whole ≡ Some (true, σ)
along_done whole path σ h e w = h ∙ rw e (given_here true σ w)

pub along_goes_on : (whole : Option (Bool × State)) (path rest : List PathElement) (e : PathElement) (σ τ : State) → whole ≡ decoded false (selected path) σ → path ≡ e ∷ rest → IsSome σ.budget → decoded true (at_step e) σ ≡ Some (true, τ) → whole ≡ decoded false (selected rest) τ
along_goes_on whole path rest e σ τ h k s d = h ∙ rw k (step_first e rest σ s ∙ rw d refl)

pub along_ends : (whole : Option (Bool × State)) (path rest : List PathElement) (e : PathElement) (σ τ : State) → whole ≡ decoded false (selected path) σ → path ≡ e ∷ rest → IsSome σ.budget → decoded true (at_step e) σ ≡ Some (false, τ) → Within τ.budget → whole ≡ Some (false, τ)
along_ends whole path rest e σ τ h k s d w = h ∙ rw k (step_first e rest σ s ∙ rw d (given_here false τ w))

pub along_stops : (whole : Option (Bool × State)) (path rest : List PathElement) (e : PathElement) (σ : State) → whole ≡ decoded false (selected path) σ → path ≡ e ∷ rest → IsSome σ.budget → decoded true (at_step e) σ ≡ None → whole ≡ None
along_stops whole path rest e σ h k s d = h ∙ rw k (step_first e rest σ s ∙ rw d refl)

-- a whole reading along a path, from the start
along_whole : {A : Type 0} (path : List PathElement) (read : Meaning A) (σ τ : State) → τ ≡ begins σ → decoded true (read_along path read) σ ≡ (decoded false (selected path) τ >>= λ x. decoded false (read_there read x.0) x.1)
along_whole path read σ τ e = decoded_begins (read_along path read) σ ∙ rw (← e) (decoded-followed (selected path) (read_there read) τ)

pub along_selected : (path : List PathElement) (σ τ ρ : State) (there : Bool) → τ ≡ begins σ → decoded false (selected path) τ ≡ Some (there, ρ) → decoded true (selected path) σ ≡ Some (there, ρ)
along_selected path σ τ ρ there e h = decoded_begins (selected path) σ ∙ rw (← e) h

pub along_mismatched : {A : Type 0} (path : List PathElement) (read : Meaning A) (σ τ : State) → τ ≡ begins σ → decoded false (selected path) τ ≡ None → decoded true (read_along path read) σ ≡ None
along_mismatched path read σ τ e h = along_whole path read σ τ e ∙ rw h refl

pub along_absent : {A : Type 0} (path : List PathElement) (read : Meaning A) (σ τ ρ : State) → τ ≡ begins σ → decoded false (selected path) τ ≡ Some (false, ρ) → Within ρ.budget → decoded true (read_along path read) σ ≡ Some (None, ρ)
along_absent {A = A} path read σ τ ρ e h w = along_whole path read σ τ e ∙ rw h (given_here {A = Option A} None ρ w)

pub along_read : {A : Type 0} (path : List PathElement) (read : Meaning A) (starts : Bool) (σ τ ρ π : State) (v : A) → τ ≡ begins σ → decoded false (selected path) τ ≡ Some (true, ρ) → IsSome ρ.budget → decoded starts read ρ ≡ Some (v, π) → decoded true (read_along path read) σ ≡ Some (Some v, π)
along_read path read starts σ τ ρ π v e h s d = along_whole path read σ τ e ∙ rw h (decoded-mapped false Some read ρ ∙ ap (seen Some) (sym (decoded_begun starts read ρ s) ∙ d))

pub along_unread : {A : Type 0} (path : List PathElement) (read : Meaning A) (starts : Bool) (σ τ ρ : State) → τ ≡ begins σ → decoded false (selected path) τ ≡ Some (true, ρ) → IsSome ρ.budget → decoded starts read ρ ≡ None → decoded true (read_along path read) σ ≡ None
along_unread path read starts σ τ ρ e h s d = along_whole path read σ τ e ∙ rw h (decoded-mapped false Some read ρ ∙ ap (seen Some) (sym (decoded_begun starts read ρ s) ∙ d))

-- an error of the same kind, or for memory, says as much
memory_alone : {A : Type 0} (f : MaxMindDbError) (read : Option A) → IsOfOrMemory OfMemory f → Fails false f read
memory_alone Memory read k = tt
memory_alone (InvalidDatabase m o) read (inl k) = absurd (cc)
memory_alone (InvalidDatabase m o) read (inr k) = absurd (cc)
memory_alone (Io e) read (inl k) = absurd (cc)
memory_alone (Io e) read (inr k) = absurd (cc)
memory_alone (Decoding m o p) read (inl k) = absurd (cc)
memory_alone (Decoding m o p) read (inr k) = absurd (cc)
memory_alone (ResourceLimit m o p) read (inl k) = absurd (cc)
memory_alone (ResourceLimit m o p) read (inr k) = absurd (cc)
memory_alone (InvalidNetwork e) read (inl k) = absurd (cc)
memory_alone (InvalidNetwork e) read (inr k) = absurd (cc)
memory_alone (InvalidInput m) read (inl k) = absurd (cc)
memory_alone (InvalidInput m) read (inr k) = absurd (cc)

pub fails_as_much : {A : Type 0} (free : Bool) (e f : MaxMindDbError) (read : Option A) → IsOfOrMemory (kind_of e) f → Fails free e read → Fails free f read
fails_as_much true e f read k h = h
fails_as_much false Memory f read k h = memory_alone f read k
fails_as_much false (InvalidDatabase m o) f read k h = fails false f read h
fails_as_much false (Io e) f read k h = fails false f read h
fails_as_much false (Decoding m o p) f read k h = fails false f read h
fails_as_much false (ResourceLimit m o p) f read k h = fails false f read h
fails_as_much false (InvalidNetwork e) f read k h = fails false f read h
fails_as_much false (InvalidInput m) f read k h = fails false f read h

-- the text of a path, step by step
pub no_text : (text : List ℕ) → text ≡ [] → text ≡ path_text []
unfolding path_text
no_text text h = h

pub more_text : (path : List PathElement) (i : ℕ) (d : PathElement) (old one new : List ℕ) → i < length path → old ≡ path_text (take i path) → one ≡ step_text (get_or path i d) → new ≡ old ++ one → new ≡ path_text (take (i + 1) path)
unfolding path_text
more_text path i d old one new l h k e = e ∙ rw (h, k, take_more path i d l, flat_map-append) (ap (λ x. path_text (take i path) ++ x) (sym (append-nil (step_text (get_or path i d)))))

-- the step that is taken next
abbrev pub no_step : PathElement
no_step = Key (record { ref_ptr = (0, 0); now = [] })

abbrev pub step_at : List PathElement → ℕ → PathElement
step_at path i = get_or path i no_step

pub next_step : (path : List PathElement) (i : ℕ) → i < length path → drop i path ≡ step_at path i ∷ drop (i + 1) path
next_step path i l = drop_more path i no_step l

pub no_more_steps : (path : List PathElement) (i : ℕ) → length path ≤ i → drop i path ≡ []
no_more_steps path i l = drop_all i path l

is_begun : (budget : Option Charges) → IsSome (begun true budget)
is_begun None = refl
is_begun (Some c) = refl

-- the budget on the way
pub started : (σ τ : State) → τ ≡ begins σ → IsSome τ.budget
started σ τ e = rw e (is_begun σ.budget)

pub still_started : (path : List PathElement) (σ τ ρ : State) (there : Bool) → τ ≡ begins σ → decoded false (selected path) τ ≡ Some (there, ρ) → IsSome ρ.budget
still_started path σ τ ρ there e h = still_begun τ.budget ρ.budget (kept_decoded false (selected path) τ ρ there h).charges (started σ τ e)

-- with a step, the budget begins
with_step : {A : Type 0} (path : List PathElement) (starts : Bool) (read : Meaning A) (s : List ℕ) (p : ℕ) → false ≡ (length path == 0) → answer_along path starts read s p ≡ answer true (read_along path read) s p
with_step [] starts read s p h = absurd (cc)
with_step (e ∷ path) starts read s p h = refl

pub selects : {T A : Type 0} (datum : T → A) (path : List PathElement) (starts : Bool) (read : Meaning A) (s section : List ℕ) (o : Option ℕ) (p : ℕ) (value : Option T) → false ≡ (length path == 0) → section ≡ s → o ≡ Some p → answer true (read_along path read) section p ≡ Some (option_map datum value) → SelectsTo datum (answer_along path starts read s) o value
selects datum path starts read s section o p value h e k d = rw (k, ← e) (with_step path starts read section p h ∙ d)

pub selects_nothing : {A : Type 0} (free : Bool) (e f : MaxMindDbError) (path : List PathElement) (starts : Bool) (read : Meaning A) (s section : List ℕ) (o : Option ℕ) (p : ℕ) → false ≡ (length path == 0) → section ≡ s → o ≡ Some p → kind_of f ≡ kind_of e → Fails free e (answer true (read_along path read) section p) → FailsToDecode free f (answer_along path starts read s) o
selects_nothing free e f path starts read s section o p h same k kind d = rw (k, ← same, with_step path starts read section p h) (fails_as_much free e f (answer true (read_along path read) section p) (inl kind) d)

-- a container that is charged and given up
