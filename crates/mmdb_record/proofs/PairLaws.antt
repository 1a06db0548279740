-- Maps with keys of text, pair by pair.
use Rattle.mmdb_decode.specs.Maps.{pair_of, put}
use Rattle.mmdb_decode.specs.Reading.{Meaning}
use Rattle.mmdb_decode.specs.State.{State, decoded}
use Rattle.std.proofs.Common.{◌≡◌, ℕ, List, [], ◌∷◌, Some, None, Bool, false, refl, sym, ap, ◌∙◌, IsSome}
use Rattle.mmdb_decode.proofs.StepLaws.{decoded_begun}
use Rattle.mmdb_decode.proofs.ReadingLaws.{decoded-mapped, seen}
use Rattle.std.specs.BTreeMap.{insert_entry}
use Rattle.std.specs.Cmp.Lexicographic.{slice_cmp}
use Rattle.std.specs.Ordering.{nat_cmp, match_ordering}
use Rattle.std.proofs.Common.{map, Ordering, Less, Equal, Greater}

-- what a pair makes of the pairs so far
pub pair_ok : {A : Type 0} (starts : Bool) (read : Meaning A) (p q : List (List ℕ × A)) (key : List ℕ) (v : A) (σ τ : State) → IsSome σ.budget → decoded starts read σ ≡ Some (v, τ) → q ≡ put p key v → decoded false (pair_of read p key) σ ≡ Some (q, τ)
pair_ok starts read p q key v σ τ s h e = decoded-mapped false (λ w. put p key w) read σ ∙ (ap (seen (λ w. put p key w)) (sym (decoded_begun starts read σ s) ∙ h) ∙ ap (λ x. Some (x, τ)) (sym e))

pub pair_none : {A : Type 0} (starts : Bool) (read : Meaning A) (p : List (List ℕ × A)) (key : List ℕ) (σ : State) → IsSome σ.budget → decoded starts read σ ≡ None → decoded false (pair_of read p key) σ ≡ None
pair_none starts read p key σ s h = decoded-mapped false (λ w. put p key w) read σ ∙ ap (seen (λ w. put p key w)) (sym (decoded_begun starts read σ s) ∙ h)

-- the same pairs, seen by bytes
put_at : {K X A : Type 0} (bytes : K → List ℕ) (f : X → A) (e : K × X) (es more : List (K × X)) (k : K) (v : X) (o : Ordering) → map (λ e. (bytes e.0, f e.1)) more ≡ put (map (λ e. (bytes e.0, f e.1)) es) (bytes k) (f v) → map (λ e. (bytes e.0, f e.1)) (match_ordering o ((k, v) ∷ e ∷ es) ((e.0, v) ∷ es) (e ∷ more)) ≡ match_ordering o ((bytes k, f v) ∷ (bytes e.0, f e.1) ∷ map (λ e. (bytes e.0, f e.1)) es) ((bytes e.0, f v) ∷ map (λ e. (bytes e.0, f e.1)) es) ((bytes e.0, f e.1) ∷ put (map (λ e. (bytes e.0, f e.1)) es) (bytes k) (f v))
put_at bytes f e es more k v Less h = refl
put_at bytes f e es more k v Equal h = refl
put_at bytes f e es more k v Greater h = ap (λ xs. (bytes e.0, f e.1) ∷ xs) h

put_seen : {K X A : Type 0} (cmp : K → K → Ordering) (bytes : K → List ℕ) (f : X → A) → ((x y : K) → cmp x y ≡ slice_cmp nat_cmp (bytes x) (bytes y)) → (es : List (K × X)) (k : K) (v : X) → map (λ e. (bytes e.0, f e.1)) (insert_entry cmp es k v) ≡ put (map (λ e. (bytes e.0, f e.1)) es) (bytes k) (f v)
put_seen cmp bytes f same [] k v = refl
put_seen cmp bytes f same (e ∷ es) k v = rw (same k e.0) (put_at bytes f e es (insert_entry cmp es k v) k v (slice_cmp nat_cmp (bytes k) (bytes e.0)) (put_seen cmp bytes f same es k v))

pub put_is : {K X A : Type 0} (cmp : K → K → Ordering) (bytes : K → List ℕ) (f : X → A) → ((x y : K) → cmp x y ≡ slice_cmp nat_cmp (bytes x) (bytes y)) → (old new : List (K × X)) (k : K) (key : List ℕ) (v : X) → new ≡ insert_entry cmp old k v → bytes k ≡ key → map (λ e. (bytes e.0, f e.1)) new ≡ put (map (λ e. (bytes e.0, f e.1)) old) key (f v)
put_is cmp bytes f same old new k key v h b = rw (h, ← b) (put_seen cmp bytes f same old k v)
