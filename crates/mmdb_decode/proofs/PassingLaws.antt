-- The relation of passing a value, and the function that skips it.
use Rattle.std.proofs.Common.{◌≡◌, ℕ, suc, zero, ◌+◌, ◌≤◌, max, List, Option, Some, None, Bool, true, false, nat_eq, refl, arith, cond}
use Rattle.std.specs.Option.{IfSome}
use Rattle.std.proofs.lemmas.Bool.Decides.{nat_tests}
use Rattle.mmdb_format.specs.declared.header.Header.{Header}
use Rattle.mmdb_format.specs.declared.header.Pointer.{Pointer}
use Rattle.mmdb_format.specs.Header.{◌>>=◌, header_at}
use Rattle.mmdb_format.specs.Pointer.{pointer_at}
use Rattle.mmdb_format.specs.Contents.{Scalar, content_at, content_end, passed_end}
use Rattle.mmdb_decode.specs.Reading.{Reading, Meaning, plus}
use Rattle.mmdb_decode.specs.Skipping.{most_nested, parts_of, passes, skip_scalar, counted, skip_flat, skip_nested, skip_within, skip_at, Skips, passed_scalar, passed_pointer, passed_container, AllSkip, none_passed, one_more_passed, SkippingIsPassing}
use Rattle.mmdb_decode.proofs.Options.{if_bind, if_cond, if_is}

abbrev at : ℕ → ℕ → Reading (Unit {0})
at q values = record { value = tt; next = q; values = values; bytes = 0 }

-- a value that was passed, and a number of them
pub record IsPassed (s : List ℕ) (p most : ℕ) (r : Reading (Unit {0})) : Type 0 where
  pub nested : ℕ
  pub skips : Skips s p nested r.values r.next
  pub levels : nested ≤ most
  pub bytes : r.bytes ≡ 0

pub record ArePassed (s : List ℕ) (p n most : ℕ) (r : Reading (Unit {0})) : Type 0 where
  pub nested : ℕ
  pub skip : AllSkip s p n nested r.values r.next
  pub levels : nested ≤ most
  pub bytes : r.bytes ≡ 0

scalar_passed : (s : List ℕ) (p most : ℕ) (header : Header) → header_at s p ≡ Some header → IfSome (skip_scalar s header) (IsPassed s p most)
unfolding passed_end
scalar_passed s p most header h =
    if_bind (cond (nat_eq header.kind 1) (pointer_at s header.body header.size >>= λ to. Some to.next) (content_at s header >>= λ c. Some (content_end header))) _ (IsPassed s p most) (λ next e.
    if_is (cond (nat_eq header.kind 1) (pointer_at s header.body header.size >>= λ to. Some to.next) (content_at s header >>= λ c. Some (content_end header))) (λ next. IsPassed s p most (at next 0)) next
    (if_cond (nat_eq header.kind 1) _ _ (λ next. IsPassed s p most (at next 0))
    (λ k. let one : header.kind ≡ 1 = grind (arith, nat_tests) in if_bind (pointer_at s header.body header.size) _ (λ next. IsPassed s p most (at next 0)) (λ to a. record { nested = 0; skips = passed_pointer h one a; levels = omega arith; bytes = refl }))
    (λ k. if_bind (content_at s header) _ (λ next. IsPassed s p most (at next 0)) (λ c a. record { nested = 0; skips = passed_scalar h a; levels = omega arith; bytes = refl })))
    e)

both_passed : (s : List ℕ) (p n most : ℕ) (x : Reading (Unit {0})) (o : Option (Reading (Unit {0}))) → IsPassed s p most x → IfSome o (ArePassed s x.next n most) → IfSome (o >>= λ y. Some (plus x y)) (ArePassed s p (suc n) most)
both_passed s p n most x None h k = tt
both_passed s p n most x (Some y) h k = record { nested = max h.nested k.nested; skip = one_more_passed h.skips k.skip; levels = omega (arith, h.levels, k.levels); bytes = omega (arith, h.bytes, k.bytes) }

all_passed : (s : List ℕ) (read : Meaning (Unit {0})) (most : ℕ) → ((p d : ℕ) → IfSome (read s p d) (IsPassed s p most)) → (n p d : ℕ) → IfSome (passes read n s p d) (ArePassed s p n most)
all_passed s read most each zero p d = record { nested = 0; skip = none_passed; levels = omega arith; bytes = refl }
all_passed s read most each (suc n) p d = if_bind (read s p d) _ (ArePassed s p (suc n) most) (λ x e. both_passed s p n most x (passes read n s x.next d) (if_is (read s p d) (IsPassed s p most) x (each p d) e) (all_passed s read most each n x.next d))

flat_passed : (s : List ℕ) (p : ℕ) (header : Header) (o : Option ℕ) → header_at s p ≡ Some header → IfSome (skip_flat s header o) (IsPassed s p zero)
flat_passed s p header (Some n) h = tt
flat_passed s p header None h = scalar_passed s p zero header h

parts_passed : (s : List ℕ) (p n most : ℕ) (header : Header) (o : Option (Reading (Unit {0}))) → header_at s p ≡ Some header → parts_of header ≡ Some n → IfSome o (ArePassed s header.body n most) → IfSome (o >>= λ r. Some (counted n r)) (IsPassed s p (suc most))
parts_passed s p n most header None h k a = tt
parts_passed s p n most header (Some r) h k a = record { nested = suc a.nested; skips = passed_container h k a.skip; levels = omega (arith, a.levels); bytes = a.bytes }

nested_passed : (s : List ℕ) (read : Meaning (Unit {0})) (p d most : ℕ) (header : Header) (o : Option ℕ) → ((p d : ℕ) → IfSome (read s p d) (IsPassed s p most)) → header_at s p ≡ Some header → parts_of header ≡ o → IfSome (skip_nested read s d header o) (IsPassed s p (suc most))
nested_passed s read p d most header None each h k = scalar_passed s p (suc most) header h
nested_passed s read p d most header (Some n) each h k = parts_passed s p n most header (passes read n s header.body d) h k (all_passed s read most each n header.body d)

pub within_passed : (s : List ℕ) (n p d : ℕ) → IfSome (skip_within n s p d) (IsPassed s p n)
unfolding skip_within
within_passed s zero p d = if_bind (header_at s p) _ (IsPassed s p zero) (λ header h. flat_passed s p header (parts_of header) h)
within_passed s (suc n) p d = if_bind (header_at s p) _ (IsPassed s p (suc n)) (λ header h. nested_passed s (skip_within n) p d n header (parts_of header) (within_passed s n) h refl)

-- whatever passes is skipped
pub no_content_1 : (s : List ℕ) (header : Header) → header.kind ≡ 1 → content_at s header ≡ None
unfolding content_at
no_content_1 s header k = rw k refl

pub no_content_7 : (s : List ℕ) (header : Header) → header.kind ≡ 7 → content_at s header ≡ None
unfolding content_at
no_content_7 s header k = rw k refl

pub no_content_11 : (s : List ℕ) (header : Header) → header.kind ≡ 11 → content_at s header ≡ None
unfolding content_at
no_content_11 s header k = rw k refl

pub not_kind : {A : Type 0} (b : Bool) (o : Option A) (x : A) → (b ≡ true → o ≡ None) → o ≡ Some x → b ≡ false
not_kind true o x h k = let e = h refl in absurd (cc)
not_kind false o x h k = refl

no_pointer : (s : List ℕ) (header : Header) (x : Scalar) → content_at s header ≡ Some x → nat_eq header.kind 1 ≡ false
no_pointer s header x h = not_kind (nat_eq header.kind 1) (content_at s header) x (λ e. no_content_1 s header (grind (arith, nat_tests))) h

no_parts : (s : List ℕ) (header : Header) (x : Scalar) → content_at s header ≡ Some x → parts_of header ≡ None
unfolding parts_of
no_parts s header x h =
    let a : nat_eq header.kind 7 ≡ false = not_kind (nat_eq header.kind 7) (content_at s header) x (λ e. no_content_7 s header (grind (arith, nat_tests))) h in
    let b : nat_eq header.kind 11 ≡ false = not_kind (nat_eq header.kind 11) (content_at s header) x (λ e. no_content_11 s header (grind (arith, nat_tests))) h in
    rw (a, b) refl

scalar_end : (s : List ℕ) (header : Header) (x : Scalar) → content_at s header ≡ Some x → skip_scalar s header ≡ Some (at (content_end header) 0)
unfolding passed_end
scalar_end s header x h = rw (no_pointer s header x h, h) refl

scalar_step : (s : List ℕ) (p n d : ℕ) (header : Header) (x : Scalar) → header_at s p ≡ Some header → content_at s header ≡ Some x → skip_within n s p d ≡ Some (at (content_end header) 0)
unfolding skip_within
scalar_step s p zero d header x h k = rw (h, no_parts s header x k) (scalar_end s header x k)
scalar_step s p (suc n) d header x h k = rw (h, no_parts s header x k) (scalar_end s header x k)

pointer_parts : (header : Header) → header.kind ≡ 1 → parts_of header ≡ None
unfolding parts_of
pointer_parts header k = rw k refl

pointer_end : (s : List ℕ) (header : Header) (to : Pointer) → header.kind ≡ 1 → pointer_at s header.body header.size ≡ Some to → skip_scalar s header ≡ Some (at to.next 0)
unfolding passed_end
pointer_end s header to k h = rw (k, h) refl

pointer_step : (s : List ℕ) (p n d : ℕ) (header : Header) (to : Pointer) → header_at s p ≡ Some header → header.kind ≡ 1 → pointer_at s header.body header.size ≡ Some to → skip_within n s p d ≡ Some (at to.next 0)
unfolding skip_within
pointer_step s p zero d header to h k a = rw (h, pointer_parts header k) (pointer_end s header to k a)
pointer_step s p (suc n) d header to h k a = rw (h, pointer_parts header k) (pointer_end s header to k a)

container_step : (s : List ℕ) (p m d n c q : ℕ) (header : Header) → header_at s p ≡ Some header → parts_of header ≡ Some n → passes (skip_within m) n s header.body d ≡ Some (at q c) → skip_within (suc m) s p d ≡ Some (at q (n + c))
unfolding skip_within
container_step s p m d n c q header h k a = rw (h, k, a) refl

one_step : (s : List ℕ) (read : Meaning (Unit {0})) (p n d b c q r : ℕ) → read s p d ≡ Some (at q b) → passes read n s q d ≡ Some (at r c) → passes read (suc n) s p d ≡ Some (at r (b + c))
one_step s read p n d b c q r h k = rw (h, k) refl

mutual
  pub is_skipped : {s : List ℕ} {p h c q : ℕ} → Skips s p h c q → (n d : ℕ) → h ≤ n → skip_within n s p d ≡ Some (at q c)
  is_skipped (passed_scalar h k) n d l = scalar_step _ _ n d _ _ h k
  is_skipped (passed_pointer h k a) n d l = pointer_step _ _ n d _ _ h k a
  is_skipped (passed_container h k a) zero d l = absurd (omega arith)
  is_skipped (passed_container h k a) (suc m) d l = container_step _ _ m d _ _ _ _ h k (are_skipped a m d (omega arith))

  pub are_skipped : {s : List ℕ} {p n h c q : ℕ} → AllSkip s p n h c q → (m d : ℕ) → h ≤ m → passes (skip_within m) n s p d ≡ Some (at q c)
  are_skipped none_passed m d l = refl
  are_skipped (one_more_passed a b) m d l = one_step _ (skip_within m) _ _ d _ _ _ _ (is_skipped a m d (omega arith)) (are_skipped b m d (omega arith))

-- the two ways together
to_passing : (s : List ℕ) (p d q c b : ℕ) → skip_at s p d ≡ Some (record { value = tt; next = q; values = c; bytes = b }) → (h : ℕ) × Skips s p h c q × (h ≤ most_nested) × (b ≡ 0)
to_passing s p d q c b e = let x = if_is (skip_within most_nested s p d) (IsPassed s p most_nested) (record { value = tt; next = q; values = c; bytes = b }) (within_passed s most_nested p d) e in (x.nested, x.skips, x.levels, x.bytes)

from_passing : (s : List ℕ) (p d q c b : ℕ) → (h : ℕ) × Skips s p h c q × (h ≤ most_nested) × (b ≡ 0) → skip_at s p d ≡ Some (record { value = tt; next = q; values = c; bytes = b })
from_passing s p d q c b x = rw x.3 (is_skipped x.1 most_nested d x.2)

pub skipping-is_passing : SkippingIsPassing
skipping-is_passing s p d q c b = (to_passing s p d q c b, from_passing s p d q c b)
