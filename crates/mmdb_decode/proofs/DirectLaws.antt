-- Headers that are read directly or through one pointer, and the trees that unfold there.
use Rattle.std.specs.Option.{IfSome}
use Rattle.std.proofs.Common.{◌≡◌, ◌⊎◌, ℕ, ◌+◌, ◌<◌, List, Option, Some, None, true, false, nat_eq, nat_lt, refl, sym, ◌∙◌, arith, inl, inr}
use Rattle.std.proofs.lemmas.Bool.Decides.{nat_tests}
use Rattle.mmdb_format.specs.declared.header.Header.{Header}
use Rattle.mmdb_format.specs.declared.header.Pointer.{Pointer}
use Rattle.mmdb_format.specs.declared.header.Direct.{Direct}
use Rattle.mmdb_format.specs.Header.{◌>>=◌, header_at}
use Rattle.mmdb_format.specs.Pointer.{pointer_at, direct_at, behind, most_levels}
use Rattle.mmdb_format.specs.Contents.{Scalar, content_at, content_end, end_of}
use Rattle.mmdb_format.specs.Unfolding.{Tree, scalar, pointer, Unfolds, scalar_here, pointer_here}
use Rattle.mmdb_decode.specs.Reading.{Reading, Meaning}
use Rattle.mmdb_decode.specs.Scalars.{direct_of}
use Rattle.mmdb_decode.specs.ScalarReads.{ScalarStands}
use Rattle.mmdb_decode.proofs.Options.{if_bind, if_cond, if_is}

-- a header that is no pointer, directly
pub record StandsHere (s : List ℕ) (p d : ℕ) (at : Direct) : Type 0 where
  pub here : header_at s p ≡ Some at.header
  pub after : at.after ≡ None
  pub levels : at.levels ≡ d

-- or through one pointer
pub record StandsBehind (s : List ℕ) (p d : ℕ) (at : Direct) : Type 0 where
  pub first : Header
  pub to : Pointer
  pub here : header_at s p ≡ Some first
  pub kind : first.kind ≡ 1
  pub points : pointer_at s first.body first.size ≡ Some to
  pub there : header_at s to.target ≡ Some at.header
  pub after : at.after ≡ Some to.next
  pub levels : at.levels ≡ d + 1
  pub room : d < most_levels

abbrev pub StandsDirectly : List ℕ → ℕ → ℕ → Direct → Type 0
StandsDirectly s p d at = StandsHere s p d at ⊎ StandsBehind s p d at

pub direct_sound : (s : List ℕ) (p d : ℕ) → IfSome (direct_at s p d) (StandsDirectly s p d)
unfolding direct_at behind
direct_sound s p d =
    if_bind (header_at s p) _ (StandsDirectly s p d) (λ header h.
    if_cond (nat_eq header.kind 1) _ _ (StandsDirectly s p d)
    (λ k. if_bind (pointer_at s header.body header.size) _ (StandsDirectly s p d) (λ to a.
    if_cond (nat_lt d most_levels) _ _ (StandsDirectly s p d)
    (λ l. if_bind (header_at s to.target) _ (StandsDirectly s p d) (λ target b.
    if_cond (nat_eq target.kind 1) _ _ (StandsDirectly s p d)
    (λ n. tt)
    (λ n. inr (record { first = header; to = to; here = h; kind = grind (arith, nat_tests); points = a; there = b; after = refl; levels = refl; room = grind (arith, nat_tests) }))))
    (λ l. tt)))
    (λ k. inl (record { here = h; after = refl; levels = refl })))

pub of_sound : (kind : ℕ) (s : List ℕ) (p d : ℕ) → IfSome (direct_of kind s p d) (λ at. StandsDirectly s p d at × (at.header.kind ≡ kind))
unfolding direct_of
of_sound kind s p d =
    if_bind (direct_at s p d) _ (λ at. StandsDirectly s p d at × (at.header.kind ≡ kind)) (λ at h.
    if_cond (nat_eq at.header.kind kind) _ _ (λ at. StandsDirectly s p d at × (at.header.kind ≡ kind))
    (λ k. (if_is (direct_at s p d) (StandsDirectly s p d) at (direct_sound s p d) h, grind (arith, nat_tests)))
    (λ k. tt))

-- the other way
pub of_here : (kind : ℕ) (s : List ℕ) (p d : ℕ) (header : Header) → nat_eq kind 1 ≡ false → header_at s p ≡ Some header → header.kind ≡ kind → direct_of kind s p d ≡ Some (record { header = header; after = None; levels = d })
unfolding direct_of direct_at
of_here kind s p d header n h k = let same : nat_eq kind kind ≡ true = grind (arith, nat_tests) in rw (h, k, n, same) refl

pub of_behind : (kind : ℕ) (s : List ℕ) (p d : ℕ) (first header : Header) (to : Pointer) → nat_eq kind 1 ≡ false → header_at s p ≡ Some first → first.kind ≡ 1 → pointer_at s first.body first.size ≡ Some to → d < most_levels → header_at s to.target ≡ Some header → header.kind ≡ kind → direct_of kind s p d ≡ Some (record { header = header; after = Some to.next; levels = d + 1 })
unfolding direct_of direct_at behind
of_behind kind s p d first header to n h one a l b k = let room : nat_lt d 512 ≡ true = grind (arith, nat_tests) in let same : nat_eq kind kind ≡ true = grind (arith, nat_tests) in rw (h, one, a, room, b, k, n, same) refl

-- a scalar and a pointer that unfold
pub record IsScalarAt (s : List ℕ) (p : ℕ) (c : Scalar) (q : ℕ) : Type 0 where
  pub header : Header
  pub here : header_at s p ≡ Some header
  pub content : content_at s header ≡ Some c
  pub next : q ≡ content_end header

pub scalar_unfolds : {s : List ℕ} {p : ℕ} {c : Scalar} {q : ℕ} → Unfolds s p (scalar c) q → IsScalarAt s p c q
scalar_unfolds (scalar_here {header = header} h k) = record { header = header; here = h; content = k; next = refl }

pub record IsPointerAt (s : List ℕ) (p : ℕ) (t : Tree) (q : ℕ) : Type 0 where
  pub header : Header
  pub to : Pointer
  pub end : ℕ
  pub here : header_at s p ≡ Some header
  pub kind : header.kind ≡ 1
  pub points : pointer_at s header.body header.size ≡ Some to
  pub target : Unfolds s to.target t end
  pub next : q ≡ to.next

pub pointer_unfolds : {s : List ℕ} {p a : ℕ} {t : Tree} {q : ℕ} → Unfolds s p (pointer a t) q → IsPointerAt s p t q
pointer_unfolds (pointer_here {q = q} {header = header} {to = to} h k a u) = record { header = header; to = to; end = q; here = h; kind = k; points = a; target = u; next = refl }

-- a value of one type, whatever is taken of its header
abbrev pub typed : {A : Type 0} → ℕ → (Header → Option A) → (Header → ℕ) → (A → ℕ) → Meaning A
typed kind take stop cost s p d = direct_of kind s p d >>= λ at. take at.header >>= λ v. Some (record { value = v; next = end_of at (stop at.header); values = 0; bytes = cost v })

pub unfolds_at : (s : List ℕ) (p d : ℕ) (at : Direct) (c : Scalar) → StandsDirectly s p d at → content_at s at.header ≡ Some c → ScalarStands s p d c (end_of at (content_end at.header))
unfolds_at s p d at c (inl h) k = inl (rw h.after (scalar_here h.here k))
unfolds_at s p d at c (inr h) k = inr (h.to.target, rw h.after (pointer_here h.here h.kind h.points (scalar_here h.there k)), h.room)

pub typed_sound : {A : Type 0} (kind : ℕ) (take : Header → Option A) (stop : Header → ℕ) (cost : A → ℕ) (says : A → Scalar) (s : List ℕ) → ((header : Header) (v : A) → header.kind ≡ kind → take header ≡ Some v → content_at s header ≡ Some (says v)) → ((header : Header) → header.kind ≡ kind → content_end header ≡ stop header) → (p d : ℕ) → IfSome (typed kind take stop cost s p d) (λ r. ScalarStands s p d (says r.value) r.next × (r.values ≡ 0) × (r.bytes ≡ cost r.value))
typed_sound {A = A} kind take stop cost says s content ends p d =
    let P : Reading A → Type 0 = λ r. ScalarStands s p d (says r.value) r.next × (r.values ≡ 0) × (r.bytes ≡ cost r.value) in
    if_bind (direct_of kind s p d) _ P (λ at h.
    if_bind (take at.header) _ P (λ v k.
    let w = if_is (direct_of kind s p d) (λ at. StandsDirectly s p d at × (at.header.kind ≡ kind)) at (of_sound kind s p d) h in
    (rw (ends at.header w.1) at (unfolds_at s p d at (says v) w.0 (content at.header v w.1 k)), refl, refl)))

typed_is : {A : Type 0} (kind : ℕ) (take : Header → Option A) (stop : Header → ℕ) (cost : A → ℕ) (s : List ℕ) (p d q : ℕ) (at : Direct) (v : A) → direct_of kind s p d ≡ Some at → take at.header ≡ Some v → end_of at (stop at.header) ≡ q → typed kind take stop cost s p d ≡ Some (record { value = v; next = q; values = 0; bytes = cost v })
typed_is kind take stop cost s p d q at v h k e = rw (h, k, e) refl

pub typed_complete : {A : Type 0} (kind : ℕ) (take : Header → Option A) (stop : Header → ℕ) (cost : A → ℕ) (s : List ℕ) (c : Scalar) (R : A → Type 0) → nat_eq kind 1 ≡ false → ((header : Header) → content_at s header ≡ Some c → (v : A) × (header.kind ≡ kind) × (take header ≡ Some v) × R v) → ((header : Header) → header.kind ≡ kind → content_end header ≡ stop header) → (p d q : ℕ) → ScalarStands s p d c q → (v : A) × R v × (typed kind take stop cost s p d ≡ Some (record { value = v; next = q; values = 0; bytes = cost v }))
typed_complete kind take stop cost s c R n back ends p d q (inl h) =
    let g = scalar_unfolds h in
    let w = back g.header g.content in
    (w.0, w.3, typed_is kind take stop cost s p d q (record { header = g.header; after = None; levels = d }) w.0 (of_here kind s p d g.header n g.here w.1) w.2 (sym (g.next ∙ ends g.header w.1)))
typed_complete kind take stop cost s c R n back ends p d q (inr h) =
    let f = pointer_unfolds h.1 in
    let g = scalar_unfolds f.target in
    let w = back g.header g.content in
    (w.0, w.3, typed_is kind take stop cost s p d q (record { header = g.header; after = Some f.to.next; levels = d + 1 }) w.0 (of_behind kind s p d f.header g.header f.to n f.here f.kind f.points h.2 g.here w.1) w.2 (sym f.next))
