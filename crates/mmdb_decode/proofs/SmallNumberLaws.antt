-- What is read as a small number is the whole number that unfolds there.
use Rattle.std.specs.Option.{IfSome}
use Rattle.std.proofs.Common.{◌≡◌, ℕ, zero, suc, ◌-◌, ◌≤◌, ℤ, ◌≤ℤ◌, List, Option, Some, None, Bool, true, false, nat_eq, refl, ap, ◌∙◌, arith, subst}
use Rattle.std.proofs.lemmas.Bool.Decides.{nat_tests}
use Rattle.std.proofs.lemmas.Int.{ints}
use Rattle.mmdb_format.specs.declared.header.Header.{Header}
use Rattle.mmdb_format.specs.declared.header.Pointer.{Pointer}
use Rattle.mmdb_format.specs.Header.{◌>>=◌, header_at}
use Rattle.mmdb_format.specs.Pointer.{pointer_at, most_levels}
use Rattle.mmdb_format.specs.Contents.{Scalar, content_at, content_end}
use Rattle.mmdb_format.specs.Unfolding.{Tree, scalar, pointer, Unfolds, scalar_here, array_here, table_here, pointer_here, levels_without_key_pointers, without_pointers}
use Rattle.mmdb_format.proofs.UnfoldingLaws.{no_content_of_pointer}
use Rattle.mmdb_decode.specs.Reading.{Reading}
use Rattle.mmdb_decode.specs.SmallNumbers.{whole_number, whole_here, whole_within, whole_at, if_between}
use Rattle.mmdb_decode.specs.ScalarReads.{ReadsSmallNumbers}
use Rattle.mmdb_decode.proofs.Options.{if_bind, if_cond, if_is}
use Rattle.mmdb_decode.proofs.SmallLaws.{whole_plain, whole_behind, between_yes}

abbrev at : {A : Type 0} → A → ℕ → ℕ → ℕ → Reading A
at v q c b = record { value = v; next = q; values = c; bytes = b }

-- within n more levels
abbrev Within : List ℕ → ℕ → ℕ → ℤ × ℕ → Type 0
Within s p n x = (u : Tree) × (c : Scalar) × Unfolds s p u x.1 × (without_pointers u ≡ scalar c) × (whole_number c ≡ Some x.0) × (levels_without_key_pointers u ≤ n)

here_sound : (s : List ℕ) (p n : ℕ) (header : Header) → header_at s p ≡ Some header → IfSome (whole_here s header) (Within s p n)
unfolding whole_here
here_sound s p n header h =
    if_bind (content_at s header) _ (Within s p n) (λ c k.
    if_bind (whole_number c) _ (Within s p n) (λ z e. (scalar c, c, scalar_here h k, refl, e, omega arith)))

within_sound : (s : List ℕ) (n p : ℕ) → IfSome (whole_within n s p) (Within s p n)
unfolding whole_within
within_sound s zero p = if_bind (header_at s p) _ (Within s p zero) (λ header h. here_sound s p zero header h)
within_sound s (suc n) p =
    if_bind (header_at s p) _ (Within s p (suc n)) (λ header h.
    if_cond (nat_eq header.kind 1) _ _ (Within s p (suc n))
    (λ k. if_bind (pointer_at s header.body header.size) _ (Within s p (suc n)) (λ to a.
    if_bind (whole_within n s to.target) _ (Within s p (suc n)) (λ x e.
    let w = if_is (whole_within n s to.target) (Within s to.target n) x (within_sound s n to.target) e in
    let one : header.kind ≡ 1 = grind (arith, nat_tests) in
    (pointer to.target w.0, w.1, pointer_here h one a w.2, w.3, w.4, omega (arith, w.5)))))
    (λ k. here_sound s p (suc n) header h))

-- the other way
plain_of : (s : List ℕ) (header : Header) (c : Scalar) (b : Bool) → nat_eq header.kind 1 ≡ b → content_at s header ≡ Some c → nat_eq header.kind 1 ≡ false
plain_of s header c true e h = let one : header.kind ≡ 1 = grind (arith, nat_tests) in let none = no_content_of_pointer s header one in absurd (cc)
plain_of s header c false e h = e

here_complete : (s : List ℕ) (header : Header) (c : Scalar) (z : ℤ) → content_at s header ≡ Some c → whole_number c ≡ Some z → whole_here s header ≡ Some (z, content_end header)
unfolding whole_here
here_complete s header c z h k = rw (h, k) refl

scalar_same : (c d : Scalar) → scalar c ≡ scalar d → c ≡ d
scalar_same c d e = cc

behind_complete : (s : List ℕ) (p n : ℕ) (header : Header) (to : Pointer) (z : ℤ) (q : ℕ) → header_at s p ≡ Some header → header.kind ≡ 1 → pointer_at s header.body header.size ≡ Some to → whole_within n s to.target ≡ Some (z, q) → whole_within (suc n) s p ≡ Some (z, to.next)
behind_complete s p n header to z q h k a e = whole_behind (suc n) n s p header refl h (grind (arith, nat_tests)) ∙ rw (a, e) refl

within_complete : {s : List ℕ} {p : ℕ} {u : Tree} {q : ℕ} → Unfolds s p u q → (n : ℕ) (c : Scalar) (z : ℤ) → without_pointers u ≡ scalar c → whole_number c ≡ Some z → levels_without_key_pointers u ≤ n → whole_within n s p ≡ Some (z, q)
within_complete {s = s} {p = p} (scalar_here {c = x} {header = header} h k) n c z e w l =
    let same : x ≡ c = scalar_same x c e in
    whole_plain n s p header h (plain_of s header x (nat_eq header.kind 1) refl k) ∙ here_complete s header x z k (ap whole_number same ∙ w)
within_complete (array_here h k us) n c z e w l = absurd (cc)
within_complete (table_here h k us) n c z e w l = absurd (cc)
within_complete (pointer_here h k a u) zero c z e w l = absurd (omega arith)
within_complete {s = s} {p = p} (pointer_here {header = header} {to = to} h k a u) (suc n) c z e w l = behind_complete s p n header to z _ h k a (within_complete u n c z e w (omega arith))

-- a range
in_range : (low high z y : ℤ) → if_between low high z ≡ Some y → (z ≡ y) × (low ≤ℤ z) × (z ≤ℤ high)
in_range low high z y h = (grind (arith, ints), grind (arith, ints), grind (arith, ints))

taken_between : (low high : ℤ) (o : Option (ℤ × ℕ)) (r : Reading ℤ) → ((o >>= λ x. Some (at x.0 x.1 0 0)) >>= λ r. if_between low high r.value >>= λ y. Some (at y r.next r.values r.bytes)) ≡ Some r → (o ≡ Some (r.value, r.next)) × (low ≤ℤ r.value) × (r.value ≤ℤ high) × (r.values ≡ 0) × (r.bytes ≡ 0)
taken_between low high None r h = absurd (cc)
taken_between low high (Some x) r h = in_taken (if_between low high x.0) refl h
  where
    in_taken : (t : Option ℤ) → if_between low high x.0 ≡ t → (t >>= λ y. Some (at y x.1 0 0)) ≡ Some r → (Some x ≡ Some (r.value, r.next)) × (low ≤ℤ r.value) × (r.value ≤ℤ high) × (r.values ≡ 0) × (r.bytes ≡ 0)
    in_taken None e k = absurd (cc)
    in_taken (Some y) e k =
        let w = in_range low high x.0 y e in
        let same : at y x.1 0 0 ≡ r = cc in
        subst (λ (z : Reading ℤ). (Some x ≡ Some (z.value, z.next)) × (low ≤ℤ z.value) × (z.value ≤ℤ high) × (z.values ≡ 0) × (z.bytes ≡ 0)) same (ap (λ (v : ℤ). Some (v, x.1)) w.0, rw w.0 at w.1, rw w.0 at w.2, refl, refl)

pub reads_small_numbers : ReadsSmallNumbers
unfolding whole_at
reads_small_numbers low high s p d z q c b l = (
  λ h.
      let w = taken_between low high (whole_within (most_levels - d) s p) _ h in
      let g = if_is (whole_within (most_levels - d) s p) (Within s p (most_levels - d)) (z, q) (within_sound s (most_levels - d) p) w.0 in
      ((g.0, g.1, g.2, g.3, g.4, omega (arith, g.5, l)), w.1, w.2, w.3, w.4),
  λ h.
      let g = h.0 in
      let e : whole_within (most_levels - d) s p ≡ Some (z, q) = within_complete g.2 (most_levels - d) g.1 z g.3 g.4 (omega (arith, g.5, l)) in
      rw (e, between_yes low high z h.1 h.2, h.3, h.4) refl,
)
