-- Containers that are read directly or through one pointer.
use Rattle.std.specs.Option.{IfSome}
use Rattle.std.proofs.Common.{◌≡◌, ℕ, ◌+◌, ◌/◌, ◌%◌, ◌<◌, List, Option, Some, None, true, false, nat_eq, nat_lt, refl, arith, subst, inl, inr, slice_get}
use Rattle.std.proofs.lemmas.Bool.Decides.{nat_tests}
use Rattle.mmdb_format.specs.declared.header.Header.{Header}
use Rattle.mmdb_format.specs.declared.header.Direct.{Direct}
use Rattle.mmdb_format.specs.Header.{size_at, sized_header, header_at, HasHeader}
use Rattle.mmdb_format.specs.Pointer.{pointer_at, PointsTo, most_levels}
use Rattle.mmdb_decode.specs.declared.direct.Entered.{Entered}
use Rattle.mmdb_decode.specs.Scalars.{direct_of}
use Rattle.mmdb_decode.specs.Arrays.{container_at}
use Rattle.mmdb_record.specs.TypedReads.{ContainerStands}
use Rattle.mmdb_decode.proofs.Options.{if_bind, if_cond, if_is, if_weaker}
use Rattle.mmdb_decode.proofs.DirectLaws.{StandsDirectly, of_sound, of_here, of_behind}

-- a pointer's header is its control byte alone
abbrev IsShort : ℕ → Header → Type 0
IsShort p header = header.kind ≡ 1 → header.body ≡ p + 1

sized_kind : (s : List ℕ) (p kind low : ℕ) → IfSome (sized_header s p kind low) (λ header. header.kind ≡ kind)
unfolding sized_header
sized_kind s p kind low = if_bind (size_at s p low) _ (λ header. header.kind ≡ kind) (λ z e. refl)

short_pointers : (s : List ℕ) (p : ℕ) → IfSome (header_at s p) (IsShort p)
unfolding header_at
short_pointers s p =
    if_bind (slice_get s p) _ (IsShort p) (λ control h.
    if_cond (nat_eq (control / 32) 0) _ _ (IsShort p)
    (λ k. if_bind (slice_get s (p + 1)) _ (IsShort p) (λ kind i. if_weaker (sized_header s (p + 2) (kind + 7) (control % 32)) (λ header. header.kind ≡ kind + 7) (IsShort p) (λ header e one. absurd (omega arith)) (sized_kind s (p + 2) (kind + 7) (control % 32))))
    (λ k. if_cond (nat_eq (control / 32) 1) _ _ (IsShort p)
    (λ l. λ one. refl)
    (λ l. if_weaker (sized_header s (p + 1) (control / 32) (control % 32)) (λ header. header.kind ≡ control / 32) (IsShort p) (λ header e one. let no : control / 32 ≡ 1 = omega arith in absurd (grind (arith, nat_tests))) (sized_kind s (p + 1) (control / 32) (control % 32)))))

pub pointer_body : (s : List ℕ) (p : ℕ) (header : Header) → header_at s p ≡ Some header → header.kind ≡ 1 → header.body ≡ p + 1
pointer_body s p header h k = if_is (header_at s p) (IsShort p) header (short_pointers s p) h k

has_header : (s : List ℕ) (p kind : ℕ) (header : Header) → header_at s p ≡ Some header → header.kind ≡ kind → HasHeader s p kind header.size header.body
has_header s p kind header h k = subst (λ (x : ℕ). header_at s p ≡ Some (record { kind = x; size = header.size; body = header.body })) k h

points_to : (s : List ℕ) (p : ℕ) (header : Header) (target next : ℕ) → header_at s p ≡ Some header → header.kind ≡ 1 → pointer_at s header.body header.size ≡ Some (record { target = target; next = next }) → PointsTo s p target next
points_to s p header target next h k a =
    let body = pointer_body s p header h k in
    let here = has_header s p 1 header h k in
    record { low = header.size; header = subst (λ (x : ℕ). header_at s p ≡ Some (record { kind = 1; size = header.size; body = x })) body here; bytes = rw body at a }

pub container_sound : (kind : ℕ) (s : List ℕ) (p d : ℕ) → IfSome (container_at kind s p d) (ContainerStands kind s p d)
unfolding container_at
container_sound kind s p d =
    if_bind (direct_of kind s p d) _ (ContainerStands kind s p d) (λ at h.
    if_cond (nat_lt at.levels most_levels) _ _ (ContainerStands kind s p d)
    (λ l. let w = if_is (direct_of kind s p d) (λ at. StandsDirectly s p d at × (at.header.kind ≡ kind)) at (of_sound kind s p d) h in entered at w.0 w.1 (grind (arith, nat_tests)))
    (λ l. tt))
  where
    entered : (at : Direct) → StandsDirectly s p d at → at.header.kind ≡ kind → at.levels < most_levels → ContainerStands kind s p d (record { count = at.header.size; body = at.header.body; after = at.after; levels = at.levels + 1 })
    entered at (inl g) k l = inl (has_header s p kind at.header g.here k, g.after, omega (arith, g.levels), omega (arith, g.levels))
    entered at (inr g) k l = inr (g.to.target, g.to.next, points_to s p g.first g.to.target g.to.next g.here g.kind g.points, has_header s g.to.target kind at.header g.there k, g.after, omega (arith, g.levels), omega (arith, g.levels))

entered_is : (kind : ℕ) (s : List ℕ) (p d : ℕ) (at : Entered) (direct : Direct) → direct_of kind s p d ≡ Some direct → direct.levels < most_levels → record { count = direct.header.size; body = direct.header.body; after = direct.after; levels = direct.levels + 1 } ≡ at → container_at kind s p d ≡ Some at
unfolding container_at
entered_is kind s p d at direct h l e = let room : nat_lt direct.levels 512 ≡ true = grind (arith, nat_tests) in rw (h, room, e) refl

same_entered : (at : Entered) (after : Option ℕ) (levels : ℕ) → at.after ≡ after → at.levels ≡ levels → record { count = at.count; body = at.body; after = after; levels = levels } ≡ at
same_entered at after levels e f = rw (← e, ← f) refl

pub container_complete : (kind : ℕ) (s : List ℕ) (p d : ℕ) (at : Entered) → nat_eq kind 1 ≡ false → ContainerStands kind s p d at → container_at kind s p d ≡ Some at
container_complete kind s p d at n (inl h) =
    entered_is kind s p d at (record { header = record { kind = kind; size = at.count; body = at.body }; after = None; levels = d })
    (of_here kind s p d (record { kind = kind; size = at.count; body = at.body }) n h.0 refl) h.3 (same_entered at None (d + 1) h.1 h.2)
container_complete kind s p d at n (inr h) =
    let f = h.2 in
    entered_is kind s p d at (record { header = record { kind = kind; size = at.count; body = at.body }; after = Some h.1; levels = d + 1 })
    (of_behind kind s p d (record { kind = 1; size = f.low; body = p + 1 }) (record { kind = kind; size = at.count; body = at.body }) (record { target = h.0; next = h.1 }) n f.header refl f.bytes (omega (arith, h.6)) h.3 refl)
    h.6 (same_entered at (Some h.1) (d + 1 + 1) h.4 (omega (arith, h.5)))
