-- What is at an offset or through one pointer there, as a function and as the format says it.
use Rattle.std.specs.Option.{IfSome}
use Rattle.std.proofs.Common.{◌≡◌, ◌≢◌, ℕ, List, Some, None, false, nat_eq, nat_lt, refl, arith, inl, inr, subst}
use Rattle.std.proofs.lemmas.Bool.Decides.{nat_tests}
use Rattle.mmdb_format.specs.declared.header.Header.{Header}
use Rattle.mmdb_format.specs.declared.header.Pointer.{Pointer}
use Rattle.mmdb_format.specs.declared.header.Direct.{Direct}
use Rattle.mmdb_format.specs.Header.{header_at}
use Rattle.mmdb_format.specs.Pointer.{pointer_at, PointsTo, direct_at, behind, most_levels}
use Rattle.mmdb_decode.proofs.Options.{if_bind, if_cond, if_is}
use Rattle.mmdb_record.proofs.ContainerLaws.{pointer_body}
use Rattle.mmdb_reader.specs.Empty.{LeadsToHeader}

points_to : (s : List ℕ) (p : ℕ) (header : Header) (to : Pointer) → header_at s p ≡ Some header → header.kind ≡ 1 → pointer_at s header.body header.size ≡ Some to → PointsTo s p to.target to.next
points_to s p header to h k a =
    let body = pointer_body s p header h k in
    let kind = subst (λ (x : ℕ). header_at s p ≡ Some (record { kind = x; size = header.size; body = header.body })) k h in
    record { low = header.size; header = subst (λ (x : ℕ). header_at s p ≡ Some (record { kind = 1; size = header.size; body = x })) body kind; bytes = rw body at a }

other : (kind : ℕ) → nat_eq kind 1 ≡ false → kind ≢ 1
other kind test same = grind (arith, nat_tests)

abbrev Leads : List ℕ → ℕ → Direct → Type 0
Leads s p at = LeadsToHeader s p at.header

leads : (s : List ℕ) (p d : ℕ) → IfSome (direct_at s p d) (Leads s p)
unfolding direct_at behind
leads s p d =
    if_bind (header_at s p) _ (Leads s p) (λ header h.
    if_cond (nat_eq header.kind 1) _ _ (Leads s p)
    (λ k. if_bind (pointer_at s header.body header.size) _ (Leads s p) (λ to a.
    if_cond (nat_lt d most_levels) _ _ (Leads s p)
    (λ l. if_bind (header_at s to.target) _ (Leads s p) (λ target b.
    if_cond (nat_eq target.kind 1) _ _ (Leads s p)
    (λ n. tt)
    (λ n. let one : header.kind ≡ 1 = grind (arith, nat_tests) in inr (to.target, to.next, points_to s p header to h one a, (b, other target.kind n)))))
    (λ l. tt)))
    (λ k. inl (h, other header.kind k)))

-- what is read is what the format says
pub direct_leads : (s : List ℕ) (p : ℕ) (at : Direct) → direct_at s p 0 ≡ Some at → LeadsToHeader s p at.header
direct_leads s p at is = if_is (direct_at s p 0) (Leads s p) at (leads s p 0) is

abbrev Read : List ℕ → ℕ → Header → Type 0
Read s p header = (at : Direct) × (direct_at s p 0 ≡ Some at) × (at.header ≡ header)

-- and the other way
pub leads_direct : (s : List ℕ) (p : ℕ) (header : Header) → LeadsToHeader s p header → Read s p header
unfolding direct_at behind
leads_direct s p header (inl (here, kind)) =
    let no : nat_eq header.kind 1 ≡ false = grind (arith, nat_tests) in
    (record { header = header; after = None; levels = 0 }, rw (here, no) refl, refl)
leads_direct s p header (inr (target, next, to, (here, kind))) =
    let no : nat_eq header.kind 1 ≡ false = grind (arith, nat_tests) in
    (record { header = header; after = Some next; levels = 1 }, rw (to.header, to.bytes, here, no) refl, refl)
