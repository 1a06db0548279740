-- Laws of lists that are written one after the other.
use Rattle.std.proofs.Common.{◌≡◌, ◌≢◌, ◌<◌, ◌≤◌, ◌+◌, ◌-◌, ◌++◌, ℕ, zero, suc, List, [], ◌∷◌, length, take, drop, set, Option, Some, None, Bool, true, false, cond, refl, sym, ap, subst, arith, ◌∙◌, length-append}
use Rattle.std.proofs.lemmas.List.{append_assoc, append-nil, drop-drop, drop-set-lt, take_more_set, set-append_left, length-set, length-take-le}
use Rattle.std.proofs.Math.Seq.{take-set-lt}
use Rattle.mmdb_format.specs.Header.{◌>>=◌}
use Rattle.mmdb_format.specs.Contents.{Scalar, content_at}
use Rattle.mmdb_c.specs.declared.list.ListPart.{ListPart}
use Rattle.mmdb_c.specs.declared.list.EntryPlace.{EntryPlace}
use Rattle.mmdb_c.specs.List.{in_series, joined, listed, place_at, parts_of, scalar_parts, scalar_parts_at, container_part, container_parts, is_container, count_of, end_of, Passes}
use Rattle.mmdb_c.specs.Working.{Written, IsListed}

-- a whole series is the parts that are written and then what is left
pub record Goes (whole left : Option (List ListPart × ℕ)) (first after : ℕ) (old new : List ListPart) : Type 0 where
  pub parts : List ListPart
  pub whole_is : whole ≡ joined parts left
  pub written : Written parts first after old new

drop_further : (b k c : ℕ) (xs ys : List ListPart) → c ≡ b + k → drop b xs ≡ drop b ys → drop c xs ≡ drop c ys
drop_further b k c xs ys e h = rw e (sym (drop-drop k b xs) ∙ ap (drop k) h ∙ drop-drop k b ys)

written_none : (n : ℕ) (old : List ListPart) → n ≤ length old → Written [] n n old old
written_none n old h = record { count = omega arith; room = h; len = refl; written = sym (append-nil (take n old)); beyond = refl }

written_join : (ps qs : List ListPart) (a b c : ℕ) (old mid new : List ListPart) → Written ps a b old mid → Written qs b c mid new → Written (ps ++ qs) a c old new
written_join ps qs a b c old mid new v w = record {
  count = let e = length-append ps qs in omega (arith, v.count, w.count, e);
  room = omega (arith, w.room, v.len);
  len = w.len ∙ v.len;
  written = w.written ∙ ap (λ xs. xs ++ qs) v.written ∙ append_assoc (take a old) ps qs;
  beyond = w.beyond ∙ drop_further b (length qs) c mid old w.count v.beyond;
}

pub written_own : (ps : List ListPart) (i after : ℕ) (old mid : List ListPart) (x : ListPart) → Written ps (i + 1) after old mid → Written (x ∷ ps) i after old (set mid i x)
written_own ps i after old mid x w =
    let below : i < after = omega (arith, w.count) in
    let room : i < length old = omega (arith, w.room, w.count) in
    let held : i < length (take (i + 1) old) = let e = length-take-le (i + 1) old (omega arith) in omega (arith, e) in
    record {
      count = omega (arith, w.count);
      room = w.room;
      len = length-set mid i x ∙ w.len;
      written = take-set-lt after mid i x below ∙ ap (λ xs. set xs i x) w.written ∙ set-append_left (take (i + 1) old) ps i x held ∙ ap (λ xs. xs ++ ps) (sym (take-set-lt (i + 1) old i x (omega arith)) ∙ take_more_set old i x room) ∙ append_assoc (take i old) (x ∷ []) ps;
      beyond = drop-set-lt after mid i x below ∙ w.beyond;
    }

pub goes_from : (whole : Option (List ListPart × ℕ)) (i : ℕ) (old : List ListPart) → i < length old → Goes whole whole (i + 1) (i + 1) old old
goes_from None i old h = record { parts = []; whole_is = refl; written = written_none (i + 1) old (omega arith) }
goes_from (Some r) i old h = record { parts = []; whole_is = refl; written = written_none (i + 1) old (omega arith) }

twice : (o : Option (List ListPart × ℕ)) (ps qs : List ListPart) → joined ps (joined qs o) ≡ joined (ps ++ qs) o
twice None ps qs = refl
twice (Some r) ps qs = ap (λ xs. Some (xs, r.1)) (sym (append_assoc ps qs r.0))

-- a value, and a number of them after it
abbrev follows : (ℕ → Option (List ListPart × ℕ)) → ℕ → Option (List ListPart × ℕ) → Option (List ListPart × ℕ)
follows read n o = o >>= λ first. joined first.0 (in_series read n first.1)

module _ (read : ℕ → Option (List ListPart × ℕ)) (whole : Option (List ListPart × ℕ)) (left n next a b : ℕ) (old mid : List ListPart) (more : left ≡ suc n) (g : Goes whole (in_series read left next) a b old mid) where
  whole_more : whole ≡ joined g.parts (follows read n (read next))
  whole_more = subst (λ m. whole ≡ joined g.parts (in_series read m next)) more g.whole_is

  pub goes_on : (c after : ℕ) (new : List ListPart) → IsListed (read next) b c after mid new → Goes whole (in_series read n after) a c old new
  goes_on c after new l = record {
    parts = g.parts ++ l.parts;
    whole_is = whole_more ∙ ap (λ o. joined g.parts (follows read n o)) l.found_is ∙ twice (in_series read n after) g.parts l.parts;
    written = written_join g.parts l.parts a b c old mid new g.written l.written;
  }

  pub stops : read next ≡ None → whole ≡ None
  stops h = whole_more ∙ ap (λ o. joined g.parts (follows read n o)) h

  longer : (first : List ListPart × ℕ) (o : Option (List ListPart × ℕ)) (ps : List ListPart) (q : ℕ) → length mid < b + length first.0 → joined g.parts (joined first.0 o) ≡ Some (ps, q) → length old < a + length ps
  longer first None ps q h e = absurd (cc)
  longer first (Some r) ps q h e =
      let both : ◌≡◌ {A = List ListPart × ℕ} (g.parts ++ (first.0 ++ r.0), r.1) (ps, q) = cc in
      let x = length-append g.parts (first.0 ++ r.0) in
      let y = length-append first.0 r.0 in
      let u = g.written.count in
      let v = g.written.len in
      subst (λ z. length old < a + length z.0) both (omega (arith, h, x, y, u, v))

  passes_from : (o : Option (List ListPart × ℕ)) → Passes o b mid → (ps : List ListPart) (q : ℕ) → joined g.parts (follows read n o) ≡ Some (ps, q) → length old < a + length ps
  passes_from None h ps q e = absurd (cc)
  passes_from (Some first) h ps q e = longer first (in_series read n first.1) ps q (h first.0 first.1 refl) e

  pub passes : Passes (read next) b mid → Passes whole a old
  passes h ps q e = passes_from (read next) h ps q (sym whole_more ∙ e)

-- the list of a value, by its place
pub listed_none : (levels : ℕ) (s : List ℕ) (p : ℕ) → place_at s p ≡ None → listed levels s p ≡ None
unfolding listed
listed_none zero s p h = refl
listed_none (suc n) s p h = ap (λ o. o >>= parts_of (listed n s) s) h

pub listed_zero : (levels : ℕ) (s : List ℕ) (p : ℕ) → levels ≡ 0 → listed levels s p ≡ None
unfolding listed
listed_zero zero s p h = refl
listed_zero (suc n) s p h = absurd (omega (arith, h))

module _ (levels : ℕ) (s : List ℕ) (p : ℕ) (place : EntryPlace) (some : levels ≢ 0) (here : place_at s p ≡ Some place) where
  listed_at : (n : ℕ) → listed (suc n) s p ≡ parts_of (listed n s) s place
  unfolding listed
  listed_at n = ap (λ o. o >>= parts_of (listed n s) s) here

  listed_is : listed levels s p ≡ parts_of (listed (levels - 1) s) s place
  listed_is = let more : levels ≡ suc (levels - 1) = omega (arith, some) in subst (λ n. listed n s p ≡ parts_of (listed (levels - 1) s) s place) (sym more) (listed_at (levels - 1))

  scalar_is : is_container place.header ≡ false → listed levels s p ≡ scalar_parts_at s place
  scalar_is h = listed_is ∙ ap (λ b. cond b (in_series (listed (levels - 1) s) (count_of place.header) place.header.body >>= λ r. Some (container_parts place r)) (scalar_parts_at s place)) h

  pub scalar_listed : (x : ListPart) (next i : ℕ) (old : List ListPart) → is_container place.header ≡ false → scalar_parts_at s place ≡ Some (x ∷ [], next) → i < length old → IsListed (listed levels s p) i (i + 1) next old (set old i x)
  scalar_listed x next i old h e room = record { parts = x ∷ []; found_is = scalar_is h ∙ e; written = written_own [] i (i + 1) old old x (written_none (i + 1) old (omega arith)) }

  pub scalar_none : is_container place.header ≡ false → scalar_parts_at s place ≡ None → listed levels s p ≡ None
  scalar_none h e = scalar_is h ∙ e

  module _ (holds : is_container place.header ≡ true) (count : ℕ) (same_count : count ≡ count_of place.header) where
    container_is : listed levels s p ≡ (in_series (listed (levels - 1) s) count place.header.body >>= λ r. Some (container_parts place r))
    container_is = rw same_count (listed_is ∙ ap (λ b. cond b (in_series (listed (levels - 1) s) (count_of place.header) place.header.body >>= λ r. Some (container_parts place r)) (scalar_parts_at s place)) holds)

    pub container_none : in_series (listed (levels - 1) s) count place.header.body ≡ None → listed levels s p ≡ None
    container_none e = container_is ∙ ap (λ o. o >>= λ r. Some (container_parts place r)) e

    container_passes_from : (o : Option (List ListPart × ℕ)) (i : ℕ) (old : List ListPart) → Passes o (i + 1) old → (ps : List ListPart) (q : ℕ) → (o >>= λ r. Some (container_parts place r)) ≡ Some (ps, q) → length old < i + length ps
    container_passes_from None i old h ps q e = absurd (cc)
    container_passes_from (Some r) i old h ps q e =
        let both : container_parts place r ≡ (ps, q) = cc in
        let long = h r.0 r.1 refl in
        subst (λ z. length old < i + length z.0) both (omega (arith, long))

    pub container_passes : (i : ℕ) (old : List ListPart) → Passes (in_series (listed (levels - 1) s) count place.header.body) (i + 1) old → Passes (listed levels s p) i old
    container_passes i old k ps q e = container_passes_from _ i old k ps q (sym (container_is) ∙ e)

    pub container_listed : (left next i after : ℕ) (old mid : List ListPart) → left ≡ 0 → Goes (in_series (listed (levels - 1) s) count place.header.body) (in_series (listed (levels - 1) s) left next) (i + 1) after old mid → IsListed (listed levels s p) i after (end_of place next) old (set mid i (container_part place (end_of place next)))
    container_listed left next i after old mid none g =
        let all : in_series (listed (levels - 1) s) count place.header.body ≡ Some (g.parts, next) = subst (λ m. in_series (listed (levels - 1) s) count place.header.body ≡ joined g.parts (in_series (listed (levels - 1) s) m next)) none g.whole_is ∙ ap (λ xs. Some (xs, next)) (append-nil g.parts) in
        record {
          parts = container_part place (end_of place next) ∷ g.parts;
          found_is = container_is ∙ ap (λ o. o >>= λ r. Some (container_parts place r)) all;
          written = written_own g.parts i after old mid (container_part place (end_of place next)) g.written;
        }

-- a list has a part
some_parts : (place : EntryPlace) (b : Bool) (o : Option (List ListPart × ℕ)) (c : Option Scalar) (ps : List ListPart) (q : ℕ) → cond b (o >>= λ r. Some (container_parts place r)) (c >>= λ x. Some (scalar_parts place x)) ≡ Some (ps, q) → 0 < length ps
some_parts place true None c ps q e = absurd (cc)
some_parts place true (Some r) c ps q e = let both : container_parts place r ≡ (ps, q) = cc in subst (λ z. 0 < length z.0) both (omega arith)
some_parts place false o None ps q e = absurd (cc)
some_parts place false o (Some x) ps q e = let both : scalar_parts place x ≡ (ps, q) = cc in subst (λ z. 0 < length z.0) both (omega arith)

some_listed_from : (read : ℕ → Option (List ListPart × ℕ)) (s : List ℕ) (o : Option EntryPlace) (ps : List ListPart) (q : ℕ) → (o >>= parts_of read s) ≡ Some (ps, q) → 0 < length ps
some_listed_from read s None ps q e = absurd (cc)
some_listed_from read s (Some place) ps q e = some_parts place (is_container place.header) (in_series read (count_of place.header) place.header.body) (content_at s place.header) ps q e

pub some_listed : (levels : ℕ) (s : List ℕ) (p : ℕ) (ps : List ListPart) (q : ℕ) → listed levels s p ≡ Some (ps, q) → 0 < length ps
unfolding listed
some_listed zero s p ps q e = absurd (cc)
some_listed (suc n) s p ps q e = some_listed_from (listed n s) s (place_at s p) ps q e

pub passes_at_end : (levels : ℕ) (s : List ℕ) (p i : ℕ) (old : List ListPart) → length old ≤ i → Passes (listed levels s p) i old
passes_at_end levels s p i old h ps q e = let some = some_listed levels s p ps q e in omega (arith, h, some)

-- so has one that is written from the start of the memory
pub has_some : (s : List ℕ) (p count next : ℕ) (old new : List ListPart) → IsListed (listed 512 s p) 0 count next old new → 0 < count
has_some s p count next old new l = let some = some_listed 512 s p l.parts next l.found_is in let same = l.written.count in omega (arith, some, same)
