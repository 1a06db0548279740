-- What is read as a record is the map that is there, and known names come once in it.
use Rattle.std.specs.Option.{IfSome}
use Rattle.std.specs.Str.{bytes_eq}
use Rattle.std.specs.List.{count_by}
use Rattle.std.proofs.Common.{◌≡◌, ℕ, zero, suc, ◌+◌, ◌≤◌, List, [], ◌∷◌, length, Option, Some, None, Bool, true, false, refl, sym, ap, ◌∙◌, arith, cond, is_some}
use Rattle.std.proofs.lemmas.List.Sums.{sum_by-cons}
use Rattle.mmdb_format.specs.Header.{◌>>=◌}
use Rattle.mmdb_decode.specs.Reading.{Reading, Meaning, plus}
use Rattle.mmdb_decode.specs.Maps.{Fields, name_at, map_at, in_map, pairs_from}
use Rattle.mmdb_record.specs.Records.{record_at, field, skipped}
use Rattle.mmdb_decode.specs.Skipping.{skip_at}
use Rattle.mmdb_record.specs.TypedReads.{ContainerStands, FieldsFollow, no_fields_follow, one_field_follows, RecordStands, ReadsRecords, ReadsWholeRecords, IsKnown, KnownNamesStandOnce}
use Rattle.mmdb_decode.proofs.Options.{if_bind, if_is}
use Rattle.mmdb_record.proofs.ContainerLaws.{container_sound, container_complete}
use Rattle.mmdb_record.proofs.TextMapLaws.{same_bytes}

abbrev at : {A : Type 0} → A → ℕ → ℕ → ℕ → Reading A
at v q c b = record { value = v; next = q; values = c; bytes = b }

module _ {P : Type 0} (fields : Fields P) (s : List ℕ) where
  abbrev Read : ℕ → ℕ → ℕ → P → Reading P → Type 0
  Read d p n x r = (names : List (List ℕ)) × FieldsFollow fields s d x p names r.value r.next r.values r.bytes × (n ≡ length names)

  one_more : (d p n : ℕ) (x : P) (k : Reading (List ℕ)) (y : Reading P) (o : Option (Reading P)) → name_at s p d ≡ Some k → fields x k.value s k.next d ≡ Some y → IfSome o (Read d y.next n y.value) → IfSome ((o >>= λ w. Some (plus y w)) >>= λ z. Some (plus k z)) (Read d p (suc n) x)
  one_more d p n x k y None h e f = tt
  one_more d p n x k y (Some w) h e f = (k.value ∷ f.0, one_field_follows h e f.1, ap suc f.2)

  fields_sound : (d n p : ℕ) (x : P) → IfSome (pairs_from name_at fields x n s p d) (Read d p n x)
  fields_sound d zero p x = ([], no_fields_follow, refl)
  fields_sound d (suc n) p x = if_bind (name_at s p d) _ (Read d p (suc n) x) (λ k h. field_read k (fields x k.value s k.next d) h refl (λ y. fields_sound d n y.next y.value))
    where
      field_read : (k : Reading (List ℕ)) (o : Option (Reading P)) → name_at s p d ≡ Some k → fields x k.value s k.next d ≡ o → ((y : Reading P) → IfSome (pairs_from name_at fields y.value n s y.next d) (Read d y.next n y.value)) → IfSome ((o >>= λ v. pairs_from name_at fields v.value n s v.next d >>= λ w. Some (plus v w)) >>= λ z. Some (plus k z)) (Read d p (suc n) x)
      field_read k None h e more = tt
      field_read k (Some y) h e more = one_more d p n x k y (pairs_from name_at fields y.value n s y.next d) h e (more y)

  fields_complete : {d p : ℕ} {x z : P} {names : List (List ℕ)} {q c b : ℕ} → FieldsFollow fields s d x p names z q c b → pairs_from name_at fields x (length names) s p d ≡ Some (at z q c b)
  fields_complete no_fields_follow = refl
  fields_complete (one_field_follows h e f) = rw (h, e, fields_complete f) refl

  record_sound : (none : P) (p d : ℕ) → IfSome (record_at fields none s p d) (λ r. (names : List (List ℕ)) × RecordStands fields none s p d names r.value r.next r.values r.bytes)
  unfolding in_map
  record_sound none p d =
      if_bind (map_at s p d) _ (λ r. (names : List (List ℕ)) × RecordStands fields none s p d names r.value r.next r.values r.bytes) (λ e h.
      if_bind (pairs_from name_at fields none e.count s e.body e.levels) _ (λ r. (names : List (List ℕ)) × RecordStands fields none s p d names r.value r.next r.values r.bytes) (λ r k.
      let f = if_is (pairs_from name_at fields none e.count s e.body e.levels) (Read e.levels e.body e.count none) r (fields_sound e.levels e.count e.body none) k in
      (f.0, record { table = e; last = r.next; more = r.values; stands = if_is (map_at s p d) (ContainerStands 7 s p d) e (container_sound 7 s p d) h; follow = f.1; count = f.2; next = refl; values = refl })))

  record_complete : (none : P) (p d : ℕ) (names : List (List ℕ)) (x : P) (q c b : ℕ) → RecordStands fields none s p d names x q c b → record_at fields none s p d ≡ Some (at x q c b)
  unfolding in_map
  record_complete none p d names x q c b h =
      let e = container_complete 7 s p d h.table refl h.stands in
      let f : pairs_from name_at fields none h.table.count s h.table.body h.table.levels ≡ Some (at x h.last h.more b) = rw h.count (fields_complete h.follow) in
      rw (e, f, h.next, h.values) refl

pub reads_records : {P : Type 0} (fields : Fields P) (none : P) → ReadsRecords fields none
reads_records fields none s p d x q c b = (λ h. if_is (record_at fields none s p d) (λ r. (names : List (List ℕ)) × RecordStands fields none s p d names r.value r.next r.values r.bytes) (at x q c b) (record_sound fields s none p d) h, λ h. record_complete fields s none p d h.0 x q c b h.1)

-- a record that is made whole
whole_taken : {P R : Type 0} (whole : P → Option R) (v : R) (q c b : ℕ) (o : Option (Reading P)) → (o >>= λ r. whole r.value >>= λ y. Some (at y r.next r.values r.bytes)) ≡ Some (at v q c b) → (x : P) × (o ≡ Some (at x q c b)) × (whole x ≡ Some v)
whole_taken whole v q c b None h = absurd (cc)
whole_taken {P = P} {R = R} whole v q c b (Some r) h = made (whole r.value) refl h
  where
    made : (t : Option R) → whole r.value ≡ t → (t >>= λ y. Some (at y r.next r.values r.bytes)) ≡ Some (at v q c b) → (x : P) × (Some r ≡ Some (at x q c b)) × (whole x ≡ Some v)
    made None e k = absurd (cc)
    made (Some y) e k =
        let same : at y r.next r.values r.bytes ≡ at v q c b = cc in
        let next = ap (λ (z : Reading R). z.next) same in
        let values = ap (λ (z : Reading R). z.values) same in
        let bytes = ap (λ (z : Reading R). z.bytes) same in
        (r.value, rw (← next, ← values, ← bytes) refl, e ∙ ap (λ (z : Reading R). Some z.value) same)

pub reads_whole_records : {P R : Type 0} (fields : Fields P) (none : P) (whole : P → Option R) → ReadsWholeRecords fields none whole
reads_whole_records fields none whole s p d v q c b = (
  λ h.
      let w = whole_taken whole v q c b (record_at fields none s p d) h in
      let g = (reads_records fields none s p d w.0 q c b).0 w.1 in
      (w.0, g.0, g.1, w.2),
  λ h. let e = (reads_records fields none s p d h.0 q c b).1 (h.1, h.2) in rw (e, h.3) refl,
)

-- a known name
module _ {P : Type 0} (fields : Fields P) (name : List ℕ) (has_stood : P → Bool) (known : IsKnown fields name has_stood) where
  field_of_name : (x : P) (other s : List ℕ) (p d : ℕ) (y : Reading P) → bytes_eq name other ≡ true → fields x other s p d ≡ Some y → fields x name s p d ≡ Some y
  field_of_name x other s p d y e h = let same = same_bytes name other e in rw same h

  counted : (t : Bool) (other : List ℕ) (names : List (List ℕ)) → bytes_eq name other ≡ t → count_by (bytes_eq name) (other ∷ names) ≡ cond t 1 0 + count_by (bytes_eq name) names
  counted t other names e = sum_by-cons (λ x. cond (bytes_eq name x) 1 0) other names ∙ ap (λ u. cond u 1 0 + count_by (bytes_eq name) names) e

  no_more : {s : List ℕ} {d p : ℕ} {x z : P} {names : List (List ℕ)} {q c b : ℕ} → FieldsFollow fields s d x p names z q c b → has_stood x ≡ true → count_by (bytes_eq name) names ≡ 0
  no_more no_fields_follow k = refl
  no_more {s = s} {d = d} {x = x} (one_field_follows {names = names} {name = n} {y = y} h e f) k = none_here (bytes_eq name n.value) refl (no_more f (known.stays x n.value s n.next d y k e))
    where
      none_here : (t : Bool) → bytes_eq name n.value ≡ t → count_by (bytes_eq name) names ≡ 0 → count_by (bytes_eq name) (n.value ∷ names) ≡ 0
      none_here true i more = let some = field_of_name x n.value s n.next d y i e in let none = known.rejected x s n.next d k in absurd (cc)
      none_here false i more = let one = counted false n.value names i in omega (arith, more, one)

  pub at_most_once : {s : List ℕ} {d p : ℕ} {x z : P} {names : List (List ℕ)} {q c b : ℕ} → FieldsFollow fields s d x p names z q c b → count_by (bytes_eq name) names ≤ 1
  at_most_once no_fields_follow = omega arith
  at_most_once {s = s} {d = d} {x = x} (one_field_follows {names = names} {name = n} {y = y} h e f) = once_here (bytes_eq name n.value) refl (at_most_once f)
    where
      once_here : (t : Bool) → bytes_eq name n.value ≡ t → count_by (bytes_eq name) names ≤ 1 → count_by (bytes_eq name) (n.value ∷ names) ≤ 1
      once_here true i more = let some = field_of_name x n.value s n.next d y i e in let rest = no_more f (known.fills x s n.next d y some) in let one = counted true n.value names i in omega (arith, rest, one)
      once_here false i more = let one = counted false n.value names i in omega (arith, more, one)

pub known_names_stand_once : {P : Type 0} (fields : Fields P) (none : P) → KnownNamesStandOnce fields none
known_names_stand_once fields none name has_stood s p d names x q c b k h = at_most_once fields name has_stood k h.follow

-- a field that comes at most once is filled by its own name and an error then, and an unknown one changes nothing
pub field_fills : {P A : Type 0} (set : Option A → P) (read : Meaning A) (slot : Option A) (s : List ℕ) (p d : ℕ) (y : Reading P) → field set read slot s p d ≡ Some y → (v : A) × (y.value ≡ set (Some v))
unfolding field
field_fills set read (Some v) s p d y h = absurd (cc)
field_fills {A = A} set read None s p d y h = filled (read s p d) h
  where
    filled : (o : Option (Reading A)) → ((o >>= λ r. Some (at (Some r.value) r.next r.values r.bytes)) >>= λ r. Some (at (set r.value) r.next r.values r.bytes)) ≡ Some y → (v : A) × (y.value ≡ set (Some v))
    filled None e = absurd (cc)
    filled (Some r) e = let same : at (set (Some r.value)) r.next r.values r.bytes ≡ y = cc in (r.value, sym (ap (λ z. z.value) same))

pub field_rejected : {P A : Type 0} (set : Option A → P) (read : Meaning A) (slot : Option A) (s : List ℕ) (p d : ℕ) → is_some slot ≡ true → field set read slot s p d ≡ None
unfolding field
field_rejected set read (Some v) s p d h = refl
field_rejected set read None s p d h = absurd (cc)

pub skipped_keeps : {P : Type 0} (x : P) (s : List ℕ) (p d : ℕ) (y : Reading P) → skipped x s p d ≡ Some y → y.value ≡ x
unfolding skipped
skipped_keeps x s p d y h = kept (skip_at s p d) h
  where
    kept : (o : Option (Reading (Unit {0}))) → (o >>= λ r. Some (at x r.next r.values r.bytes)) ≡ Some y → y.value ≡ x
    kept None e = absurd (cc)
    kept (Some r) e = let same : at x r.next r.values r.bytes ≡ y = cc in sym (ap (λ z. z.value) same)
