-- The name of each field of a table comes at most once in a record: the table knows it.
use Rattle.std.proofs.Common.{◌≡◌, ℕ, List, Option, Some, None, Bool, true, false, if◌then◌else◌, refl, sym, ap, is_some}
use Rattle.std.proofs.lemmas.Slice.Eq.{bytes_eq-Decides}
use Rattle.mmdb_format.specs.Header.{◌>>=◌}
use Rattle.mmdb_decode.specs.Reading.{Reading, Meaning}
use Rattle.mmdb_decode.specs.Names.{named}
use Rattle.mmdb_record.specs.Records.{field}
use Rattle.mmdb_record.specs.Tables.{Table, end, optional, part, Parts, no_parts, part_field, fields_into, fields_of}
use Rattle.mmdb_record.specs.TypedReads.{StandsOnce, FieldNamesOnce, FieldNamesStandOnce, IsKnown}
use Rattle.mmdb_record.proofs.RecordStandingLaws.{known_names_stand_once, field_fills, field_rejected, skipped_keeps}

abbrev at : {A : Type 0} → A → ℕ → ℕ → ℕ → Reading A
at v q c b = record { value = v; next = q; values = c; bytes = b }

-- whether a table has a row of this name
abbrev has_row : {R : Type 0} → Table R → List ℕ → Bool
has_row end n = false
has_row (optional name shape get rest) n = if named n name then true else has_row rest n
has_row (part name shape none is_absent get rest) n = if named n name then true else has_row rest n

-- whether the field of this name was met
abbrev has_stood : {R : Type 0} → (t : Table R) → List ℕ → Parts t → Bool
has_stood end n p = false
has_stood (optional name shape get rest) n p = if named n name then is_some p.0 else has_stood rest n p.1
has_stood (part name shape none is_absent get rest) n p = if named n name then p.0.0 else has_stood rest n p.1

-- a part that comes at most once is filled by its own name and an error then
part_fills : {P A : Type 0} (set : Bool × A → P) (read : Meaning A) (slot : Bool × A) (s : List ℕ) (p d : ℕ) (y : Reading P) → part_field set read slot s p d ≡ Some y → (v : A) × (y.value ≡ set (true, v))
unfolding part_field
part_fills set read (true, v) s p d y h = absurd (cc)
part_fills {P = P} {A = A} set read (false, v) s p d y h = filled (read s p d) h
  where
    filled : (o : Option (Reading A)) → ((o >>= λ r. Some (at {A = Bool × A} (true, r.value) r.next r.values r.bytes)) >>= λ r. Some (at (set r.value) r.next r.values r.bytes)) ≡ Some y → (v : A) × (y.value ≡ set (true, v))
    filled None e = absurd (cc)
    filled (Some r) e = let same : at (set (true, r.value)) r.next r.values r.bytes ≡ y = cc in (r.value, sym (ap (λ z. z.value) same))

part_rejected : {P A : Type 0} (set : Bool × A → P) (read : Meaning A) (slot : Bool × A) (s : List ℕ) (p d : ℕ) → slot.0 ≡ true → part_field set read slot s p d ≡ None
unfolding part_field
part_rejected set read (true, v) s p d h = refl
part_rejected set read (false, v) s p d h = absurd (cc)

-- what a name leaves: no field is emptied, and its own is filled
abbrev Left : {R P : Type 0} → (t : Table R) → (Parts t → P) → Parts t → List ℕ → P → Type 0
Left t put p n y = (q : Parts t) × (y ≡ put q) × ((m : List ℕ) → has_stood t m p ≡ true → has_stood t m q ≡ true) × (has_row t n ≡ true → has_stood t n q ≡ true)

-- of what is chosen by a name, the first is filled, or the other is kept
first_filled : (t : Bool) (a b : Bool) → (if t then a else b) ≡ true → (if t then true else b) ≡ true
first_filled true a b k = refl
first_filled false a b k = k

other_kept : (t : Bool) (a b c : Bool) → (b ≡ true → c ≡ true) → (if t then a else b) ≡ true → (if t then a else c) ≡ true
other_kept true a b c f k = k
other_kept false a b c f k = f k

module _ {R P : Type 0} (s : List ℕ) (i d : ℕ) where
  into_leaves : (t : Table R) (put : Parts t → P) (p : Parts t) (n : List ℕ) (y : Reading P) → fields_into t put p n s i d ≡ Some y → Left t put p n y.value
  into_leaves end put p n y h = (tt, skipped_keeps (put tt) s i d y h, λ m k. k, λ k. absurd (cc))
  into_leaves (optional name shape get rest) put p n y h = by_name (named n name) (into_leaves rest (λ q. put (p.0, q)) p.1 n y) h
    where
      here : (b : Bool) → Type 0
      here b = (q : Parts (optional name shape get rest)) × (y.value ≡ put q) × ((m : List ℕ) → has_stood (optional name shape get rest) m p ≡ true → has_stood (optional name shape get rest) m q ≡ true) × ((if b then true else has_row rest n) ≡ true → (if b then is_some q.0 else has_stood rest n q.1) ≡ true)

      by_name : (b : Bool) → (fields_into rest (λ q. put (p.0, q)) p.1 n s i d ≡ Some y → Left rest (λ q. put (p.0, q)) p.1 n y.value) → (if b then field (λ v. put (v, p.1)) shape.meaning p.0 else fields_into rest (λ q. put (p.0, q)) p.1 n) s i d ≡ Some y → here b
      by_name true more k =
          let f = field_fills (λ v. put (v, p.1)) shape.meaning p.0 s i d y k in
          ((Some f.0, p.1), f.1, λ m. first_filled (named m name) (is_some p.0) (has_stood rest m p.1), λ r. refl)
      by_name false more k =
          let f = more k in
          ((p.0, f.0), f.1, λ m. other_kept (named m name) (is_some p.0) (has_stood rest m p.1) (has_stood rest m f.0) (f.2 m), f.3)
  into_leaves (part name shape none is_absent get rest) put p n y h = by_name (named n name) (into_leaves rest (λ q. put (p.0, q)) p.1 n y) h
    where
      here : (b : Bool) → Type 0
      here b = (q : Parts (part name shape none is_absent get rest)) × (y.value ≡ put q) × ((m : List ℕ) → has_stood (part name shape none is_absent get rest) m p ≡ true → has_stood (part name shape none is_absent get rest) m q ≡ true) × ((if b then true else has_row rest n) ≡ true → (if b then q.0.0 else has_stood rest n q.1) ≡ true)

      by_name : (b : Bool) → (fields_into rest (λ q. put (p.0, q)) p.1 n s i d ≡ Some y → Left rest (λ q. put (p.0, q)) p.1 n y.value) → (if b then part_field (λ v. put (v, p.1)) shape.meaning p.0 else fields_into rest (λ q. put (p.0, q)) p.1 n) s i d ≡ Some y → here b
      by_name true more k =
          let f = part_fills (λ v. put (v, p.1)) shape.meaning p.0 s i d y k in
          (((true, f.0), p.1), f.1, λ m. first_filled (named m name) p.0.0 (has_stood rest m p.1), λ r. refl)
      by_name false more k =
          let f = more k in
          ((p.0, f.0), f.1, λ m. other_kept (named m name) p.0.0 (has_stood rest m p.1) (has_stood rest m f.0) (f.2 m), f.3)

  -- and where its field was met nothing is read after it
  into_failed : (t : Table R) (put : Parts t → P) (p : Parts t) (n : List ℕ) → has_stood t n p ≡ true → fields_into t put p n s i d ≡ None
  into_failed end put p n h = absurd (cc)
  into_failed (optional name shape get rest) put p n h = by_name (named n name) (into_failed rest (λ q. put (p.0, q)) p.1 n) h
    where
      by_name : (b : Bool) → (has_stood rest n p.1 ≡ true → fields_into rest (λ q. put (p.0, q)) p.1 n s i d ≡ None) → (if b then is_some p.0 else has_stood rest n p.1) ≡ true → (if b then field (λ v. put (v, p.1)) shape.meaning p.0 else fields_into rest (λ q. put (p.0, q)) p.1 n) s i d ≡ None
      by_name true more k = field_rejected (λ v. put (v, p.1)) shape.meaning p.0 s i d k
      by_name false more k = more k
  into_failed (part name shape none is_absent get rest) put p n h = by_name (named n name) (into_failed rest (λ q. put (p.0, q)) p.1 n) h
    where
      by_name : (b : Bool) → (has_stood rest n p.1 ≡ true → fields_into rest (λ q. put (p.0, q)) p.1 n s i d ≡ None) → (if b then p.0.0 else has_stood rest n p.1) ≡ true → (if b then part_field (λ v. put (v, p.1)) shape.meaning p.0 else fields_into rest (λ q. put (p.0, q)) p.1 n) s i d ≡ None
      by_name true more k = part_rejected (λ v. put (v, p.1)) shape.meaning p.0 s i d k
      by_name false more k = more k

-- the name of each row is known
rows_are_known : {R : Type 0} (t : Table R) (n : List ℕ) → has_row t n ≡ true → IsKnown (fields_of t) n (has_stood t n)
unfolding fields_of
rows_are_known {R = R} t n row = record {
  stays = λ x other s p d y k h. let f = into_leaves {R = R} s p d t (λ q. q) x other y h in rw f.1 (f.2 n k);
  fills = λ x s p d y h. let f = into_leaves {R = R} s p d t (λ q. q) x n y h in rw f.1 (f.3 row);
  rejected = λ x s p d k. into_failed {R = R} s p d t (λ q. q) x n k;
}

-- each row's name is the name of a row
same_name : (n : List ℕ) → named n n ≡ true
unfolding named
same_name n = (bytes_eq-Decides n n).1 refl

row_below : (b r : Bool) → r ≡ true → (if b then true else r) ≡ true
row_below true r h = refl
row_below false r h = h

each_row : {R : Type 0} (t : Table R) (names : List (List ℕ)) → ((n : List ℕ) → has_row t n ≡ true → StandsOnce names n) → FieldNamesOnce t names
each_row end names f = tt
each_row (optional name shape get rest) names f = (f name (rw (same_name name) refl), each_row rest names (λ n h. f n (row_below (named n name) (has_row rest n) h)))
each_row (part name shape none is_absent get rest) names f = (f name (rw (same_name name) refl), each_row rest names (λ n h. f n (row_below (named n name) (has_row rest n) h)))

pub field_names_stand_once : {R : Type 0} (t : Table R) → FieldNamesStandOnce t
field_names_stand_once t s p d names x q c b h = each_row t names (λ n row. known_names_stand_once (fields_of t) (no_parts t) n (has_stood t n) s p d names x q c b (rows_are_known t n row) h)
