-- What typed reads give, in the words of the format: which tree unfolds where a value is read.
use Rattle.std.specs.Prelude.{◌≡◌, ◌↔◌, ◌⊎◌, ℕ, ◌+◌, ◌*◌, ◌<◌, ◌≤◌, count_by, List, [], ◌∷◌, length, map, Option, Some, None, Bool, true, unwrap_or, if◌then◌else◌}
use Rattle.std.specs.Cmp.Lexicographic.{slice_cmp}
use Rattle.std.specs.List.Sorted.{IsStrictlySortedBy}
use Rattle.std.specs.Map.{lookup}
use Rattle.std.specs.Ordering.{nat_cmp}
use Rattle.std.specs.Str.{bytes_eq}
use Rattle.mmdb_format.specs.Header.{HasHeader}
use Rattle.mmdb_format.specs.Pointer.{PointsTo, most_levels}
use Rattle.mmdb_format.specs.Contents.{Scalar, text}
use Rattle.mmdb_format.specs.Unfolding.{Tree, scalar, array, table, Trees, no_trees, tree, Pairs, no_pairs, pair, Unfolds, without_pointers}
use Rattle.mmdb_decode.specs.declared.direct.Entered.{Entered}
use Rattle.mmdb_decode.specs.Arrays.{list_at}
use Rattle.mmdb_decode.specs.Maps.{Fields, put, key_at, name_at, text_map_at}
use Rattle.mmdb_record.specs.Records.{record_at, finished}
use Rattle.mmdb_decode.specs.Reading.{Reading, Meaning}
use Rattle.mmdb_decode.specs.ScalarReads.{ReadsScalars}
use Rattle.mmdb_record.specs.Tables.{Table, end, optional, part, Data, Parts, fields_of, no_parts, whole_of, record_of}

-- A container of this type is at p, and says how many parts it has, where they begin, the offset after a pointer that
-- led to it, and their levels: it is there directly, or through one pointer, and a level is left for the pointer and
-- for itself.
abbrev pub ContainerStands : ℕ → List ℕ → ℕ → ℕ → Entered → Type 0
ContainerStands kind s p d at =
    (HasHeader s p kind at.count at.body × (at.after ≡ None) × (at.levels ≡ d + 1) × (d < most_levels))
    ⊎ ((target : ℕ) × (next : ℕ) × PointsTo s p target next × HasHeader s target kind at.count at.body × (at.after ≡ Some next) × (at.levels ≡ d + 2) × (d + 1 < most_levels))

-- values of one meaning that follow one another from p on and end before q, with what they cost together
pub data Follow {A : Type 0} (read : Meaning A) (s : List ℕ) (d : ℕ) : ℕ → List A → ℕ → ℕ → ℕ → Type 0 where
  none_follow : {p : ℕ} → Follow read s d p [] p 0 0
  one_follows : {p q c b : ℕ} {vs : List A} {x : Reading A} → read s p d ≡ Some x → Follow read s d x.next vs q c b → Follow read s d p (x.value ∷ vs) q (x.values + c) (x.bytes + b)

-- a list is at p: an array whose elements follow one another, each one a value; it ends where they do, or after the
-- pointer that led to it
pub record ListStands {A : Type 0} (read : Meaning A) (s : List ℕ) (p d : ℕ) (vs : List A) (q c b : ℕ) : Type 0 where
  pub array : Entered
  pub last : ℕ
  pub more : ℕ
  pub stands : ContainerStands 11 s p d array
  pub elements : Follow read s array.levels array.body vs last more b
  pub count : array.count ≡ length vs
  pub next : q ≡ unwrap_or array.after last
  pub values : c ≡ array.count + more

-- what is read as a list is such a list
abbrev pub ReadsLists : {A : Type 0} → Meaning A → Type 0
ReadsLists {A = A} read =
    (s : List ℕ) (p d : ℕ) (vs : List A) (q c b : ℕ) →
    (list_at read s p d ≡ Some (record { value = vs; next = q; values = c; bytes = b })) ↔ ListStands read s p d vs q c b

-- where a value is read, a tree unfolds that says it, its pointers dropped
abbrev pub ReadsTrees : {A : Type 0} → Meaning A → (A → Tree) → Type 0
ReadsTrees {A = A} read says =
    (s : List ℕ) (p d : ℕ) (r : Reading A) → read s p d ≡ Some r → (u : Tree) × Unfolds s p u r.next × (without_pointers u ≡ says r.value)

-- a scalar unfolds to itself
abbrev pub ScalarsUnfold : {A : Type 0} → Meaning A → Type 0
ScalarsUnfold {A = A} read = (says : A → Scalar) → ReadsScalars read says → ReadsTrees read (λ v. scalar (says v))

abbrev pub trees_of : {A : Type 0} → (A → Tree) → List A → Trees
trees_of says [] = no_trees
trees_of says (v ∷ vs) = tree (says v) (trees_of says vs)

-- where each element is a tree that unfolds, so is the list: the array of these
abbrev pub ListsUnfold : {A : Type 0} → Meaning A → Type 0
ListsUnfold {A = A} read = (says : A → Tree) → ReadsTrees read says → ReadsTrees (list_at read) (λ vs. array (trees_of says vs))

-- keys of text, each with a value of one meaning after it, that follow one another
pub data PairsFollow {A : Type 0} (read : Meaning A) (s : List ℕ) (d : ℕ) : ℕ → List (List ℕ × A) → ℕ → ℕ → ℕ → Type 0 where
  no_pairs_follow : {p : ℕ} → PairsFollow read s d p [] p 0 0
  one_pair_follows : {p q c b : ℕ} {xs : List (List ℕ × A)} {k : Reading (List ℕ)} {v : Reading A} → key_at s p d ≡ Some k → read s k.next d ≡ Some v → PairsFollow read s d v.next xs q c b → PairsFollow read s d p ((k.value, v.value) ∷ xs) q (k.values + (v.values + c)) (k.bytes + (v.bytes + b))

-- pairs that are put into a map in turn
abbrev pub put_all : {A : Type 0} → List (List ℕ × A) → List (List ℕ × A) → List (List ℕ × A)
put_all m [] = m
put_all m (x ∷ xs) = put_all (put m x.0 x.1) xs

-- a map with keys of text is at p: its pairs follow one another, each key and each value one value, and are put in turn
-- into a map that is empty
pub record TextMapStands {A : Type 0} (read : Meaning A) (s : List ℕ) (p d : ℕ) (m : List (List ℕ × A)) (q c b : ℕ) : Type 0 where
  pub table : Entered
  pub pairs : List (List ℕ × A)
  pub last : ℕ
  pub more : ℕ
  pub stands : ContainerStands 7 s p d table
  pub follow : PairsFollow read s table.levels table.body pairs last more b
  pub count : table.count ≡ length pairs
  pub put : m ≡ put_all [] pairs
  pub next : q ≡ unwrap_or table.after last
  pub values : c ≡ 2 * table.count + more

-- what is read as a map with keys of text is such a map
abbrev pub ReadsTextMaps : {A : Type 0} → Meaning A → Type 0
ReadsTextMaps {A = A} read =
    (s : List ℕ) (p d : ℕ) (m : List (List ℕ × A)) (q c b : ℕ) →
    (text_map_at read s p d ≡ Some (record { value = m; next = q; values = c; bytes = b })) ↔ TextMapStands read s p d m q c b

-- the value of the last pair with a key, or what was there before
abbrev pub last_value : {A : Type 0} → List ℕ → Option A → List (List ℕ × A) → Option A
last_value key before [] = before
last_value key before (x ∷ xs) = last_value key (if bytes_eq key x.0 then Some x.1 else before) xs

-- of pairs that are put in turn, the last one with a key gives its value
abbrev pub LastPairStays : Type 0 → Type 0
LastPairStays A = (pairs : List (List ℕ × A)) (key : List ℕ) → lookup (bytes_eq key) (put_all [] pairs) ≡ last_value key None pairs

-- and the keys ascend, byte by byte, each coming once
abbrev pub KeysAscend : Type 0 → Type 0
KeysAscend A = (pairs : List (List ℕ × A)) → IsStrictlySortedBy (slice_cmp nat_cmp) (map (λ e. e.0) (put_all [] pairs))

-- names, each with what it makes of a record after it, that follow one another
pub data FieldsFollow {P : Type 0} (fields : Fields P) (s : List ℕ) (d : ℕ) : P → ℕ → List (List ℕ) → P → ℕ → ℕ → ℕ → Type 0 where
  no_fields_follow : {x : P} {p : ℕ} → FieldsFollow fields s d x p [] x p 0 0
  one_field_follows : {x z : P} {p q c b : ℕ} {names : List (List ℕ)} {name : Reading (List ℕ)} {y : Reading P} → name_at s p d ≡ Some name → fields x name.value s name.next d ≡ Some y → FieldsFollow fields s d y.value y.next names z q c b → FieldsFollow fields s d x p (name.value ∷ names) z q (name.values + (y.values + c)) (name.bytes + (y.bytes + b))

-- a record is at p: a map whose names, with the values after them, make a record of an empty one
pub record RecordStands {P : Type 0} (fields : Fields P) (none : P) (s : List ℕ) (p d : ℕ) (names : List (List ℕ)) (x : P) (q c b : ℕ) : Type 0 where
  pub table : Entered
  pub last : ℕ
  pub more : ℕ
  pub stands : ContainerStands 7 s p d table
  pub follow : FieldsFollow fields s table.levels none table.body names x last more b
  pub count : table.count ≡ length names
  pub next : q ≡ unwrap_or table.after last
  pub values : c ≡ 2 * table.count + more

-- what is read as a record is such a record
abbrev pub ReadsRecords : {P : Type 0} → Fields P → P → Type 0
ReadsRecords {P = P} fields none =
    (s : List ℕ) (p d : ℕ) (x : P) (q c b : ℕ) →
    (record_at fields none s p d ≡ Some (record { value = x; next = q; values = c; bytes = b })) ↔ ((names : List (List ℕ)) × RecordStands fields none s p d names x q c b)

-- what is read as a whole record is such a record, of which none of the fields that are required is missing
abbrev pub ReadsWholeRecords : {P R : Type 0} → Fields P → P → (P → Option R) → Type 0
ReadsWholeRecords {P = P} {R = R} fields none whole =
    (s : List ℕ) (p d : ℕ) (v : R) (q c b : ℕ) →
    (finished whole (record_at fields none) s p d ≡ Some (record { value = v; next = q; values = c; bytes = b })) ↔ ((x : P) × (names : List (List ℕ)) × RecordStands fields none s p d names x q c b × (whole x ≡ Some v))

-- what is read by a table of fields is such a record, and says what its fields say
abbrev pub ReadsTables : {R : Type 0} → Table R → Type 0
ReadsTables t =
    (s : List ℕ) (p d : ℕ) (v : Data t) (q c b : ℕ) →
    (record_of t s p d ≡ Some (record { value = v; next = q; values = c; bytes = b })) ↔ ((x : Parts t) × (names : List (List ℕ)) × RecordStands (fields_of t) (no_parts t) s p d names x q c b × (whole_of t x ≡ Some v))

-- A name of which a record says whether it was met: no field empties it, its own fills it, and where it was met nothing
-- is read after it.
pub record IsKnown {P : Type 0} (fields : Fields P) (name : List ℕ) (has_stood : P → Bool) : Type 0 where
  pub stays : (x : P) (other s : List ℕ) (p d : ℕ) (y : Reading P) → has_stood x ≡ true → fields x other s p d ≡ Some y → has_stood y.value ≡ true
  pub fills : (x : P) (s : List ℕ) (p d : ℕ) (y : Reading P) → fields x name s p d ≡ Some y → has_stood y.value ≡ true
  pub rejected : (x : P) (s : List ℕ) (p d : ℕ) → has_stood x ≡ true → fields x name s p d ≡ None

-- a name comes at most once among these
abbrev pub StandsOnce : List (List ℕ) → List ℕ → Type 0
StandsOnce names name = count_by (bytes_eq name) names ≤ 1

-- the name of each field of a table comes at most once among these
abbrev pub FieldNamesOnce : {R : Type 0} → Table R → List (List ℕ) → Type 0
FieldNamesOnce end names = Unit {0}
FieldNamesOnce (optional name shape get rest) names = StandsOnce names name × FieldNamesOnce rest names
FieldNamesOnce (part name shape none is_absent get rest) names = StandsOnce names name × FieldNamesOnce rest names

-- in a record that is there, the name of each field of its table comes at most once: a map that repeats one is not read
abbrev pub FieldNamesStandOnce : {R : Type 0} → Table R → Type 0
FieldNamesStandOnce t =
    (s : List ℕ) (p d : ℕ) (names : List (List ℕ)) (x : Parts t) (q c b : ℕ) →
    RecordStands (fields_of t) (no_parts t) s p d names x q c b → FieldNamesOnce t names

-- a known name comes at most once in a record
abbrev pub KnownNamesStandOnce : {P : Type 0} → Fields P → P → Type 0
KnownNamesStandOnce {P = P} fields none =
    (name : List ℕ) (has_stood : P → Bool) (s : List ℕ) (p d : ℕ) (names : List (List ℕ)) (x : P) (q c b : ℕ) →
    IsKnown fields name has_stood → RecordStands fields none s p d names x q c b → count_by (bytes_eq name) names ≤ 1

abbrev pub pairs_of : {A : Type 0} → (A → Tree) → List (List ℕ × A) → Pairs
pairs_of says [] = no_pairs
pairs_of says (x ∷ xs) = pair (scalar (text x.0)) (says x.1) (pairs_of says xs)

-- where each value is a tree that unfolds, so is the map: the table of the pairs that are put in turn
abbrev pub TextMapsUnfold : {A : Type 0} → Meaning A → Type 0
TextMapsUnfold {A = A} read =
    (says : A → Tree) → ReadsTrees read says →
    (s : List ℕ) (p d : ℕ) (r : Reading (List (List ℕ × A))) → text_map_at read s p d ≡ Some r →
    (u : Tree) × (pairs : List (List ℕ × A)) × Unfolds s p u r.next × (without_pointers u ≡ table (pairs_of says pairs)) × (r.value ≡ put_all [] pairs)
