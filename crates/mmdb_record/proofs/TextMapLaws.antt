-- What is read as a map with keys of text is the map that is there.
use Rattle.std.specs.Option.{IfSome}
use Rattle.std.specs.Map.{lookup}
use Rattle.std.specs.Str.{bytes_eq}
use Rattle.std.specs.Cmp.Lexicographic.{slice_cmp}
use Rattle.std.specs.List.{AllByRecursion}
use Rattle.std.specs.List.Sorted.{IsStrictlySortedBy}
use Rattle.std.specs.Ordering.{nat_cmp, match_ordering, is_eq, ordering_reverse}
use Rattle.std.proofs.lemmas.Cmp.{nat_list_cmp_total}
use Rattle.std.proofs.Common.{◌≡◌, ℕ, zero, suc, List, [], ◌∷◌, length, map, Option, Some, None, Bool, true, false, Ordering, Less, Equal, Greater, refl, sym, ap, ◌∙◌, cond}
use Rattle.std.proofs.lemmas.Map.Lookups.{exact_bytes}
use Rattle.std.proofs.lemmas.Map.Text.{is_eq-slice_cmp}
use Rattle.mmdb_format.specs.Header.{◌>>=◌}
use Rattle.mmdb_decode.specs.Reading.{Reading, Meaning, plus}
use Rattle.mmdb_decode.specs.Maps.{key_at, map_at, in_map, pairs_from, pair_of, put, text_map_at}
use Rattle.mmdb_record.specs.TypedReads.{ContainerStands, PairsFollow, no_pairs_follow, one_pair_follows, put_all, TextMapStands, ReadsTextMaps, last_value, LastPairStays, KeysAscend}
use Rattle.mmdb_decode.proofs.Options.{if_bind, if_is}
use Rattle.mmdb_record.proofs.ContainerLaws.{container_sound, container_complete}

abbrev at : {A : Type 0} → A → ℕ → ℕ → ℕ → Reading A
at v q c b = record { value = v; next = q; values = c; bytes = b }

module _ {A : Type 0} (read : Meaning A) (s : List ℕ) where
  abbrev Map : Type 0
  Map = List (List ℕ × A)

  abbrev Read : ℕ → ℕ → ℕ → Map → Reading Map → Type 0
  Read d p n m r = (xs : Map) × PairsFollow read s d p xs r.next r.values r.bytes × (n ≡ length xs) × (r.value ≡ put_all m xs)

  one_more : (d p n : ℕ) (m : Map) (k : Reading (List ℕ)) (v : Reading A) (o : Option (Reading Map)) → key_at s p d ≡ Some k → read s k.next d ≡ Some v → IfSome o (Read d v.next n (put m k.value v.value)) → IfSome ((o >>= λ w. Some (plus (at (put m k.value v.value) v.next v.values v.bytes) w)) >>= λ y. Some (plus k y)) (Read d p (suc n) m)
  one_more d p n m k v None h e f = tt
  one_more d p n m k v (Some w) h e f = ((k.value, v.value) ∷ f.0, one_pair_follows h e f.1, ap suc f.2, f.3)

  pairs_sound : (d n p : ℕ) (m : Map) → IfSome (pairs_from key_at (pair_of read) m n s p d) (Read d p n m)
  pairs_sound d zero p m = ([], no_pairs_follow, refl, refl)
  pairs_sound d (suc n) p m = if_bind (key_at s p d) _ (Read d p (suc n) m) (λ k h. value_read k (read s k.next d) h refl (λ v. pairs_sound d n v.next (put m k.value v.value)))
    where
      value_read : (k : Reading (List ℕ)) (o : Option (Reading A)) → key_at s p d ≡ Some k → read s k.next d ≡ o → ((v : Reading A) → IfSome (pairs_from key_at (pair_of read) (put m k.value v.value) n s v.next d) (Read d v.next n (put m k.value v.value))) → IfSome (((o >>= λ r. Some (at (put m k.value r.value) r.next r.values r.bytes)) >>= λ v. pairs_from key_at (pair_of read) v.value n s v.next d >>= λ w. Some (plus v w)) >>= λ y. Some (plus k y)) (Read d p (suc n) m)
      value_read k None h e more = tt
      value_read k (Some v) h e more = one_more d p n m k v (pairs_from key_at (pair_of read) (put m k.value v.value) n s v.next d) h e (more v)

  pairs_complete : {d p : ℕ} {xs : Map} {q c b : ℕ} → PairsFollow read s d p xs q c b → (m : Map) → pairs_from key_at (pair_of read) m (length xs) s p d ≡ Some (at (put_all m xs) q c b)
  pairs_complete no_pairs_follow m = refl
  pairs_complete (one_pair_follows {k = k} {v = v} h e f) m = rw (h, e, pairs_complete f (put m k.value v.value)) refl

  map_sound : (p d : ℕ) → IfSome (text_map_at read s p d) (λ r. TextMapStands read s p d r.value r.next r.values r.bytes)
  unfolding in_map
  map_sound p d =
      if_bind (map_at s p d) _ (λ r. TextMapStands read s p d r.value r.next r.values r.bytes) (λ e h.
      if_bind (pairs_from key_at (pair_of read) [] e.count s e.body e.levels) _ (λ r. TextMapStands read s p d r.value r.next r.values r.bytes) (λ r k.
      let f = if_is (pairs_from key_at (pair_of read) [] e.count s e.body e.levels) (Read e.levels e.body e.count []) r (pairs_sound e.levels e.count e.body []) k in
      record { table = e; pairs = f.0; last = r.next; more = r.values; stands = if_is (map_at s p d) (ContainerStands 7 s p d) e (container_sound 7 s p d) h; follow = f.1; count = f.2; put = f.3; next = refl; values = refl }))

  map_complete : (p d : ℕ) (m : Map) (q c b : ℕ) → TextMapStands read s p d m q c b → text_map_at read s p d ≡ Some (at m q c b)
  unfolding in_map
  map_complete p d m q c b h =
      let e = container_complete 7 s p d h.table refl h.stands in
      let f : pairs_from key_at (pair_of read) [] h.table.count s h.table.body h.table.levels ≡ Some (at (put_all [] h.pairs) h.last h.more b) = rw h.count (pairs_complete h.follow []) in
      rw (e, f, h.put, h.next, h.values) refl

pub reads_text_maps : {A : Type 0} (read : Meaning A) → ReadsTextMaps read
reads_text_maps read s p d m q c b = (λ h. if_is (text_map_at read s p d) (λ r. TextMapStands read s p d r.value r.next r.values r.bytes) (at m q c b) (map_sound read s p d) h, map_complete read s p d m q c b)

-- of equal keys the last pair stays
is_equal : (o : Ordering) → is_eq o ≡ true → o ≡ Equal
is_equal Less h = absurd (cc)
is_equal Equal h = refl
is_equal Greater h = absurd (cc)

pub same_bytes : (x y : List ℕ) → bytes_eq x y ≡ true → x ≡ y
same_bytes x y h = exact_bytes x y (is_equal (slice_cmp nat_cmp x y) (is_eq-slice_cmp x y ∙ h))

taken_twice : {X : Type 0} (t : Bool) (a b c : X) → cond t a c ≡ cond t a (cond t b c)
taken_twice true a b c = refl
taken_twice false a b c = refl

not_both : {X : Type 0} (t u : Bool) (a b c : X) → (t ≡ true → u ≡ true → ⊥) → cond t b (cond u a c) ≡ cond u a (cond t b c)
not_both true true a b c h = absurd (h refl refl)
not_both true false a b c h = refl
not_both false true a b c h = refl
not_both false false a b c h = refl

lookup_put : {A : Type 0} (key : List ℕ) (m : List (List ℕ × A)) (k : List ℕ) (v : A) → lookup (bytes_eq key) (put m k v) ≡ cond (bytes_eq key k) (Some v) (lookup (bytes_eq key) m)
lookup_put key [] k v = refl
lookup_put key (e ∷ es) k v = by_order (slice_cmp nat_cmp k e.0) refl (lookup_put key es k v)
  where
    both : bytes_eq k e.0 ≡ false → bytes_eq key e.0 ≡ true → bytes_eq key k ≡ true → ⊥
    both differ h i = let same = same_bytes key k i in let again : bytes_eq k e.0 ≡ true = rw (← same) h in cc

    by_order : (o : Ordering) → slice_cmp nat_cmp k e.0 ≡ o → lookup (bytes_eq key) (put es k v) ≡ cond (bytes_eq key k) (Some v) (lookup (bytes_eq key) es) → lookup (bytes_eq key) (match_ordering o ((k, v) ∷ e ∷ es) ((e.0, v) ∷ es) (e ∷ put es k v)) ≡ cond (bytes_eq key k) (Some v) (cond (bytes_eq key e.0) (Some e.1) (lookup (bytes_eq key) es))
    by_order Less h more = refl
    by_order Equal h more = let same : k ≡ e.0 = exact_bytes k e.0 h in rw same (taken_twice (bytes_eq key e.0) (Some v) (Some e.1) (lookup (bytes_eq key) es))
    by_order Greater h more =
        let differ : bytes_eq k e.0 ≡ false = sym (is_eq-slice_cmp k e.0) ∙ ap is_eq h in
        ap (λ o. cond (bytes_eq key e.0) (Some e.1) o) more ∙ not_both (bytes_eq key e.0) (bytes_eq key k) (Some v) (Some e.1) (lookup (bytes_eq key) es) (both differ)

lookup_all : {A : Type 0} (key : List ℕ) (xs m : List (List ℕ × A)) → lookup (bytes_eq key) (put_all m xs) ≡ last_value key (lookup (bytes_eq key) m) xs
lookup_all key [] m = refl
lookup_all key (x ∷ xs) m = lookup_all key xs (put m x.0 x.1) ∙ ap (λ o. last_value key o xs) (lookup_put key m x.0 x.1)

pub last_pair_stays : {A : Type 0} → LastPairStays A
last_pair_stays pairs key = lookup_all key pairs []

-- the keys ascend
abbrev Below : List ℕ → List ℕ → Type 0
Below x y = slice_cmp nat_cmp x y ≡ Less

abbrev keys : {A : Type 0} → List (List ℕ × A) → List (List ℕ)
keys m = map (λ e. e.0) m

all_put : {A : Type 0} (P : List ℕ → Type 0) (m : List (List ℕ × A)) (k : List ℕ) (v : A) → P k → AllByRecursion P (keys m) → AllByRecursion P (keys (put m k v))
all_put P [] k v h a = (h, tt)
all_put P (e ∷ es) k v h a = by_order (slice_cmp nat_cmp k e.0) (all_put P es k v h a.1)
  where
    by_order : (o : Ordering) → AllByRecursion P (keys (put es k v)) → AllByRecursion P (keys (match_ordering o ((k, v) ∷ e ∷ es) ((e.0, v) ∷ es) (e ∷ put es k v)))
    by_order Less more = (h, a)
    by_order Equal more = a
    by_order Greater more = (a.0, more)

all_above : (x y : List ℕ) (ks : List (List ℕ)) → Below x y → AllByRecursion (Below y) ks → AllByRecursion (Below x) ks
all_above x y [] h a = tt
all_above x y (k ∷ ks) h a = (nat_list_cmp_total.trans x y k h a.0, all_above x y ks h a.1)

sorted_put : {A : Type 0} (m : List (List ℕ × A)) (k : List ℕ) (v : A) → IsStrictlySortedBy (slice_cmp nat_cmp) (keys m) → IsStrictlySortedBy (slice_cmp nat_cmp) (keys (put m k v))
unfolding IsStrictlySortedBy
sorted_put [] k v h = (tt, tt)
sorted_put (e ∷ es) k v h = by_order (slice_cmp nat_cmp k e.0) refl (sorted_put es k v h.1)
  where
    by_order : (o : Ordering) → slice_cmp nat_cmp k e.0 ≡ o → IsStrictlySortedBy (slice_cmp nat_cmp) (keys (put es k v)) → IsStrictlySortedBy (slice_cmp nat_cmp) (keys (match_ordering o ((k, v) ∷ e ∷ es) ((e.0, v) ∷ es) (e ∷ put es k v)))
    by_order Less i more = ((i, all_above k e.0 (keys es) i h.0), h)
    by_order Equal i more = h
    by_order Greater i more = (all_put (Below e.0) es k v (nat_list_cmp_total.antisymm e.0 k ∙ ap ordering_reverse i) h.0, more)

sorted_all : {A : Type 0} (xs m : List (List ℕ × A)) → IsStrictlySortedBy (slice_cmp nat_cmp) (keys m) → IsStrictlySortedBy (slice_cmp nat_cmp) (keys (put_all m xs))
sorted_all [] m h = h
sorted_all (x ∷ xs) m h = sorted_all xs (put m x.0 x.1) (sorted_put m x.0 x.1 h)

pub keys_ascend : {A : Type 0} → KeysAscend A
unfolding IsStrictlySortedBy
keys_ascend pairs = sorted_all pairs [] tt
