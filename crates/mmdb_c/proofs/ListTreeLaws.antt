-- What is listed is the tree that unfolds, and each tree is listed.
use Rattle.std.proofs.Common.{◌≡◌, ◌≤◌, ◌*◌, ◌++◌, ℕ, zero, suc, List, [], ◌∷◌, Option, Some, None, Bool, true, false, ◌&&◌, ◌||◌, nat_eq, refl, sym, ap, subst, cond, arith, ◌∙◌}
use Rattle.std.specs.Option.{IfSome}
use Rattle.std.proofs.lemmas.Bool.Decides.{nat_tests}
use Rattle.mmdb_format.specs.Header.{◌>>=◌, header_at}
use Rattle.mmdb_format.specs.Pointer.{pointer_at}
use Rattle.mmdb_format.specs.Contents.{Scalar, content_at, content_end}
use Rattle.mmdb_format.specs.Unfolding.{Tree, scalar, array, table, pointer, Trees, no_trees, tree, Pairs, no_pairs, pair, Unfolds, scalar_here, array_here, table_here, pointer_here, AllUnfold, none_left, one_more, PairsUnfold, no_pairs_left, one_more_pair}
use Rattle.mmdb_format.specs.declared.header.Header.{Header}
use Rattle.mmdb_format.specs.declared.header.Pointer.{Pointer}
use Rattle.mmdb_format.proofs.UnfoldingLaws.{no_content_of_pointer, no_content_of_table, no_content_of_array}
use Rattle.mmdb_c.specs.declared.list.ListPart.{ListPart}
use Rattle.mmdb_c.specs.declared.list.EntryPlace.{EntryPlace}
use Rattle.mmdb_c.specs.List.{in_series, joined, listed, place_at, parts_of, scalar_part, scalar_parts, scalar_parts_at, container_part, container_parts, is_container, count_of, end_of}
use Rattle.mmdb_c.specs.ListTrees.{preorder, preorder_of_trees, preorder_of_pairs, depth, depth_of_trees, depth_of_pairs, is_value, is_unchained, are_unchained, pairs_unchained, ArePartsOf, CanList, ListsWhatUnfolds, EachTreeIsListed}

-- what is known of whatever an option holds
if_bind : {A B : Type 0} (o : Option A) (f : A → Option B) (P : B → Type 0) → ((x : A) → o ≡ Some x → IfSome (f x) P) → IfSome (o >>= f) P
if_bind None f P h = tt
if_bind (Some x) f P h = h x refl

if_cond : {A : Type 0} (b : Bool) (x y : Option A) (P : A → Type 0) → (b ≡ true → IfSome x P) → (b ≡ false → IfSome y P) → IfSome (cond b x y) P
if_cond true x y P h k = h refl
if_cond false x y P h k = k refl

if_is : {A : Type 0} (o : Option A) (P : A → Type 0) (x : A) → IfSome o P → o ≡ Some x → P x
if_is None P x h e = absurd (cc)
if_is (Some y) P x h e = let f : y ≡ x = cc in subst P f h

both : (a b : Bool) → a ≡ true → b ≡ true → a && b ≡ true
both true b h k = k
both false b h k = absurd (cc)

first_of_both : (a b : Bool) → a && b ≡ true → a ≡ true
first_of_both true b h = refl
first_of_both false b h = absurd (cc)

second_of_both : (a b : Bool) → a && b ≡ true → b ≡ true
second_of_both true b h = h
second_of_both false b h = absurd (cc)

parts_joined : (s : List ℕ) (ts us : List Tree) (xs ys : List ListPart) → ArePartsOf s ts xs → ArePartsOf s us ys → ArePartsOf s (ts ++ us) (xs ++ ys)
parts_joined s [] us [] ys h k = k
parts_joined s [] us (x ∷ xs) ys h k = absurd h
parts_joined s (t ∷ ts) us [] ys h k = absurd h
parts_joined s (t ∷ ts) us (x ∷ xs) ys h k = (h.0, parts_joined s ts us xs ys h.1 k)

-- a tree, or a pointer that leads to it
abbrev led_to : Option ℕ → Tree → Tree
led_to None t = t
led_to (Some a) t = pointer a t

led_parts : (to : Option ℕ) (t : Tree) → preorder (led_to to t) ≡ preorder t
led_parts None t = refl
led_parts (Some a) t = refl

led_depth : (to : Option ℕ) (t : Tree) → depth (led_to to t) ≡ depth t
led_depth None t = refl
led_depth (Some a) t = refl

led_unchained : (to : Option ℕ) (t : Tree) → is_value t ≡ true → is_unchained t ≡ true → is_unchained (led_to to t) ≡ true
led_unchained None t h k = k
led_unchained (Some a) t h k = both (is_value t) (is_unchained t) h k

module _ (s : List ℕ) where
  -- what is listed unfolds
  abbrev Placed : ℕ → EntryPlace → Type 0
  Placed p place = (to : Option ℕ) × (header_at s place.offset ≡ Some place.header) × ((t : Tree) (q : ℕ) → Unfolds s place.offset t q → Unfolds s p (led_to to t) (end_of place q))

  placed : (p : ℕ) → IfSome (place_at s p) (Placed p)
  unfolding place_at
  placed p =
      if_bind (header_at s p) _ (Placed p) (λ header h.
      if_cond (nat_eq header.kind 1) _ _ (Placed p)
      (λ k. if_bind (pointer_at s header.body header.size) _ (Placed p) (λ to a.
      if_bind (header_at s to.target) _ (Placed p) (λ there b.
      if_cond (nat_eq there.kind 1) _ _ (Placed p)
      (λ n. tt)
      (λ n. (Some to.target, b, λ t q u. let one : header.kind ≡ 1 = grind (arith, nat_tests) in pointer_here h one a u)))))
      (λ k. (None, h, λ t q u. u)))

  abbrev Found : ℕ → ℕ → List ListPart × ℕ → Type 0
  Found n p r = (t : Tree) × CanList n s p t r.1 × ArePartsOf s (preorder t) r.0

  pub record AreFound (n count p : ℕ) (ts : Trees) (r : List ListPart × ℕ) : Type 0 where
    pub unfolds : AllUnfold s p count ts r.1
    pub unchained : are_unchained ts ≡ true
    pub within : depth_of_trees ts ≤ n
    pub parts : ArePartsOf s (preorder_of_trees ts) r.0

  pub record PairsFound (n count p : ℕ) (ps : Pairs) (r : List ListPart × ℕ) : Type 0 where
    pub unfolds : PairsUnfold s p count ps r.1
    pub unchained : pairs_unchained ps ≡ true
    pub within : depth_of_pairs ps ≤ n
    pub parts : ArePartsOf s (preorder_of_pairs ps) r.0

  abbrev FoundTrees : ℕ → ℕ → ℕ → List ListPart × ℕ → Type 0
  FoundTrees n count p r = (ts : Trees) × AreFound n count p ts r

  abbrev FoundPairs : ℕ → ℕ → ℕ → List ListPart × ℕ → Type 0
  FoundPairs n count p r = (ps : Pairs) × PairsFound n count p ps r

  tree_more : (n count p : ℕ) (x : List ListPart × ℕ) (o : Option (List ListPart × ℕ)) → Found n p x → IfSome o (FoundTrees n count x.1) → IfSome (joined x.0 o) (FoundTrees n (suc count) p)
  tree_more n count p x None h k = tt
  tree_more n count p x (Some r) h k =
      let f = h.1 in
      let g = k.1 in
      (tree h.0 k.0, record { unfolds = one_more f.unfolds g.unfolds; unchained = both (is_unchained h.0) (are_unchained k.0) f.unchained g.unchained; within = omega (arith, f.within, g.within); parts = parts_joined s (preorder h.0) (preorder_of_trees k.0) x.0 r.0 h.2 g.parts })

  pair_more : (n count p : ℕ) (x y : List ListPart × ℕ) (o : Option (List ListPart × ℕ)) → Found n p x → Found n x.1 y → IfSome o (FoundPairs n count y.1) → IfSome (joined x.0 (joined y.0 o)) (FoundPairs n (suc count) p)
  pair_more n count p x y None h i k = tt
  pair_more n count p x y (Some r) h i k =
      let f = h.1 in
      let e = i.1 in
      let g = k.1 in (
        pair h.0 i.0 k.0,
        record {
          unfolds = one_more_pair f.unfolds e.unfolds g.unfolds;
          unchained = both (is_unchained h.0) (is_unchained i.0 && pairs_unchained k.0) f.unchained (both (is_unchained i.0) (pairs_unchained k.0) e.unchained g.unchained);
          within = omega (arith, f.within, e.within, g.within);
          parts = parts_joined s (preorder h.0) (preorder i.0 ++ preorder_of_pairs k.0) x.0 (y.0 ++ r.0) h.2 (parts_joined s (preorder i.0) (preorder_of_pairs k.0) y.0 r.0 i.2 g.parts);
        },
      )

  module _ (read : ℕ → Option (List ListPart × ℕ)) (n : ℕ) (each : (p : ℕ) → IfSome (read p) (Found n p)) where
    trees_sound : (count p : ℕ) → IfSome (in_series read count p) (FoundTrees n count p)
    trees_sound zero p = (no_trees, record { unfolds = none_left; unchained = refl; within = omega arith; parts = tt })
    trees_sound (suc count) p = if_bind (read p) _ (FoundTrees n (suc count) p) (λ x e. tree_more n count p x (in_series read count x.1) (if_is (read p) (Found n p) x (each p) e) (trees_sound count x.1))

    value_more : (count p : ℕ) (x : List ListPart × ℕ) (o : Option (List ListPart × ℕ)) → Found n p x → read x.1 ≡ o → ((q : ℕ) → IfSome (in_series read (2 * count) q) (FoundPairs n count q)) → IfSome (joined x.0 (o >>= λ y. joined y.0 (in_series read (2 * count) y.1))) (FoundPairs n (suc count) p)
    value_more count p x None h e k = tt
    value_more count p x (Some y) h e k = pair_more n count p x y (in_series read (2 * count) y.1) h (if_is (read x.1) (Found n x.1) y (each x.1) e) (k y.1)

    pairs_sound : (count p : ℕ) → IfSome (in_series read (2 * count) p) (FoundPairs n count p)
    pairs_sound zero p = (no_pairs, record { unfolds = no_pairs_left; unchained = refl; within = omega arith; parts = tt })
    pairs_sound (suc count) p =
        let twice : 2 * suc count ≡ suc (suc (2 * count)) = omega arith in
        subst (λ m. IfSome (in_series read m p) (FoundPairs n (suc count) p)) (sym twice)
        (if_bind (read p) _ (FoundPairs n (suc count) p) (λ x e. value_more count p x (read x.1) (if_is (read p) (Found n p) x (each p) e) refl (pairs_sound count)))

  -- a value that is no pointer, and its parts, through a pointer or none
  own_found : (n p q : ℕ) (place : EntryPlace) (t : Tree) (parts : List ListPart) → Placed p place → Unfolds s place.offset t q → is_value t ≡ true → is_unchained t ≡ true → depth t ≤ n → ArePartsOf s (preorder t) parts → Found n p (parts, end_of place q)
  own_found n p q place t parts l u v w d a = (
    led_to l.0 t,
    record { unfolds = l.2 t q u; unchained = led_unchained l.0 t v w; within = subst (λ m. m ≤ n) (sym (led_depth l.0 t)) d },
    subst (λ ts. ArePartsOf s ts parts) (sym (led_parts l.0 t)) a,
  )

  module _ (n p : ℕ) (place : EntryPlace) (l : Placed p place) where
    scalar_done : (o : Option Scalar) → content_at s place.header ≡ o → IfSome (o >>= λ c. Some (scalar_parts place c)) (Found (suc n) p)
    scalar_done None e = tt
    scalar_done (Some c) e =
        let u : Unfolds s place.offset (scalar c) (content_end place.header) = scalar_here l.1 e in
        own_found (suc n) p (content_end place.header) place (scalar c) (scalar_part place (end_of place (content_end place.header)) c ∷ []) l u refl refl (omega arith) (record { place = place; end = content_end place.header; header = l.1; unfolds = u; part = refl }, tt)

    array_done : (o : Option (List ListPart × ℕ)) → place.header.kind ≡ 11 → IfSome o (FoundTrees n place.header.size place.header.body) → IfSome (o >>= λ r. Some (container_parts place r)) (Found (suc n) p)
    array_done None k h = tt
    array_done (Some r) k h =
        let g = h.1 in
        let u : Unfolds s place.offset (array h.0) r.1 = array_here l.1 k g.unfolds in
        own_found (suc n) p r.1 place (array h.0) (container_part place (end_of place r.1) ∷ r.0) l u refl g.unchained (omega (arith, g.within)) (record { place = place; end = r.1; header = l.1; unfolds = u; part = refl }, g.parts)

    table_done : (o : Option (List ListPart × ℕ)) → place.header.kind ≡ 7 → IfSome o (FoundPairs n place.header.size place.header.body) → IfSome (o >>= λ r. Some (container_parts place r)) (Found (suc n) p)
    table_done None k h = tt
    table_done (Some r) k h =
        let g = h.1 in
        let u : Unfolds s place.offset (table h.0) r.1 = table_here l.1 k g.unfolds in
        own_found (suc n) p r.1 place (table h.0) (container_part place (end_of place r.1) ∷ r.0) l u refl g.unchained (omega (arith, g.within)) (record { place = place; end = r.1; header = l.1; unfolds = u; part = refl }, g.parts)

    module _ (read : ℕ → Option (List ListPart × ℕ)) (each : (p : ℕ) → IfSome (read p) (Found n p)) where
      container_done : (seven eleven : Bool) → nat_eq place.header.kind 7 ≡ seven → nat_eq place.header.kind 11 ≡ eleven → seven || eleven ≡ true → IfSome (in_series read (cond seven (2 * place.header.size) place.header.size) place.header.body >>= λ r. Some (container_parts place r)) (Found (suc n) p)
      container_done true eleven a b h = let seven : place.header.kind ≡ 7 = grind (arith, nat_tests) in table_done (in_series read (2 * place.header.size) place.header.body) seven (pairs_sound read n each place.header.size place.header.body)
      container_done false true a b h = let eleven : place.header.kind ≡ 11 = grind (arith, nat_tests) in array_done (in_series read place.header.size place.header.body) eleven (trees_sound read n each place.header.size place.header.body)
      container_done false false a b h = absurd (cc)

      parts_sound : IfSome (parts_of read s place) (Found (suc n) p)
      parts_sound =
          if_cond (is_container place.header) _ _ (Found (suc n) p)
          (λ k. container_done (nat_eq place.header.kind 7) (nat_eq place.header.kind 11) refl refl k)
          (λ k. scalar_done (content_at s place.header) refl)

  listed_sound : (n p : ℕ) → IfSome (listed n s p) (Found n p)
  unfolding listed
  listed_sound zero p = tt
  listed_sound (suc n) p = if_bind (place_at s p) _ (Found (suc n) p) (λ place e. parts_sound n p place (if_is (place_at s p) (Placed p) place (placed p) e) (listed n s) (listed_sound n))

pub lists_what_unfolds : ListsWhatUnfolds
lists_what_unfolds levels s p q parts e = if_is (listed levels s p) (Found s levels p) (parts, q) (listed_sound s levels p) e

-- each tree is listed
place_own : (s : List ℕ) (p : ℕ) (header : Header) → header_at s p ≡ Some header → nat_eq header.kind 1 ≡ false → place_at s p ≡ Some (record { offset = p; header = header; after = None })
unfolding place_at
place_own s p header h k = rw (h, k) refl

place_behind : (s : List ℕ) (p : ℕ) (header there : Header) (to : Pointer) → header_at s p ≡ Some header → header.kind ≡ 1 → pointer_at s header.body header.size ≡ Some to → header_at s to.target ≡ Some there → nat_eq there.kind 1 ≡ false → place_at s p ≡ Some (record { offset = to.target; header = there; after = Some to.next })
unfolding place_at
place_behind s p header there to h k a b n = let one : nat_eq header.kind 1 ≡ true = rw k refl in rw (h, one, a, b, n) refl

none_is_some : {A : Type 0} (o : Option A) (x : A) → o ≡ None → o ≡ Some x → ⊥
none_is_some o x h k = absurd (cc)

decided : (b : Bool) → (b ≡ true → ⊥) → b ≡ false
decided true h = absurd (h refl)
decided false h = refl

-- what has a content is no pointer, map or array
not_pointer : (s : List ℕ) (header : Header) (c : Scalar) → content_at s header ≡ Some c → nat_eq header.kind 1 ≡ false
not_pointer s header c e = decided (nat_eq header.kind 1) (λ k. let one : header.kind ≡ 1 = grind (arith, nat_tests) in none_is_some _ c (no_content_of_pointer s header one) e)

not_container : (s : List ℕ) (header : Header) (c : Scalar) → content_at s header ≡ Some c → is_container header ≡ false
not_container s header c e =
    let seven : nat_eq header.kind 7 ≡ false = decided (nat_eq header.kind 7) (λ k. let same : header.kind ≡ 7 = grind (arith, nat_tests) in none_is_some _ c (no_content_of_table s header same) e) in
    let eleven : nat_eq header.kind 11 ≡ false = decided (nat_eq header.kind 11) (λ k. let same : header.kind ≡ 11 = grind (arith, nat_tests) in none_is_some _ c (no_content_of_array s header same) e) in
    rw (seven, eleven) refl

-- each tree has a value
no_depth : (t : Tree) → depth t ≤ 0 → ⊥
no_depth (scalar c) d = absurd (omega (arith, d))
no_depth (array ts) d = absurd (omega (arith, d))
no_depth (table ps) d = absurd (omega (arith, d))
no_depth (pointer a t) d = no_depth t d

abbrev Listed : ℕ → List ℕ → ℕ → ℕ → Type 0
Listed n s p q = (parts : List ListPart) × (listed n s p ≡ Some (parts, q))

module _ (s : List ℕ) (n : ℕ) where
  -- the parts of a value that is no pointer
  abbrev OwnListed : EntryPlace → ℕ → Type 0
  OwnListed place q = (parts : List ListPart) × (parts_of (listed n s) s place ≡ Some (parts, q))

  container_listed : (place : EntryPlace) (parts : List ListPart) (q : ℕ) → is_container place.header ≡ true → in_series (listed n s) (count_of place.header) place.header.body ≡ Some (parts, q) → OwnListed place (end_of place q)
  container_listed place parts q h e = (container_part place (end_of place q) ∷ parts, ap (λ b. cond b (in_series (listed n s) (count_of place.header) place.header.body >>= λ r. Some (container_parts place r)) (scalar_parts_at s place)) h ∙ ap (λ o. o >>= λ r. Some (container_parts place r)) e)

  scalar_listed : (place : EntryPlace) (c : Scalar) → content_at s place.header ≡ Some c → OwnListed place (end_of place (content_end place.header))
  scalar_listed place c e = (scalar_part place (end_of place (content_end place.header)) c ∷ [], ap (λ b. cond b (in_series (listed n s) (count_of place.header) place.header.body >>= λ r. Some (container_parts place r)) (scalar_parts_at s place)) (not_container s place.header c e) ∙ ap (λ o. o >>= λ c. Some (scalar_parts place c)) e)

  at_place : (p q : ℕ) (place : EntryPlace) → place_at s p ≡ Some place → OwnListed place q → Listed (suc n) s p q
  unfolding listed
  at_place p q place e h = (h.0, ap (λ o. o >>= parts_of (listed n s) s) e ∙ h.1)

  series_more : (count p q r : ℕ) → Listed n s p q → (parts : List ListPart) × (in_series (listed n s) count q ≡ Some (parts, r)) → (parts : List ListPart) × (in_series (listed n s) (suc count) p ≡ Some (parts, r))
  series_more count p q r h k = (h.0 ++ k.0, ap (λ o. o >>= λ first. joined first.0 (in_series (listed n s) count first.1)) h.1 ∙ ap (λ o. joined h.0 o) k.1)

abbrev SeriesListed : ℕ → List ℕ → ℕ → ℕ → ℕ → Type 0
SeriesListed n s count p q = (parts : List ListPart) × (in_series (listed n s) count p ≡ Some (parts, q))

module _ (s : List ℕ) (n q : ℕ) (place : EntryPlace) where
  array_listed : place.header.kind ≡ 11 → SeriesListed n s place.header.size place.header.body q → OwnListed s n place (end_of place q)
  array_listed k all =
      let holds : is_container place.header ≡ true = rw k refl in
      let count : count_of place.header ≡ place.header.size = rw k refl in
      container_listed s n place all.0 q holds (ap (λ m. in_series (listed n s) m place.header.body) count ∙ all.1)

  table_listed : place.header.kind ≡ 7 → SeriesListed n s (2 * place.header.size) place.header.body q → OwnListed s n place (end_of place q)
  table_listed k all =
      let holds : is_container place.header ≡ true = rw k refl in
      let count : count_of place.header ≡ 2 * place.header.size = rw k refl in
      container_listed s n place all.0 q holds (ap (λ m. in_series (listed n s) m place.header.body) count ∙ all.1)

abbrev here : ℕ → Header → EntryPlace
here p x = record { offset = p; header = x; after = None }

abbrev there : Pointer → Header → EntryPlace
there to x = record { offset = to.target; header = x; after = Some to.next }

mutual
  tree_listed : {s : List ℕ} {p : ℕ} {t : Tree} {q : ℕ} (n : ℕ) → is_unchained t ≡ true → depth t ≤ n → Unfolds s p t q → Listed n s p q
  tree_listed {t = t} zero w d u = absurd (no_depth t d)
  tree_listed {s = s} {p = p} {q = q} (suc n) w d (scalar_here {c = c} {header = x} i e) = at_place s n p q (here p x) (place_own s p x i (not_pointer s x c e)) (scalar_listed s n (here p x) c e)
  tree_listed {s = s} {p = p} {q = q} (suc n) w d (array_here {header = x} i k a) = at_place s n p q (here p x) (place_own s p x i (rw k refl)) (array_listed s n q (here p x) k (trees_listed n w (omega (arith, d)) a))
  tree_listed {s = s} {p = p} {q = q} (suc n) w d (table_here {header = x} i k a) = at_place s n p q (here p x) (place_own s p x i (rw k refl)) (table_listed s n q (here p x) k (pairs_listed n w (omega (arith, d)) a))
  tree_listed {s = s} {p = p} {q = q} (suc n) w d (pointer_here {header = x} {to = to} i k o (scalar_here {c = c} {header = y} j e)) = at_place s n p q (there to y) (place_behind s p x y to i k o j (not_pointer s y c e)) (scalar_listed s n (there to y) c e)
  tree_listed {s = s} {p = p} {q = q} (suc n) w d (pointer_here {q = r} {header = x} {to = to} i k o (array_here {header = y} j l a)) = at_place s n p q (there to y) (place_behind s p x y to i k o j (rw l refl)) (array_listed s n r (there to y) l (trees_listed n w (omega (arith, d)) a))
  tree_listed {s = s} {p = p} {q = q} (suc n) w d (pointer_here {q = r} {header = x} {to = to} i k o (table_here {header = y} j l a)) = at_place s n p q (there to y) (place_behind s p x y to i k o j (rw l refl)) (table_listed s n r (there to y) l (pairs_listed n w (omega (arith, d)) a))
  tree_listed (suc n) w d (pointer_here i k o (pointer_here j l m b)) = absurd (cc)

  trees_listed : {s : List ℕ} {p count : ℕ} {ts : Trees} {q : ℕ} (n : ℕ) → are_unchained ts ≡ true → depth_of_trees ts ≤ n → AllUnfold s p count ts q → SeriesListed n s count p q
  trees_listed n w d none_left = ([], refl)
  trees_listed {s = s} {p = p} n w d (one_more {q = q} {r = r} {n = count} {t = t} {ts = ts} a b) =
      series_more s n count p q r (tree_listed n (first_of_both (is_unchained t) (are_unchained ts) w) (omega (arith, d)) a) (trees_listed n (second_of_both (is_unchained t) (are_unchained ts) w) (omega (arith, d)) b)

  pairs_listed : {s : List ℕ} {p count : ℕ} {ps : Pairs} {q : ℕ} (n : ℕ) → pairs_unchained ps ≡ true → depth_of_pairs ps ≤ n → PairsUnfold s p count ps q → SeriesListed n s (2 * count) p q
  pairs_listed n w d no_pairs_left = ([], refl)
  pairs_listed {s = s} {p = p} n w d (one_more_pair {q = q} {r = r} {e = e} {n = count} {k = k} {v = v} {ps = ps} a b c) =
      let u = second_of_both (is_unchained k) (is_unchained v && pairs_unchained ps) w in
      let twice : 2 * suc count ≡ suc (suc (2 * count)) = omega arith in
      subst (λ m. SeriesListed n s m p e) (sym twice)
      (series_more s n (suc (2 * count)) p q e (tree_listed n (first_of_both (is_unchained k) (is_unchained v && pairs_unchained ps) w) (omega (arith, d)) a)
      (series_more s n (2 * count) q r e (tree_listed n (first_of_both (is_unchained v) (pairs_unchained ps) u) (omega (arith, d)) b)
      (pairs_listed n (second_of_both (is_unchained v) (pairs_unchained ps) u) (omega (arith, d)) c)))

pub each_tree_is_listed : EachTreeIsListed
each_tree_is_listed levels s p q t h = tree_listed levels h.unchained h.within h.unfolds
