-- The relation of the format, and the function that reads it: what is read unfolds.
use Rattle.std.proofs.Common.{◌≡◌, ℕ, suc, zero, ◌+◌, ◌*◌, ◌≤◌, List, ◌∷◌, length, Option, Some, None, Bool, true, false, ◌&&◌, ◌||◌, not, nat_eq, refl, sym, arith, subst, cond}
use Rattle.std.specs.Option.{IfSome}
use Rattle.std.proofs.lemmas.Bool.Decides.{nat_tests}
use Rattle.std.specs.Str.{is_utf8}
use Rattle.mmdb_decode.specs.Arrays.{elements}
use Rattle.mmdb_decode.specs.Levels.{content_of}
use Rattle.mmdb_decode.specs.Reading.{Reading, Meaning, plus}
use Rattle.mmdb_format.specs.Contents.{end_of, Scalar, text, content_at, content_end, scalar_payload, scalar_is_text}
use Rattle.mmdb_format.specs.Header.{◌>>=◌, header_at, bytes_at}
use Rattle.mmdb_format.specs.Pointer.{pointer_at, direct_at, behind}
use Rattle.mmdb_format.specs.Unfolding.{Tree, scalar, array, table, pointer, Trees, no_trees, tree, Pairs, no_pairs, pair, Unfolds, scalar_here, array_here, table_here, pointer_here, AllUnfold, none_left, one_more, PairsUnfold, no_pairs_left, one_more_pair, key_levels, trees_levels, pairs_levels, value_count, trees_count, pairs_count, payload, trees_payload, pairs_payload, has_texts, trees_texts, pairs_texts, is_key, is_keyed, trees_keyed, pairs_keyed, without_pointers, trees_without, pairs_without}
use Rattle.mmdb_value.proofs.Readings.{IsReadingOf}
use Rattle.mmdb_decode.proofs.KeyLaws.{raw_key-at}
use Rattle.mmdb_value.specs.AnyValue.{if_scalar_text, if_utf8, key_at, trees_of, pairs_of, array_of, table_of, scalar_of, pair_at, container, behind_pointer, nested, value_within}
use Rattle.mmdb_format.specs.declared.header.Header.{Header}
use Rattle.mmdb_format.specs.declared.header.Direct.{Direct}

abbrev at : {A : Type 0} → A → ℕ → ℕ → ℕ → Reading A
at v q values bytes = record { value = v; next = q; values = values; bytes = bytes }

-- what the parts of a container are
pub record AreReadingsOf (tested : Bool) (s : List ℕ) (p n most : ℕ) (us : Trees) (r : Reading (List Tree)) : Type 0 where
  pub unfolds : AllUnfold s p n us r.next
  pub keyed : trees_keyed us ≡ true
  pub texts : tested ≡ true → trees_texts us ≡ true
  pub levels : trees_levels us ≤ most
  pub value : trees_of r.value ≡ trees_without us
  pub values : trees_count us ≡ n + r.values
  pub bytes : trees_payload us ≡ r.bytes

pub record ArePairsOf (tested : Bool) (s : List ℕ) (p n most : ℕ) (us : Pairs) (r : Reading (List (List ℕ × Tree))) : Type 0 where
  pub unfolds : PairsUnfold s p n us r.next
  pub keyed : pairs_keyed us ≡ true
  pub texts : tested ≡ true → pairs_texts us ≡ true
  pub levels : pairs_levels us ≤ most
  pub value : pairs_of r.value ≡ pairs_without us
  pub values : pairs_count us ≡ 2 * n + r.values
  pub bytes : pairs_payload us ≡ r.bytes

pub record IsKeyOf (tested : Bool) (s : List ℕ) (p : ℕ) (u : Tree) (r : Reading (List ℕ)) : Type 0 where
  pub unfolds : Unfolds s p u r.next
  pub key : is_key u ≡ true
  pub texts : tested ≡ true → has_texts u ≡ true
  pub levels : key_levels u ≡ 0
  pub value : scalar (text r.value) ≡ without_pointers u
  pub count : value_count u ≡ 1
  pub values : r.values ≡ 0
  pub bytes : payload u ≡ r.bytes

-- what is known of whatever an option holds
pub if_bind : {A B : Type 0} (o : Option A) (f : A → Option B) (P : B → Type 0) → ((x : A) → o ≡ Some x → IfSome (f x) P) → IfSome (o >>= f) P
if_bind None f P h = tt
if_bind (Some x) f P h = h x refl

pub if_cond : {A : Type 0} (b : Bool) (x y : Option A) (P : A → Type 0) → (b ≡ true → IfSome x P) → (b ≡ false → IfSome y P) → IfSome (cond b x y) P
if_cond true x y P h k = h refl
if_cond false x y P h k = k refl

pub if_is : {A : Type 0} (o : Option A) (P : A → Type 0) (x : A) → IfSome o P → o ≡ Some x → P x
if_is None P x h e = absurd (cc)
if_is (Some y) P x h e = let f : y ≡ x = cc in subst P f h

pub both : (a b : Bool) → a ≡ true → b ≡ true → a && b ≡ true
both true b h k = k
both false b h k = absurd (cc)

tested_text : (tested b : Bool) → not tested || b ≡ true → tested ≡ true → b ≡ true
tested_text true b h e = h
tested_text false b h e = absurd (cc)

module _ (tested : Bool) (s : List ℕ) where
  abbrev Read : ℕ → ℕ → Reading Tree → Type 0
  Read p most r = (u : Tree) × IsReadingOf tested s p most u r

  scalar_tested : (p most : ℕ) (header : Header) (c : Scalar) (b : Bool) → header_at s p ≡ Some header → content_at s header ≡ Some c → not tested || scalar_is_text c ≡ b → IfSome (cond b (Some c) None >>= λ y. Some (at (scalar y) (content_end header) 0 (scalar_payload c))) (Read p most)
  scalar_tested p most header c false h k e = tt
  scalar_tested p most header c true h k e = (scalar c, record { unfolds = scalar_here h k; keyed = refl; texts = tested_text tested (scalar_is_text c) e; levels = omega arith; value = refl; values = refl; bytes = refl })

  scalar_content : (p most : ℕ) (header : Header) (o : Option Scalar) → header_at s p ≡ Some header → content_at s header ≡ o → IfSome (((o >>= λ c. Some (at c (content_end header) 0 (scalar_payload c))) >>= λ r. if_scalar_text tested r.value >>= λ y. Some (at y r.next r.values r.bytes)) >>= λ r. Some (at (scalar r.value) r.next r.values r.bytes)) (Read p most)
  scalar_content p most header None h k = tt
  scalar_content p most header (Some c) h k = scalar_joined p most header c (not tested || scalar_is_text c) h k refl
    where
      scalar_joined : (p most : ℕ) (header : Header) (c : Scalar) (b : Bool) → header_at s p ≡ Some header → content_at s header ≡ Some c → not tested || scalar_is_text c ≡ b → IfSome ((cond b (Some c) None >>= λ y. Some (at y (content_end header) 0 (scalar_payload c))) >>= λ r. Some (at (scalar r.value) r.next r.values r.bytes)) (Read p most)
      scalar_joined p most header c false h k e = tt
      scalar_joined p most header c true h k e = scalar_tested p most header c true h k e

  pub scalar_sound : (p most q e : ℕ) (header : Header) → header_at s p ≡ Some header → IfSome (scalar_of tested header s q e) (Read p most)
  unfolding content_of
  scalar_sound p most q e header h = scalar_content p most header (content_at s header) h refl

  -- keys
  text_content : (header : Header) (x : List ℕ) → header.kind ≡ 2 → bytes_at s header.body header.size ≡ Some x → content_at s header ≡ Some (text x)
  unfolding content_at
  text_content header x k h = rw (k, h) refl

  abbrev key_tree : Option ℕ → Scalar → Tree
  key_tree None c = scalar c
  key_tree (Some a) c = pointer a (scalar c)

  abbrev Placed : ℕ → Direct → Type 0
  Placed p x = (to : Option ℕ) × ((c : Scalar) → content_at s x.header ≡ Some c → Unfolds s p (key_tree to c) (end_of x (content_end x.header)))

  pub placed : (p : ℕ) → IfSome (direct_at s p 0) (Placed p)
  unfolding direct_at behind
  placed p =
      if_bind (header_at s p) _ (Placed p) (λ header h.
      if_cond (nat_eq header.kind 1) _ _ (Placed p)
      (λ k. if_bind (pointer_at s header.body header.size) _ (Placed p) (λ to a.
      if_bind (header_at s to.target) _ (Placed p) (λ target b.
      if_cond (nat_eq target.kind 1) _ _ (Placed p)
      (λ n. tt)
      (λ n. (Some to.target, λ c e. let one : header.kind ≡ 1 = grind (arith, nat_tests) in pointer_here h one a (scalar_here b e))))))
      (λ k. (None, λ c e. scalar_here h e)))

  abbrev Key : ℕ → Reading (List ℕ) → Type 0
  Key p r = (u : Tree) × IsKeyOf tested s p u r

  text_end : (header : Header) → header.kind ≡ 2 → content_end header ≡ header.body + header.size
  text_end header k = rw k refl

  key_of : (p : ℕ) (to : Option ℕ) (x : List ℕ) (q : ℕ) → Unfolds s p (key_tree to (text x)) q → (tested ≡ true → is_utf8 x ≡ true) → Key p (at x q 0 (length x))
  key_of p None x q h t = (scalar (text x), record { unfolds = h; key = refl; texts = t; levels = refl; value = refl; count = refl; values = refl; bytes = refl })
  key_of p (Some a) x q h t = (pointer a (scalar (text x)), record { unfolds = h; key = refl; texts = t; levels = refl; value = refl; count = refl; values = refl; bytes = refl })

  key_tested : (p : ℕ) (x : Direct) (y : List ℕ) (b : Bool) → Placed p x → x.header.kind ≡ 2 → bytes_at s x.header.body x.header.size ≡ Some y → not tested || is_utf8 y ≡ b → IfSome (cond b (Some y) None >>= λ z. Some (at z (end_of x (x.header.body + x.header.size)) 0 (length y))) (Key p)
  key_tested p x y false h k e t = tt
  key_tested p x y true h k e t = key_of p h.0 y (end_of x (x.header.body + x.header.size)) (subst (λ q. Unfolds s p (key_tree h.0 (text y)) (end_of x q)) (text_end x.header k) (h.1 (text y) (text_content x.header y k e))) (tested_text tested (is_utf8 y) t)

  key_content : (p : ℕ) (x : Direct) (o : Option (List ℕ)) → Placed p x → x.header.kind ≡ 2 → bytes_at s x.header.body x.header.size ≡ o → IfSome ((o >>= λ y. Some (at y (end_of x (x.header.body + x.header.size)) 0 (length y))) >>= λ r. if_utf8 tested r.value >>= λ z. Some (at z r.next r.values r.bytes)) (Key p)
  key_content p x None h k e = tt
  key_content p x (Some y) h k e = key_tested p x y (not tested || is_utf8 y) h k e refl

  key_kind : (p : ℕ) (x : Direct) (b : Bool) → Placed p x → nat_eq x.header.kind 2 ≡ b → IfSome ((cond b (bytes_at s x.header.body x.header.size >>= λ y. Some (at y (end_of x (x.header.body + x.header.size)) 0 (length y))) None) >>= λ r. if_utf8 tested r.value >>= λ z. Some (at z r.next r.values r.bytes)) (Key p)
  key_kind p x false h k = tt
  key_kind p x true h k = let two : x.header.kind ≡ 2 = grind (arith, nat_tests) in key_content p x (bytes_at s x.header.body x.header.size) h two refl

  key_known : (p : ℕ) (o : Option Direct) → IfSome o (Placed p) → IfSome ((o >>= λ x. cond (nat_eq x.header.kind 2) (bytes_at s x.header.body x.header.size >>= λ y. Some (at y (end_of x (x.header.body + x.header.size)) 0 (length y))) None) >>= λ r. if_utf8 tested r.value >>= λ z. Some (at z r.next r.values r.bytes)) (Key p)
  key_known p None h = tt
  key_known p (Some x) h = key_kind p x (nat_eq x.header.kind 2) h refl

  pub key_sound : (p d : ℕ) → IfSome (key_at tested s p d) (Key p)
  key_sound p d = rw (raw_key-at s p d) (key_known p (direct_at s p 0) (placed p))

  -- a pointer
  pointer_sound : (read : Meaning Tree) (n p : ℕ) (header : Header) → ((p : ℕ) → IfSome (read s p 0) (Read p n)) → header_at s p ≡ Some header → header.kind ≡ 1 → IfSome (pointer_at s header.body header.size >>= behind_pointer read s) (Read p (suc n))
  pointer_sound read n p header each h k =
      if_bind (pointer_at s header.body header.size) (behind_pointer read s) (Read p (suc n)) (λ to a.
      if_bind (read s to.target 0) _ (Read p (suc n)) (λ r e.
      let w = if_is (read s to.target 0) (Read to.target n) r (each to.target) e in
      let g = w.1 in
      (pointer to.target w.0, record { unfolds = pointer_here h k a g.unfolds; keyed = g.keyed; texts = g.texts; levels = omega (arith, g.levels); value = g.value; values = g.values; bytes = g.bytes })))

  -- an array
  abbrev All : ℕ → ℕ → ℕ → Reading (List Tree) → Type 0
  All p n most r = (us : Trees) × AreReadingsOf tested s p n most us r

  all_more : (p n most : ℕ) (x : Reading Tree) (o : Option (Reading (List Tree))) → Read p most x → IfSome o (All x.next n most) → IfSome ((o >>= λ r. Some (at (x.value ∷ r.value) r.next r.values r.bytes)) >>= λ y. Some (plus x y)) (All p (suc n) most)
  all_more p n most x None h k = tt
  all_more p n most x (Some r) h k =
      let f = h.1 in
      let g = k.1 in
      (tree h.0 k.0, record { unfolds = one_more f.unfolds g.unfolds; keyed = both (is_keyed h.0) (trees_keyed k.0) f.keyed g.keyed; texts = λ t. both (has_texts h.0) (trees_texts k.0) (f.texts t) (g.texts t); levels = omega (arith, f.levels, g.levels); value = rw (f.value, g.value) refl; values = omega (arith, f.values, g.values); bytes = omega (arith, f.bytes, g.bytes) })

  all_sound : (read : Meaning Tree) (most : ℕ) → ((p d : ℕ) → IfSome (read s p d) (Read p most)) → (n p d : ℕ) → IfSome (elements read n s p d) (All p n most)
  all_sound read most each zero p d = (no_trees, record { unfolds = none_left; keyed = refl; texts = λ t. refl; levels = omega arith; value = refl; values = refl; bytes = refl })
  all_sound read most each (suc n) p d = if_bind (read s p d) _ (All p (suc n) most) (λ x e. all_more p n most x (elements read n s x.next d) (if_is (read s p d) (Read p most) x (each p d) e) (all_sound read most each n x.next d))

  -- a map
  pub record IsPairOf (p most : ℕ) (r : Reading (List ℕ × Tree)) : Type 0 where
    pub key : Tree
    pub read_key : Reading (List ℕ)
    pub is_key : IsKeyOf tested s p key read_key
    pub value : Tree
    pub read_value : Reading Tree
    pub is_value : IsReadingOf tested s read_key.next most value read_value
    pub same : r ≡ at (read_key.value, read_value.value) read_value.next (read_key.values + read_value.values) (read_key.bytes + read_value.bytes)

  pair_value : (p most : ℕ) (x : Reading (List ℕ)) (o : Option (Reading Tree)) → Key p x → IfSome o (Read x.next most) → IfSome ((o >>= λ r. Some (at {A = List ℕ × Tree} (x.value, r.value) r.next r.values r.bytes)) >>= λ y. Some (plus x y)) (IsPairOf p most)
  pair_value p most x None h k = tt
  pair_value p most x (Some r) h k = record { key = h.0; read_key = x; is_key = h.1; value = k.0; read_value = r; is_value = k.1; same = refl }

  pair_sound : (read : Meaning Tree) (most : ℕ) → ((p d : ℕ) → IfSome (read s p d) (Read p most)) → (p d : ℕ) → IfSome (pair_at tested read s p d) (IsPairOf p most)
  pair_sound read most each p d = if_bind (key_at tested s p d) _ (IsPairOf p most) (λ x e. pair_value p most x (read s x.next d) (if_is (key_at tested s p d) (Key p) x (key_sound p d) e) (each x.next d))

  abbrev Pairs_at : ℕ → ℕ → ℕ → Reading (List (List ℕ × Tree)) → Type 0
  Pairs_at p n most r = (us : Pairs) × ArePairsOf tested s p n most us r

  pairs_joined : (p n most : ℕ) (kr : Reading (List ℕ)) (k : Tree) (vr : Reading Tree) (v : Tree) (r : Reading (List (List ℕ × Tree))) → IsKeyOf tested s p k kr → IsReadingOf tested s kr.next most v vr → Pairs_at vr.next n most r → Pairs_at p (suc n) most (plus (at {A = List ℕ × Tree} (kr.value, vr.value) vr.next (kr.values + vr.values) (kr.bytes + vr.bytes)) (at ((kr.value, vr.value) ∷ r.value) r.next r.values r.bytes))
  pairs_joined p n most kr k vr v r f g h =
      let i = h.1 in (
        pair k v h.0,
        record {
          unfolds = one_more_pair f.unfolds g.unfolds i.unfolds;
          keyed = both (is_key k) (is_keyed v && pairs_keyed h.0) f.key (both (is_keyed v) (pairs_keyed h.0) g.keyed i.keyed);
          texts = λ t. both (has_texts k) (has_texts v && pairs_texts h.0) (f.texts t) (both (has_texts v) (pairs_texts h.0) (g.texts t) (i.texts t));
          levels = omega (arith, f.levels, g.levels, i.levels);
          value = rw (f.value, g.value, i.value) refl;
          values = omega (arith, f.count, f.values, g.values, i.values);
          bytes = omega (arith, f.bytes, g.bytes, i.bytes);
        },
      )

  pairs_more : (p n most : ℕ) (x : Reading (List ℕ × Tree)) (o : Option (Reading (List (List ℕ × Tree)))) → IsPairOf p most x → IfSome o (Pairs_at x.next n most) → IfSome ((o >>= λ r. Some (at (x.value ∷ r.value) r.next r.values r.bytes)) >>= λ y. Some (plus x y)) (Pairs_at p (suc n) most)
  pairs_more p n most x None h k = tt
  pairs_more p n most x (Some r) h k =
      subst (λ (z : Reading (List ℕ × Tree)). Pairs_at z.next n most r → Pairs_at p (suc n) most (plus z (at (z.value ∷ r.value) r.next r.values r.bytes))) (sym h.same) (pairs_joined p n most h.read_key h.key h.read_value h.value r h.is_key h.is_value) k

  pairs_sound : (read : Meaning Tree) (most : ℕ) → ((p d : ℕ) → IfSome (read s p d) (Read p most)) → (n p d : ℕ) → IfSome (elements (pair_at tested read) n s p d) (Pairs_at p n most)
  pairs_sound read most each zero p d = (no_pairs, record { unfolds = no_pairs_left; keyed = refl; texts = λ t. refl; levels = omega arith; value = refl; values = refl; bytes = refl })
  pairs_sound read most each (suc n) p d = if_bind (pair_at tested read s p d) _ (Pairs_at p (suc n) most) (λ x e. pairs_more p n most x (elements (pair_at tested read) n s x.next d) (if_is (pair_at tested read s p d) (IsPairOf p most) x (pair_sound read most each p d) e) (pairs_sound read most each n x.next d))

  array_done : (p most : ℕ) (header : Header) (o : Option (Reading (List Tree))) → header_at s p ≡ Some header → header.kind ≡ 11 → IfSome o (All header.body header.size most) → IfSome (o >>= λ r. Some (container array_of header.size r)) (Read p (suc most))
  array_done p most header None h k a = tt
  array_done p most header (Some r) h k a =
      let g = a.1 in
      (array a.0, record { unfolds = array_here h k g.unfolds; keyed = g.keyed; texts = g.texts; levels = omega (arith, g.levels); value = rw g.value refl; values = omega (arith, g.values); bytes = g.bytes })

  table_done : (p most : ℕ) (header : Header) (o : Option (Reading (List (List ℕ × Tree)))) → header_at s p ≡ Some header → header.kind ≡ 7 → IfSome o (Pairs_at header.body header.size most) → IfSome (o >>= λ r. Some (container table_of (2 * header.size) r)) (Read p (suc most))
  table_done p most header None h k a = tt
  table_done p most header (Some r) h k a =
      let g = a.1 in
      (table a.0, record { unfolds = table_here h k g.unfolds; keyed = g.keyed; texts = g.texts; levels = omega (arith, g.levels); value = rw g.value refl; values = omega (arith, g.values); bytes = g.bytes })

  nested_sound : (read : Meaning Tree) (n p : ℕ) (header : Header) → ((p d : ℕ) → IfSome (read s p d) (Read p n)) → header_at s p ≡ Some header → IfSome (nested tested read s header) (Read p (suc n))
  nested_sound read n p header each h =
      if_cond (nat_eq header.kind 1) _ _ (Read p (suc n))
      (λ k. let one : header.kind ≡ 1 = grind (arith, nat_tests) in pointer_sound read n p header (λ p. each p 0) h one)
      (λ i. if_cond (nat_eq header.kind 11) _ _ (Read p (suc n))
      (λ k. let eleven : header.kind ≡ 11 = grind (arith, nat_tests) in array_done p n header (elements read header.size s header.body 0) h eleven (all_sound read n each header.size header.body 0))
      (λ j. if_cond (nat_eq header.kind 7) _ _ (Read p (suc n))
      (λ k. let seven : header.kind ≡ 7 = grind (arith, nat_tests) in table_done p n header (elements (pair_at tested read) header.size s header.body 0) h seven (pairs_sound read n each header.size header.body 0))
      (λ k. scalar_sound p (suc n) header.body 0 header h)))

  pub within_sound : (n p d : ℕ) → IfSome (value_within tested n s p d) (Read p n)
  unfolding value_within
  within_sound zero p d = if_bind (header_at s p) _ (Read p zero) (λ header h. scalar_sound p zero header.body 0 header h)
  within_sound (suc n) p d = if_bind (header_at s p) _ (Read p (suc n)) (λ header h. nested_sound (value_within tested n) n p header (within_sound n) h)
