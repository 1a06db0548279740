-- The relation of the format, and the function that reads it: what unfolds is read.
use Rattle.std.proofs.Common.{◌≡◌, ℕ, suc, zero, ◌+◌, ◌-◌, ◌*◌, ◌≤◌, List, [], ◌∷◌, length, Option, Some, None, Bool, true, false, ◌&&◌, ◌||◌, not, nat_eq, refl, ap, ◌∙◌, arith}
use Rattle.std.specs.Option.{IfSome}
use Rattle.std.proofs.lemmas.Bool.Decides.{nat_tests}
use Rattle.std.specs.Str.{is_utf8}
use Rattle.mmdb_decode.specs.Arrays.{elements}
use Rattle.mmdb_decode.specs.Levels.{content_of}
use Rattle.mmdb_decode.specs.Reading.{Reading, plus}
use Rattle.mmdb_format.specs.Contents.{Scalar, text, bytes, boolean, number16, number32, number64, number128, double_bits, float_bits, content_at, content_end, scalar_payload, scalar_is_text, variable_width_integer, fixed_width_integer, truth_of}
use Rattle.mmdb_format.specs.Header.{◌>>=◌, header_at, bytes_at}
use Rattle.mmdb_format.specs.Pointer.{pointer_at, direct_at, behind, most_levels}
use Rattle.mmdb_format.specs.Unfolding.{Tree, scalar, array, table, pointer, Trees, tree, Pairs, pair, Unfolds, scalar_here, array_here, table_here, pointer_here, AllUnfold, none_left, one_more, PairsUnfold, no_pairs_left, one_more_pair, levels_without_key_pointers, trees_levels, pairs_levels, value_count, trees_count, pairs_count, payload, trees_payload, pairs_payload, has_texts, trees_texts, pairs_texts, is_text, is_key, is_keyed, trees_keyed, pairs_keyed, without_pointers, trees_without, pairs_without}
use Rattle.mmdb_value.proofs.Readings.{IsReadingOf}
use Rattle.mmdb_value.specs.AnyValue.{key_at, trees_of, pairs_of, scalar_of, pair_at, value_within, value_at}
use Rattle.mmdb_format.specs.declared.header.Header.{Header}
use Rattle.mmdb_format.specs.declared.header.Pointer.{Pointer}
use Rattle.mmdb_decode.proofs.PassingLaws.{no_content_1, no_content_7, no_content_11}
use Rattle.mmdb_decode.proofs.KeyLaws.{raw_key-at}
use Rattle.mmdb_value.proofs.Grammar.{if_cond, if_is, within_sound}

abbrev at : {A : Type 0} → A → ℕ → ℕ → ℕ → Reading A
at v q n b = record { value = v; next = q; values = n; bytes = b }

pub first_of_both : (a b : Bool) → a && b ≡ true → a ≡ true
first_of_both true b h = refl
first_of_both false b h = absurd (cc)

pub second_of_both : (a b : Bool) → a && b ≡ true → b ≡ true
second_of_both true b h = h
second_of_both false b h = absurd (cc)

text_tested : (tested b : Bool) → (tested ≡ true → b ≡ true) → not tested || b ≡ true
text_tested true b h = h refl
text_tested false b h = refl

-- which header a text has
abbrev TextIs : List ℕ → Header → Scalar → Type 0
TextIs s header (text x) = (header.kind ≡ 2) × (bytes_at s header.body header.size ≡ Some x)
TextIs s header c = Unit {0}

text_of_bytes : (s : List ℕ) (header : Header) (o : Option (List ℕ)) → header.kind ≡ 2 → bytes_at s header.body header.size ≡ o → IfSome (o >>= λ x. Some (text x)) (TextIs s header)
text_of_bytes s header None k h = tt
text_of_bytes s header (Some x) k h = (k, h)

no_text_of : {A : Type 0} (s : List ℕ) (header : Header) (o : Option A) (f : A → Scalar) → ((a : A) → TextIs s header (f a)) → IfSome (o >>= λ a. Some (f a)) (TextIs s header)
no_text_of s header None f h = tt
no_text_of s header (Some a) f h = h a

text_kinds : (s : List ℕ) (header : Header) → IfSome (content_at s header) (TextIs s header)
unfolding content_at
text_kinds s header =
    if_cond (nat_eq header.kind 2) _ _ (TextIs s header) (λ k. let two : header.kind ≡ 2 = grind (arith, nat_tests) in text_of_bytes s header (bytes_at s header.body header.size) two refl) (λ a.
    if_cond (nat_eq header.kind 3) _ _ (TextIs s header) (λ k. no_text_of s header (fixed_width_integer s header 8) (λ n. double_bits n) (λ n. tt)) (λ b.
    if_cond (nat_eq header.kind 4) _ _ (TextIs s header) (λ k. no_text_of s header (bytes_at s header.body header.size) (λ n. bytes n) (λ n. tt)) (λ c.
    if_cond (nat_eq header.kind 5) _ _ (TextIs s header) (λ k. no_text_of s header (variable_width_integer s header 2) (λ n. number16 n) (λ n. tt)) (λ d.
    if_cond (nat_eq header.kind 6) _ _ (TextIs s header) (λ k. no_text_of s header (variable_width_integer s header 4) (λ n. number32 n) (λ n. tt)) (λ e.
    if_cond (nat_eq header.kind 8) _ _ (TextIs s header) (λ k. no_text_of s header (variable_width_integer s header 4) _ (λ n. tt)) (λ f.
    if_cond (nat_eq header.kind 9) _ _ (TextIs s header) (λ k. no_text_of s header (variable_width_integer s header 8) (λ n. number64 n) (λ n. tt)) (λ g.
    if_cond (nat_eq header.kind 10) _ _ (TextIs s header) (λ k. no_text_of s header (variable_width_integer s header 16) (λ n. number128 n) (λ n. tt)) (λ h.
    if_cond (nat_eq header.kind 14) _ _ (TextIs s header) (λ k. no_text_of s header (truth_of header) (λ b. boolean b) (λ n. tt)) (λ i.
    if_cond (nat_eq header.kind 15) _ _ (TextIs s header) (λ k. no_text_of s header (fixed_width_integer s header 4) (λ n. float_bits n) (λ n. tt)) (λ j. tt))))))))))

text_head : (s : List ℕ) (header : Header) (x : List ℕ) → content_at s header ≡ Some (text x) → (header.kind ≡ 2) × (bytes_at s header.body header.size ≡ Some x)
text_head s header x h = if_is (content_at s header) (TextIs s header) (text x) (text_kinds s header) h

-- a tree that is read, in n more levels
pub record IsRead (tested : Bool) (s : List ℕ) (p : ℕ) (u : Tree) (q n d : ℕ) : Type 0 where
  pub more : ℕ
  pub count : value_count u ≡ suc more
  pub read : value_within tested n s p d ≡ Some (at (without_pointers u) q more (payload u))

pub record AreRead (tested : Bool) (s : List ℕ) (p n : ℕ) (us : Trees) (q m d : ℕ) : Type 0 where
  pub all : Reading (List Tree)
  pub read : elements (value_within tested m) n s p d ≡ Some all
  pub trees : trees_of all.value ≡ trees_without us
  pub next : all.next ≡ q
  pub count : trees_count us ≡ n + all.values
  pub bytes : all.bytes ≡ trees_payload us

pub record ArePairsRead (tested : Bool) (s : List ℕ) (p n : ℕ) (us : Pairs) (q m d : ℕ) : Type 0 where
  pub all : Reading (List (List ℕ × Tree))
  pub read : elements (pair_at tested (value_within tested m)) n s p d ≡ Some all
  pub pairs : pairs_of all.value ≡ pairs_without us
  pub next : all.next ≡ q
  pub count : pairs_count us ≡ 2 * n + all.values
  pub bytes : all.bytes ≡ pairs_payload us

pub record IsKeyRead (tested : Bool) (s : List ℕ) (p : ℕ) (u : Tree) (q d : ℕ) : Type 0 where
  pub key : List ℕ
  pub read : key_at tested s p d ≡ Some (at key q 0 (length key))
  pub same : without_pointers u ≡ scalar (text key)
  pub count : value_count u ≡ 1
  pub bytes : payload u ≡ length key

-- a scalar
not_kind : (b : Bool) (o : Option Scalar) (c : Scalar) → (b ≡ true → o ≡ None) → o ≡ Some c → b ≡ false
not_kind true o c h e = let n : o ≡ None = h refl in absurd (cc)
not_kind false o c h e = refl

scalar_taken : (tested : Bool) (s : List ℕ) (header : Header) (c : Scalar) (q e : ℕ) → content_at s header ≡ Some c → (tested ≡ true → scalar_is_text c ≡ true) → scalar_of tested header s q e ≡ Some (at (scalar c) (content_end header) 0 (scalar_payload c))
unfolding content_of
scalar_taken tested s header c q e h t = rw (h, text_tested tested (scalar_is_text c) t) refl

scalar_step : (tested : Bool) (s : List ℕ) (p : ℕ) (header : Header) (c : Scalar) (n d : ℕ) → header_at s p ≡ Some header → content_at s header ≡ Some c → (tested ≡ true → scalar_is_text c ≡ true) → value_within tested n s p d ≡ Some (at (scalar c) (content_end header) 0 (scalar_payload c))
unfolding value_within
scalar_step tested s p header c zero d h k t = rw h (scalar_taken tested s header c header.body 0 k t)
scalar_step tested s p header c (suc n) d h k t =
    let a : nat_eq header.kind 1 ≡ false = not_kind (nat_eq header.kind 1) (content_at s header) c (λ e. no_content_1 s header (grind (arith, nat_tests))) k in
    let b : nat_eq header.kind 7 ≡ false = not_kind (nat_eq header.kind 7) (content_at s header) c (λ e. no_content_7 s header (grind (arith, nat_tests))) k in
    let f : nat_eq header.kind 11 ≡ false = not_kind (nat_eq header.kind 11) (content_at s header) c (λ e. no_content_11 s header (grind (arith, nat_tests))) k in
    rw (h, a, f, b) (scalar_taken tested s header c header.body 0 k t)

array_step : (tested : Bool) (s : List ℕ) (p q : ℕ) (us : Trees) (header : Header) (m d : ℕ) → header_at s p ≡ Some header → header.kind ≡ 11 → AreRead tested s header.body header.size us q m 0 → IsRead tested s p (array us) q (suc m) d
unfolding value_within
array_step tested s p q us header m d h k g = record {
  more = header.size + g.all.values;
  count = ap suc g.count;
  read = rw (h, k, g.read, g.trees, g.next, g.bytes) refl;
}

table_step : (tested : Bool) (s : List ℕ) (p q : ℕ) (us : Pairs) (header : Header) (m d : ℕ) → header_at s p ≡ Some header → header.kind ≡ 7 → ArePairsRead tested s header.body header.size us q m 0 → IsRead tested s p (table us) q (suc m) d
unfolding value_within
table_step tested s p q us header m d h k g = record {
  more = 2 * header.size + g.all.values;
  count = ap suc g.count;
  read = rw (h, k, g.read, g.pairs, g.next, g.bytes) refl;
}

pointer_step : (tested : Bool) (s : List ℕ) (p q : ℕ) (u : Tree) (header : Header) (to : Pointer) (m d : ℕ) → header_at s p ≡ Some header → header.kind ≡ 1 → pointer_at s header.body header.size ≡ Some to → IsRead tested s to.target u q m 0 → IsRead tested s p (pointer to.target u) to.next (suc m) d
unfolding value_within
pointer_step tested s p q u header to m d h k a g = record {
  more = g.more;
  count = g.count;
  read = rw (h, k, a, g.read) refl;
}

one_step : (tested : Bool) (s : List ℕ) (p q r n : ℕ) (u : Tree) (us : Trees) (m d : ℕ) → IsRead tested s p u q m d → AreRead tested s q n us r m d → AreRead tested s p (suc n) (tree u us) r m d
one_step tested s p q r n u us m d f g = record {
  all = plus (at (without_pointers u) q f.more (payload u)) (at (without_pointers u ∷ g.all.value) g.all.next g.all.values g.all.bytes);
  read = rw (f.read, g.read) refl;
  trees = ap (tree (without_pointers u)) g.trees;
  next = g.next;
  count = omega (arith, f.count, g.count);
  bytes = omega (arith, g.bytes);
}

pair_step : (tested : Bool) (s : List ℕ) (p q r e n : ℕ) (k v : Tree) (us : Pairs) (m d : ℕ) → IsKeyRead tested s p k q d → IsRead tested s q v r m d → ArePairsRead tested s r n us e m d → ArePairsRead tested s p (suc n) (pair k v us) e m d
pair_step tested s p q r e n k v us m d f g h = record {
  all = plus (plus (at f.key q 0 (length f.key)) (at {A = List ℕ × Tree} (f.key, without_pointers v) r g.more (payload v))) (at {A = List (List ℕ × Tree)} ((f.key, without_pointers v) ∷ h.all.value) h.all.next h.all.values h.all.bytes);
  read = rw (f.read, g.read, h.read) refl;
  pairs = rw (f.same, h.pairs) refl;
  next = h.next;
  count = omega (arith, f.count, g.count, h.count);
  bytes = omega (arith, f.bytes, h.bytes);
}

-- keys
pub record IsTextAt (s : List ℕ) (p : ℕ) (t : Tree) (q : ℕ) : Type 0 where
  pub header : Header
  pub content : List ℕ
  pub here : header_at s p ≡ Some header
  pub kind : header.kind ≡ 2
  pub found : bytes_at s header.body header.size ≡ Some content
  pub tree : t ≡ scalar (text content)
  pub next : q ≡ header.body + header.size

scalar_text : (s : List ℕ) (p : ℕ) (header : Header) (c : Scalar) → header_at s p ≡ Some header → content_at s header ≡ Some c → is_text (scalar c) ≡ true → IsTextAt s p (scalar c) (content_end header)
scalar_text s p header (text x) h k e = let f = text_head s header x k in let two : header.kind ≡ 2 = f.0 in record { header = header; content = x; here = h; kind = f.0; found = f.1; tree = refl; next = rw two refl }
scalar_text s p header c h k e = absurd (cc)

text_at : {s : List ℕ} {p : ℕ} {t : Tree} {q : ℕ} → Unfolds s p t q → is_text t ≡ true → IsTextAt s p t q
text_at (scalar_here h k) e = scalar_text _ _ _ _ h k e
text_at (array_here h k us) e = absurd (cc)
text_at (table_here h k us) e = absurd (cc)
text_at (pointer_here h k a u) e = absurd (cc)

key_direct : (tested : Bool) (s : List ℕ) (p d : ℕ) (header : Header) (x : List ℕ) → header_at s p ≡ Some header → header.kind ≡ 2 → bytes_at s header.body header.size ≡ Some x → not tested || is_utf8 x ≡ true → key_at tested s p d ≡ Some (at x (header.body + header.size) 0 (length x))
unfolding direct_at
key_direct tested s p d header x h k b t = rw (raw_key-at s p d) (rw (h, k, b, t) refl)

key_pointed : (tested : Bool) (s : List ℕ) (p d : ℕ) (first header : Header) (to : Pointer) (x : List ℕ) → header_at s p ≡ Some first → first.kind ≡ 1 → pointer_at s first.body first.size ≡ Some to → header_at s to.target ≡ Some header → header.kind ≡ 2 → bytes_at s header.body header.size ≡ Some x → not tested || is_utf8 x ≡ true → key_at tested s p d ≡ Some (at x to.next 0 (length x))
unfolding direct_at behind
key_pointed tested s p d first header to x f one a h k b t = rw (raw_key-at s p d) (rw (f, one, a, h, k, b, t) refl)

key_here : (tested : Bool) (s : List ℕ) (p d : ℕ) (t : Tree) (q : ℕ) → IsTextAt s p t q → (tested ≡ true → has_texts t ≡ true) → IsKeyRead tested s p t q d
key_here tested s p d t q g e =
    let u : tested ≡ true → is_utf8 g.content ≡ true = rw g.tree at e in
    record {
      key = g.content;
      read = rw g.next (key_direct tested s p d g.header g.content g.here g.kind g.found (text_tested tested (is_utf8 g.content) u));
      same = rw g.tree refl;
      count = rw g.tree refl;
      bytes = rw g.tree refl;
    }

key_behind : (tested : Bool) (s : List ℕ) (p d q : ℕ) (t : Tree) (first : Header) (to : Pointer) → header_at s p ≡ Some first → first.kind ≡ 1 → pointer_at s first.body first.size ≡ Some to → IsTextAt s to.target t q → (tested ≡ true → has_texts t ≡ true) → IsKeyRead tested s p (pointer to.target t) to.next d
key_behind tested s p d q t first to f one a g e =
    let u : tested ≡ true → is_utf8 g.content ≡ true = rw g.tree at e in
    record {
      key = g.content;
      read = key_pointed tested s p d first g.header to g.content f one a g.here g.kind g.found (text_tested tested (is_utf8 g.content) u);
      same = rw g.tree refl;
      count = rw g.tree refl;
      bytes = rw g.tree refl;
    }

key_read : (tested : Bool) (d : ℕ) {s : List ℕ} {p : ℕ} {t : Tree} {q : ℕ} → Unfolds s p t q → is_key t ≡ true → (tested ≡ true → has_texts t ≡ true) → IsKeyRead tested s p t q d
key_read tested d (scalar_here h k) e t = key_here tested _ _ d _ _ (scalar_text _ _ _ _ h k e) t
key_read tested d (array_here h k us) e t = absurd (cc)
key_read tested d (table_here h k us) e t = absurd (cc)
key_read tested d (pointer_here h k a u) e t = key_behind tested _ _ d _ _ _ _ h k a (text_at u e) t

-- whatever unfolds
mutual
  pub is_read : (tested : Bool) {s : List ℕ} {p : ℕ} {u : Tree} {q : ℕ} → Unfolds s p u q → (n d : ℕ) → levels_without_key_pointers u ≤ n → is_keyed u ≡ true → (tested ≡ true → has_texts u ≡ true) → IsRead tested s p u q n d
  is_read tested (scalar_here h k) n d l e t = record { more = 0; count = refl; read = scalar_step tested _ _ _ _ n d h k t }
  is_read tested (array_here h k us) zero d l e t = absurd (omega arith)
  is_read tested (array_here h k us) (suc m) d l e t = array_step tested _ _ _ _ _ m d h k (are_read tested us m 0 (omega arith) e t)
  is_read tested (table_here h k us) zero d l e t = absurd (omega arith)
  is_read tested (table_here h k us) (suc m) d l e t = table_step tested _ _ _ _ _ m d h k (pairs_read tested us m 0 (omega arith) e t)
  is_read tested (pointer_here h k a u) zero d l e t = absurd (omega arith)
  is_read tested (pointer_here h k a u) (suc m) d l e t = pointer_step tested _ _ _ _ _ _ m d h k a (is_read tested u m 0 (omega arith) e t)

  pub are_read : (tested : Bool) {s : List ℕ} {p n : ℕ} {us : Trees} {q : ℕ} → AllUnfold s p n us q → (m d : ℕ) → trees_levels us ≤ m → trees_keyed us ≡ true → (tested ≡ true → trees_texts us ≡ true) → AreRead tested s p n us q m d
  are_read tested {p = p} none_left m d l e t = record { all = at [] p 0 0; read = refl; trees = refl; next = refl; count = refl; bytes = refl }
  are_read tested (one_more u us) m d l e t = one_step tested _ _ _ _ _ _ _ m d
      (is_read tested u m d (omega arith) (first_of_both _ _ e) (λ x. first_of_both _ _ (t x)))
      (are_read tested us m d (omega arith) (second_of_both _ _ e) (λ x. second_of_both _ _ (t x)))

  pub pairs_read : (tested : Bool) {s : List ℕ} {p n : ℕ} {us : Pairs} {q : ℕ} → PairsUnfold s p n us q → (m d : ℕ) → pairs_levels us ≤ m → pairs_keyed us ≡ true → (tested ≡ true → pairs_texts us ≡ true) → ArePairsRead tested s p n us q m d
  pairs_read tested {p = p} no_pairs_left m d l e t = record { all = at [] p 0 0; read = refl; pairs = refl; next = refl; count = refl; bytes = refl }
  pairs_read tested (one_more_pair k v us) m d l e t = pair_step tested _ _ _ _ _ _ _ _ _ m d
      (key_read tested d k (first_of_both _ _ e) (λ x. first_of_both _ _ (t x)))
      (is_read tested v m d (omega arith) (first_of_both _ _ (second_of_both _ _ e)) (λ x. first_of_both _ _ (second_of_both _ _ (t x))))
      (pairs_read tested us m d (omega arith) (second_of_both _ _ (second_of_both _ _ e)) (λ x. second_of_both _ _ (second_of_both _ _ (t x))))

-- the two ways together
pub read_unfolds : (tested : Bool) (s : List ℕ) (p d : ℕ) (r : Reading Tree) → value_at tested s p d ≡ Some r → (u : Tree) × IsReadingOf tested s p (most_levels - d) u r
unfolding value_at
read_unfolds tested s p d r h = if_is (value_within tested (most_levels - d) s p 0) (λ r. (u : Tree) × IsReadingOf tested s p (most_levels - d) u r) r (within_sound tested s (most_levels - d) p 0) h

same_reading : (r : Reading Tree) (u : Tree) (v : Tree) (more b : ℕ) → r.value ≡ v → value_count u ≡ suc r.values → value_count u ≡ suc more → b ≡ r.bytes → Some (at v r.next more b) ≡ Some r
same_reading r u v more b e f g h = let k : more ≡ r.values = omega (arith, f, g) in rw (← e, k, h) refl

pub unfolds_read : (tested : Bool) (s : List ℕ) (p d : ℕ) (u : Tree) (r : Reading Tree) → IsReadingOf tested s p (most_levels - d) u r → value_at tested s p d ≡ Some r
unfolding value_at
unfolds_read tested s p d u r g =
    let w = is_read tested g.unfolds (most_levels - d) 0 g.levels g.keyed g.texts in
    w.read ∙ same_reading r u (without_pointers u) w.more (payload u) g.value g.values w.count g.bytes
