-- Lists and maps as trees that unfold.
use Rattle.std.specs.Option.{IfSome}
use Rattle.std.specs.Str.{is_utf8}
use Rattle.std.proofs.lemmas.Bool.Decides.{nat_tests}
use Rattle.std.proofs.Common.{◌≡◌, ℕ, ◌-◌, Bool, true, false, nat_eq, cond, arith, List, [], length, Option, Some, None, unwrap_or, refl, sym, ap, ◌∙◌, subst, inl, inr}
use Rattle.mmdb_format.specs.Header.{◌>>=◌, HasHeader, bytes_at}
use Rattle.mmdb_format.specs.Contents.{Scalar, text, key_bytes_at}
use Rattle.mmdb_format.specs.Pointer.{direct_at}
use Rattle.mmdb_format.specs.Unfolding.{Tree, scalar, array, table, pointer, Trees, no_trees, tree, Pairs, no_pairs, pair, Unfolds, array_here, table_here, pointer_here, AllUnfold, none_left, one_more, PairsUnfold, no_pairs_left, one_more_pair, without_pointers, trees_without, pairs_without}
use Rattle.mmdb_decode.specs.declared.direct.Entered.{Entered}
use Rattle.mmdb_decode.specs.Reading.{Reading, Meaning}
use Rattle.mmdb_decode.specs.Maps.{key_past, key_at}
use Rattle.mmdb_decode.specs.Scalars.{if_text}
use Rattle.mmdb_decode.specs.ScalarReads.{ScalarStands}
use Rattle.mmdb_record.specs.TypedReads.{ContainerStands, Follow, none_follow, one_follows, ListStands, ReadsTrees, ScalarsUnfold, trees_of, ListsUnfold, PairsFollow, no_pairs_follow, one_pair_follows, put_all, TextMapStands, pairs_of, TextMapsUnfold}
use Rattle.mmdb_decode.proofs.ContentLaws.{text_content}
use Rattle.mmdb_decode.proofs.Options.{if_bind, if_cond, if_is}
use Rattle.mmdb_decode.proofs.DirectLaws.{StandsDirectly, direct_sound, unfolds_at}
use Rattle.mmdb_decode.proofs.ScalarLaws.{end_not_bool}
use Rattle.mmdb_record.proofs.ListLaws.{reads_lists}
use Rattle.mmdb_record.proofs.TextMapLaws.{reads_text_maps}

-- a container directly or through one pointer, by what unfolds at its body
pub container_unfolds : (kind : ℕ) (s : List ℕ) (p d last : ℕ) (at : Entered) (u : Tree) → ((p : ℕ) → HasHeader s p kind at.count at.body → Unfolds s p u last) → ContainerStands kind s p d at → (w : Tree) × Unfolds s p w (unwrap_or at.after last) × (without_pointers w ≡ without_pointers u)
container_unfolds kind s p d last at u here (inl h) = (u, rw h.1 (here p h.0), refl)
container_unfolds kind s p d last at u here (inr h) = (pointer h.0 u, rw h.4 (pointer_here h.2.header refl h.2.bytes (here h.0 h.3)), refl)

-- a scalar directly or through one pointer
pub scalar_tree : (s : List ℕ) (p d : ℕ) (c : Scalar) (q : ℕ) → ScalarStands s p d c q → (u : Tree) × Unfolds s p u q × (without_pointers u ≡ scalar c)
scalar_tree s p d c q (inl h) = (scalar c, h, refl)
scalar_tree s p d c q (inr h) = (pointer h.0 (scalar c), h.1, refl)

pub scalars_unfold : {A : Type 0} (read : Meaning A) → ScalarsUnfold read
scalars_unfold read says reads s p d r h = scalar_tree s p d (says r.value) r.next ((reads s p d r.value r.next r.values r.bytes).0 h).0

-- a key
abbrev KeyUnfolds : List ℕ → ℕ → List ℕ × ℕ → Type 0
KeyUnfolds s p key = (u : Tree) × Unfolds s p u key.1 × (without_pointers u ≡ scalar (text key.0))

key_bytes_unfold : (s : List ℕ) (p : ℕ) → IfSome (key_bytes_at s p) (KeyUnfolds s p)
unfolding key_bytes_at
key_bytes_unfold s p =
    if_bind (direct_at s p 0) _ (KeyUnfolds s p) (λ at h.
    if_cond (nat_eq at.header.kind 2) _ _ (KeyUnfolds s p)
    (λ k. if_bind (bytes_at s at.header.body at.header.size) _ (KeyUnfolds s p) (λ x e.
    let two : at.header.kind ≡ 2 = grind (arith, nat_tests) in
    let stands = unfolds_at s p 0 at (text x) (if_is (direct_at s p 0) (StandsDirectly s p 0) at (direct_sound s p 0) h) (text_content s at.header x two e) in
    scalar_tree s p 0 (text x) _ (rw (end_not_bool at.header 2 refl two) at stands)))
    (λ k. tt))

abbrev reading : {A : Type 0} → A → ℕ → ℕ → ℕ → Reading A
reading v q c b = record { value = v; next = q; values = c; bytes = b }

key_tested : (key : List ℕ × ℕ) (r : Reading (List ℕ)) (t : Bool) → (cond t (Some key.0) None >>= λ y. Some (reading y key.1 0 (length key.0 - 0))) ≡ Some r → Some key ≡ Some (r.value, r.next)
key_tested key r true h = let same : reading key.0 key.1 0 (length key.0 - 0) ≡ r = cc in ap (λ (z : Reading (List ℕ)). Some (z.value, z.next)) same
key_tested key r false h = absurd (cc)

key_taken : (o : Option (List ℕ × ℕ)) (r : Reading (List ℕ)) → ((o >>= λ key. Some (reading key.0 key.1 0 (length key.0 - 0))) >>= λ z. if_text z.value >>= λ y. Some (reading y z.next z.values z.bytes)) ≡ Some r → o ≡ Some (r.value, r.next)
key_taken None r h = absurd (cc)
key_taken (Some key) r h = key_tested key r (is_utf8 key.0) h

key_unfolds : (s : List ℕ) (p d : ℕ) (r : Reading (List ℕ)) → key_at s p d ≡ Some r → KeyUnfolds s p (r.value, r.next)
unfolding key_past
key_unfolds s p d r h = if_is (key_bytes_at s p) (KeyUnfolds s p) (r.value, r.next) (key_bytes_unfold s p) (key_taken (key_bytes_at s p) r h)

module _ {A : Type 0} (read : Meaning A) (says : A → Tree) (reads : ReadsTrees read says) (s : List ℕ) where
  abbrev Unfolded : ℕ → List A → ℕ → Type 0
  Unfolded p vs q = (us : Trees) × AllUnfold s p (length vs) us q × (trees_without us ≡ trees_of says vs)

  all_unfold : {d p : ℕ} {vs : List A} {q c b : ℕ} → Follow read s d p vs q c b → Unfolded p vs q
  all_unfold none_follow = (no_trees, none_left, refl)
  all_unfold {d = d} {p = p} (one_follows {x = x} h f) =
      let one = reads s p d x h in
      let rest = all_unfold f in
      (tree one.0 rest.0, one_more one.1 rest.1, rw (one.2, rest.2) refl)

  list_unfolds : (p d : ℕ) (vs : List A) (q c b : ℕ) → ListStands read s p d vs q c b → (u : Tree) × Unfolds s p u q × (without_pointers u ≡ array (trees_of says vs))
  list_unfolds p d vs q c b h =
      let all = all_unfold h.elements in
      let here : (p : ℕ) → HasHeader s p 11 h.array.count h.array.body → Unfolds s p (array all.0) h.last = λ p e. array_here e refl (subst (λ n. AllUnfold s h.array.body n all.0 h.last) (sym h.count) all.1) in
      let w = container_unfolds 11 s p d h.last h.array (array all.0) here h.stands in
      (w.0, rw h.next w.1, w.2 ∙ ap array all.2)

  abbrev PairsUnfolded : ℕ → List (List ℕ × A) → ℕ → Type 0
  PairsUnfolded p xs q = (us : Pairs) × PairsUnfold s p (length xs) us q × (pairs_without us ≡ pairs_of says xs)

  pairs_unfold : {d p : ℕ} {xs : List (List ℕ × A)} {q c b : ℕ} → PairsFollow read s d p xs q c b → PairsUnfolded p xs q
  pairs_unfold no_pairs_follow = (no_pairs, no_pairs_left, refl)
  pairs_unfold {d = d} {p = p} (one_pair_follows {k = k} {v = v} h e f) =
      let key = key_unfolds s p d k h in
      let value = reads s k.next d v e in
      let rest = pairs_unfold f in
      (pair key.0 value.0 rest.0, one_more_pair key.1 value.1 rest.1, rw (key.2, value.2, rest.2) refl)

  map_unfolds : (p d : ℕ) (m : List (List ℕ × A)) (q c b : ℕ) → TextMapStands read s p d m q c b → (u : Tree) × (pairs : List (List ℕ × A)) × Unfolds s p u q × (without_pointers u ≡ table (pairs_of says pairs)) × (m ≡ put_all [] pairs)
  map_unfolds p d m q c b h =
      let all = pairs_unfold h.follow in
      let here : (p : ℕ) → HasHeader s p 7 h.table.count h.table.body → Unfolds s p (table all.0) h.last = λ p e. table_here e refl (subst (λ n. PairsUnfold s h.table.body n all.0 h.last) (sym h.count) all.1) in
      let w = container_unfolds 7 s p d h.last h.table (table all.0) here h.stands in
      (w.0, h.pairs, rw h.next w.1, w.2 ∙ ap table all.2, h.put)

pub lists_unfold : {A : Type 0} (read : Meaning A) → ListsUnfold read
lists_unfold read says reads s p d r h = list_unfolds read says reads s p d r.value r.next r.values r.bytes ((reads_lists read s p d r.value r.next r.values r.bytes).0 h)

pub text_maps_unfold : {A : Type 0} (read : Meaning A) → TextMapsUnfold read
text_maps_unfold read says reads s p d r h = map_unfolds read says reads s p d r.value r.next r.values r.bytes ((reads_text_maps read s p d r.value r.next r.values r.bytes).0 h)
