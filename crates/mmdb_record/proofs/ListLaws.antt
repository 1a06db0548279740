-- What is read as a list is the array that is there.
use Rattle.std.specs.Option.{IfSome}
use Rattle.std.proofs.Common.{◌≡◌, ℕ, zero, suc, List, ◌∷◌, length, Option, Some, None, refl, ap}
use Rattle.mmdb_format.specs.Header.{◌>>=◌}
use Rattle.mmdb_decode.specs.Reading.{Reading, Meaning, plus}
use Rattle.mmdb_decode.specs.Arrays.{array_at, elements, list_at}
use Rattle.mmdb_record.specs.TypedReads.{ContainerStands, Follow, none_follow, one_follows, ListStands, ReadsLists}
use Rattle.mmdb_decode.proofs.Options.{if_bind, if_is}
use Rattle.mmdb_record.proofs.ContainerLaws.{container_sound, container_complete}

abbrev at : {A : Type 0} → A → ℕ → ℕ → ℕ → Reading A
at v q c b = record { value = v; next = q; values = c; bytes = b }

module _ {A : Type 0} (read : Meaning A) (s : List ℕ) where
  abbrev Followed : ℕ → ℕ → ℕ → Reading (List A) → Type 0
  Followed d p n r = Follow read s d p r.value r.next r.values r.bytes × (n ≡ length r.value)

  one_more : (d p n : ℕ) (x : Reading A) (o : Option (Reading (List A))) → read s p d ≡ Some x → IfSome o (Followed d x.next n) → IfSome ((o >>= λ r. Some (at (x.value ∷ r.value) r.next r.values r.bytes)) >>= λ y. Some (plus x y)) (Followed d p (suc n))
  one_more d p n x None h k = tt
  one_more d p n x (Some r) h k = (one_follows h k.0, ap suc k.1)

  elements_sound : (d n p : ℕ) → IfSome (elements read n s p d) (Followed d p n)
  elements_sound d zero p = (none_follow, refl)
  elements_sound d (suc n) p = if_bind (read s p d) _ (Followed d p (suc n)) (λ x e. one_more d p n x (elements read n s x.next d) e (elements_sound d n x.next))

  elements_complete : {d p : ℕ} {vs : List A} {q c b : ℕ} → Follow read s d p vs q c b → elements read (length vs) s p d ≡ Some (at vs q c b)
  elements_complete none_follow = refl
  elements_complete (one_follows h f) = rw (h, elements_complete f) refl

  list_sound : (p d : ℕ) → IfSome (list_at read s p d) (λ r. ListStands read s p d r.value r.next r.values r.bytes)
  unfolding list_at
  list_sound p d =
      if_bind (array_at s p d) _ (λ r. ListStands read s p d r.value r.next r.values r.bytes) (λ e h.
      if_bind (elements read e.count s e.body e.levels) _ (λ r. ListStands read s p d r.value r.next r.values r.bytes) (λ r k.
      let f = if_is (elements read e.count s e.body e.levels) (Followed e.levels e.body e.count) r (elements_sound e.levels e.count e.body) k in
      record { array = e; last = r.next; more = r.values; stands = if_is (array_at s p d) (ContainerStands 11 s p d) e (container_sound 11 s p d) h; elements = f.0; count = f.1; next = refl; values = refl }))

  list_complete : (p d : ℕ) (vs : List A) (q c b : ℕ) → ListStands read s p d vs q c b → list_at read s p d ≡ Some (at vs q c b)
  unfolding list_at
  list_complete p d vs q c b h =
      let e = container_complete 11 s p d h.array refl h.stands in
      let f : elements read h.array.count s h.array.body h.array.levels ≡ Some (at vs h.last h.more b) = rw h.count (elements_complete h.elements) in
      rw (e, f, h.next, h.values) refl

pub reads_lists : {A : Type 0} (read : Meaning A) → ReadsLists read
reads_lists read s p d vs q c b = (λ h. if_is (list_at read s p d) (λ r. ListStands read s p d r.value r.next r.values r.bytes) (at vs q c b) (list_sound read s p d) h, list_complete read s p d vs q c b)
