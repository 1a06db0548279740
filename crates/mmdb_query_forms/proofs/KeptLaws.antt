-- What is kept of what columns show of records.
use Rattle.std.proofs.Common.{◌≡◌, ◌≢◌, ◌<◌, ◌≤◌, ◌+◌, ◌⊎◌, inl, inr, ℕ, List, [], ◌∷◌, length, drop, set, get_or, Option, Some, None, true, false, refl, sym, ap, ◌∙◌, subst, arith}
use Rattle.std.specs.Option.{is_some}
use Rattle.std.proofs.lemmas.Bool.{cases_lt, true≢false}
use Rattle.std.proofs.lemmas.List.{drop_more, drop_all, get_or_default, get_or_past, length-set, get_or-set_same, get_or-set_other}
use Rattle.std.proofs.Math.Nat.{eq-or-lt_of_le}
use Rattle.mmdb_format.specs.Error.{MemoryApart}
use Rattle.mmdb_format.specs.declared.error.MaxMindDbError.{MaxMindDbError}
use Rattle.mmdb_format.specs.declared.error.MaxMindDbError.TheVariants.{Memory, InvalidDatabase, Io, Decoding, ResourceLimit, InvalidNetwork, InvalidInput}
use Rattle.mmdb_format.specs.Unfolding.{Tree}
use Rattle.mmdb_reader.specs.declared.path.PathElement.{PathElement}
use Rattle.mmdb_query.specs.Had.{offset_at}
use Rattle.mmdb_query.specs.Reading.{reads_in, value_found, value_of, values_of, first_of, or_next}
use Rattle.mmdb_query_forms.specs.Kept.{Kept, AreKept, AreAllKept, has_value}
use Rattle.mmdb_query_forms.specs.Puts.{PutsValue, PutsRead, PutsFound}
use Rattle.mmdb_query_forms.specs.declared.columns.RowForm.{RowForm}

pub same_or_not : (a b : ℕ) → (a ≡ b) ⊎ (a ≢ b)
same_or_not a b = elim (cases_lt a b) [
  | inl less ↦ inr (λ same. absurd (omega (arith, same, less)))
  | inr le ↦ elim (eq-or-lt_of_le le) [
    | inl same ↦ inl (sym same)
    | inr less ↦ inr (λ same. absurd (omega (arith, same, less)))
  ]
]

-- ---- the records of one data section

module _ (form : RowForm) (path : List PathElement) (s : List ℕ) where
  pub none_kept : (kept : Kept) → kept ≡ [] → AreKept form path s kept
  none_kept kept none = subst (AreKept form path s) (sym none) (λ k d within. absurd (omega (arith, within)))

found_some : (form : RowForm) (read : Option (Option Tree)) (value : Option Tree) (old new : List ℕ) → read ≡ Some value → is_some value ≡ true → PutsValue form value old new → PutsFound form read true old new
found_some form read None old new is some puts = absurd (true≢false (sym some))
found_some form read (Some v) old new is some puts = (v, is, puts)

-- out of memory is any error
pub apart_map : (P Q : Type 0) (e : MaxMindDbError) → (P → Q) → MemoryApart e P → MemoryApart e Q
apart_map P Q Memory f p = tt
apart_map P Q (InvalidDatabase message offset) f p = f p
apart_map P Q (Io e) f p = f p
apart_map P Q (Decoding message offset path) f p = f p
apart_map P Q (ResourceLimit message offset path) f p = f p
apart_map P Q (InvalidNetwork e) f p = f p
apart_map P Q (InvalidInput message) f p = f p

-- a value that was read and put, where there is one
pub put_found : (form : RowForm) (read : Option (Option Tree)) (old new : List ℕ) → has_value read ≡ true → PutsRead form read old new → PutsFound form read true old new
put_found form read old new some (value, is, puts) = found_some form read value old new is (sym (ap has_value is) ∙ some) puts

-- ---- the records of each data section

module _ (form : RowForm) (path : List PathElement) (sections : List (List ℕ)) where
  at_place : (caches : List Kept) (i place : ℕ) (new : Kept) → i < length caches
      → ((p : ℕ) → AreKept form path (get_or sections p []) (get_or caches p [])) → AreKept form path (get_or sections i []) new
      → (place ≡ i) ⊎ (place ≢ i) → AreKept form path (get_or sections place []) (get_or (set caches i new) place [])
  at_place caches i place new within are one (inl same) =
      subst (λ p. AreKept form path (get_or sections p []) (get_or (set caches i new) p [])) (sym same)
      (subst (AreKept form path (get_or sections i [])) (sym (get_or-set_same caches i new [] within)) one)
  at_place caches i place new within are one (inr other) =
      subst (AreKept form path (get_or sections place [])) (sym (get_or-set_other caches i place new [] other)) (are place)

  -- those of one data section are others
  pub cache_put : (caches : List Kept) (i : ℕ) (new : Kept) → AreAllKept form path sections caches → i < length caches → AreKept form path (get_or sections i []) new
      → AreAllKept form path sections (set caches i new)
  cache_put caches i new fits within one = record {
    kept = λ place. at_place caches i place new within fits.kept one (same_or_not place i);
    many = λ some. length-set caches i new ∙ fits.many (subst (λ n. 0 < n) (length-set caches i new) some);
  }

  -- those of one data section are let go
  pub cache_cleared : (caches : List Kept) (i : ℕ) (new : Kept) → AreAllKept form path sections caches → i < length caches → new ≡ [] → AreAllKept form path sections (set caches i new)
  cache_cleared caches i new fits within none = cache_put caches i new fits within (none_kept form path (get_or sections i []) new none)

  -- those of the data section at a place
  pub kept_of_place : (caches : List Kept) (place : ℕ) (kept : Kept) → AreAllKept form path sections caches → place < length caches → kept ≡ get_or caches place kept
      → AreKept form path (get_or sections place []) kept
  kept_of_place caches place kept fits within is =
      subst (AreKept form path (get_or sections place [])) (sym (is ∙ get_or_default caches place kept [] within)) (fits.kept place)

-- ---- the first value

module _ (path : List PathElement) where
  no_offsets : (sections : List (List ℕ)) → first_of value_found sections [] path ≡ Some None
  no_offsets [] = refl
  no_offsets (s ∷ sections) = refl

  along : (s : List ℕ) (sections : List (List ℕ)) (offsets : List (Option ℕ)) (i : ℕ) → (i < length offsets) ⊎ (length offsets ≤ i)
      → first_of value_found (s ∷ sections) (drop i offsets) path ≡ or_next (reads_in value_found s (offset_at offsets i) path) (first_of value_found sections (drop (i + 1) offsets) path)
  along s sections offsets i (inl within) = ap (λ (o : List (Option ℕ)). first_of value_found (s ∷ sections) o path) (drop_more offsets i None within)
  along s sections offsets i (inr past) =
      let here : drop i offsets ≡ [] = drop_all i offsets past in
      let next : drop (i + 1) offsets ≡ [] = drop_all (i + 1) offsets (omega (arith, past)) in
      let none : offset_at offsets i ≡ None = get_or_past offsets i None past in
      ap (λ (o : List (Option ℕ)). first_of value_found (s ∷ sections) o path) here
      ∙ sym (ap (λ (o : Option ℕ). or_next (reads_in value_found s o path) (first_of value_found sections (drop (i + 1) offsets) path)) none ∙ ap (λ (o : List (Option ℕ)). first_of value_found sections o path) next ∙ no_offsets sections)

  -- the first value from a place on is that at the place, or the first one behind it
  from_place : (sections : List (List ℕ)) (offsets : List (Option ℕ)) (i : ℕ) → i < length sections
      → first_of value_found (drop i sections) (drop i offsets) path ≡ or_next (value_of sections offsets i path) (first_of value_found (drop (i + 1) sections) (drop (i + 1) offsets) path)
  from_place sections offsets i within =
      ap (λ (l : List (List ℕ)). first_of value_found l (drop i offsets) path) (drop_more sections i [] within)
      ∙ along (get_or sections i []) (drop (i + 1) sections) offsets i (cases_lt i (length offsets))

  -- What is read of the databases left is what is read of all.
  abbrev pub ValuesWay : List (List ℕ) → List (Option ℕ) → ℕ → Type 0
  ValuesWay sections offsets i = values_of sections offsets path ≡ first_of value_found (drop i sections) (drop i offsets) path

  module _ (form : RowForm) (sections : List (List ℕ)) (offsets : List (Option ℕ)) (i : ℕ) where
    step : (read : Option (Option Tree)) → i < length sections → ValuesWay sections offsets i → value_of sections offsets i path ≡ read
        → values_of sections offsets path ≡ or_next read (first_of value_found (drop (i + 1) sections) (drop (i + 1) offsets) path)
    step read within way is =
        way ∙ from_place sections offsets i within ∙ ap (λ (r : Option (Option Tree)). or_next r (first_of value_found (drop (i + 1) sections) (drop (i + 1) offsets) path)) is

    pub none_there : (old new : List ℕ) → i < length sections → ValuesWay sections offsets i → PutsFound form (value_of sections offsets i path) false old new → ValuesWay sections offsets (i + 1)
    none_there old new within way (none, same) = step (Some None) within way none

    pub some_there : (old new : List ℕ) → i < length sections → ValuesWay sections offsets i → PutsFound form (value_of sections offsets i path) true old new
        → PutsRead form (values_of sections offsets path) old new
    some_there old new within way (v, some, puts) = (Some v, step (Some (Some v)) within way some, puts)

    pub unread_there : i < length sections → ValuesWay sections offsets i → value_of sections offsets i path ≡ None → values_of sections offsets path ≡ None
    unread_there within way none = step None within way none

    pub none_anywhere : length sections ≤ i → ValuesWay sections offsets i → values_of sections offsets path ≡ Some None
    none_anywhere past way = way ∙ ap (λ (l : List (List ℕ)). first_of value_found l (drop i offsets) path) (drop_all i sections past)
