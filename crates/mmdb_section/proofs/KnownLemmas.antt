-- What a map from bytes knows.
use Rattle.std.proofs.Common.{◌≡◌, ℕ, Bool, true, false, cond, List, [], ◌∷◌, ◌++◌, length, map, Option, Some, None, IfSome, IsSome, Vec, refl, ap, sym, ◌∙◌, subst, append-nil, append_assoc}
use Rattle.std.specs.Global.{Global}
use Rattle.std.specs.BTreeMap.{BTreeMap, UpdatesBy, get_by}
use Rattle.std.specs.Cmp.{eq_by_cmp_equiv}
use Rattle.std.specs.Cmp.Lexicographic.{slice_cmp, nat_list_cmp_total, nat_list_eq_equiv, bytes_decides}
use Rattle.std.specs.Map.{lookup, IsKeyTest, AreApart, KeepsOthers}
use Rattle.std.specs.Ordering.{is_eq, nat_cmp}
use Rattle.std.specs.Str.{bytes_eq}
use Rattle.std.proofs.lemmas.Bool.{false≢true}
use Rattle.std.proofs.lemmas.Map.Text.{is_eq-slice_cmp}
use Rattle.mmdb_section.specs.Bytes.{shape_bytes}
use Rattle.mmdb_section.specs.Sections.{Shape, SectionView, start_of}
use Rattle.mmdb_section.specs.Working.{StandAt, added_in, AreStarts}

-- ---- the map with one key more

module _ {K : Type 0} (eq : K → K → Bool) (test : K → Bool) where
  other_keys : {X : Type 0} (old new : List (K × X)) → KeepsOthers eq test old new → (other : K → Bool) → IsKeyTest eq other → AreApart test other → lookup other new ≡ lookup other old
  unfolding KeepsOthers
  other_keys old new h = h

apart : (a b k : List ℕ) → bytes_eq a b ≡ false → is_eq (slice_cmp nat_cmp a k) ≡ true → is_eq (slice_cmp nat_cmp b k) ≡ false
apart a b k n y = is_eq-slice_cmp b k ∙ nat_list_eq_equiv.symm b k ∙ sym (nat_list_eq_equiv.congr a k b (sym (is_eq-slice_cmp a k) ∙ y)) ∙ n

-- the map has at bytes what its entries have
entries_have : (value : List ℕ) (es : List (Vec ℕ Global × ℕ)) → lookup (λ k. is_eq (slice_cmp nat_cmp value k.items)) es ≡ lookup (bytes_eq value) (map (λ e. (e.0.items, e.1)) es)
entries_have value [] = refl
entries_have value (e ∷ es) =
    ap (λ (b : Bool). cond b (Some e.1) (lookup (λ k. is_eq (slice_cmp nat_cmp value k.items)) es)) (is_eq-slice_cmp value e.0.items)
    ∙ ap (cond (bytes_eq value e.0.items) (Some e.1)) (entries_have value es)

pub found_in : (value : List ℕ) (known : BTreeMap (Vec ℕ Global) ℕ) → get_by (λ k. slice_cmp nat_cmp value k.items) known ≡ lookup (bytes_eq value) (added_in known)
found_in value known = entries_have value known.entries

pub one_key_more : (key : Vec ℕ Global) (old new : BTreeMap (Vec ℕ Global) ℕ) (start : ℕ)
    → UpdatesBy (λ x y. slice_cmp nat_cmp x.items y.items) (λ k. slice_cmp nat_cmp key.items k.items) old new (Some start)
    → (value : List ℕ) → lookup (bytes_eq value) (added_in new) ≡ cond (bytes_eq key.items value) (Some start) (lookup (bytes_eq value) (added_in old))
one_key_more key old new start h value = sym (found_in value new) ∙ by (bytes_eq key.items value) refl ∙ ap (cond (bytes_eq key.items value) (Some start)) (found_in value old) where
  by : (b : Bool) → bytes_eq key.items value ≡ b → get_by (λ k. slice_cmp nat_cmp value k.items) new ≡ cond b (Some start) (get_by (λ k. slice_cmp nat_cmp value k.items) old)
  by true is = subst (λ (xs : List ℕ). get_by (λ k. slice_cmp nat_cmp xs k.items) new ≡ Some start) ((bytes_decides key.items value).0 is) h.1
  by false is = other_keys _ _ _ _ h.3 _ (λ x y. (eq_by_cmp_equiv nat_list_cmp_total).congr value x.items y.items) (λ k. apart key.items value k.items is)

-- ---- where values begin

still_stands : (bytes more : List ℕ) (start : ℕ) (value : List ℕ) → StandAt bytes start value → StandAt (bytes ++ more) start value
still_stands bytes more start value there = record {
  before = there.before;
  behind = there.behind ++ more;
  whole = ap (λ (xs : List ℕ). xs ++ more) there.whole ∙ append_assoc there.before (value ++ there.behind) more ∙ ap (λ (xs : List ℕ). there.before ++ xs) (append_assoc value there.behind more);
  start_is = there.start_is;
}

pub starts_more : (bytes : List ℕ) (key : Vec ℕ Global) (old new : BTreeMap (Vec ℕ Global) ℕ) (start : ℕ) → AreStarts bytes old → start ≡ length bytes
    → UpdatesBy (λ x y. slice_cmp nat_cmp x.items y.items) (λ k. slice_cmp nat_cmp key.items k.items) old new (Some start) → AreStarts (bytes ++ key.items) new
starts_more bytes key old new start are at h value from is = by (bytes_eq key.items value) refl (sym (one_key_more key old new start h value) ∙ is) where
  by : (b : Bool) → bytes_eq key.items value ≡ b → cond b (Some start) (lookup (bytes_eq value) (added_in old)) ≡ Some from → StandAt (bytes ++ key.items) from value
  by true same here = record {
    before = bytes;
    behind = [];
    whole = ap (λ (xs : List ℕ). bytes ++ xs) ((bytes_decides key.items value).0 same ∙ sym (append-nil value));
    start_is = (let e : start ≡ from = cc in sym at ∙ e);
  }
  by false other here = still_stands bytes key.items from value (are value from here)

pub starts_same_entries : (bytes : List ℕ) (old new : BTreeMap (Vec ℕ Global) ℕ) → new.entries ≡ old.entries → AreStarts bytes old → AreStarts bytes new
starts_same_entries bytes old new same are value start is = are value start (sym (ap (λ es. lookup (bytes_eq value) (map (λ e. (e.0.items, e.1)) es)) same) ∙ is)

-- ---- what a section knows

pub stands_if : (found : Option ℕ) (bytes value : List ℕ) → ((start : ℕ) → found ≡ Some start → StandAt bytes start value) → IfSome found (λ start. StandAt bytes start value)
stands_if None bytes value f = tt
stands_if (Some start) bytes value f = f start refl

module _ (old new : SectionView) (start : ℕ) (value : List ℕ) (knows : (shape : Shape) → start_of new shape ≡ cond (bytes_eq value (shape_bytes shape)) (Some start) (start_of old shape)) where
  pub known_new : (shape : Shape) → value ≡ shape_bytes shape → start_of new shape ≡ Some start
  known_new shape is = knows shape ∙ ap (λ (b : Bool). cond b (Some start) (start_of old shape)) ((bytes_decides value (shape_bytes shape)).1 is)

  pub stays_known : ((shape : Shape) → value ≡ shape_bytes shape → None ≡ start_of old shape) → (shape : Shape) (offset : ℕ) → start_of old shape ≡ Some offset → start_of new shape ≡ Some offset
  stays_known none shape offset is = by (bytes_eq value (shape_bytes shape)) refl where
    by : (b : Bool) → bytes_eq value (shape_bytes shape) ≡ b → start_of new shape ≡ Some offset
    by true same = let no : None ≡ Some offset = none shape ((bytes_decides value (shape_bytes shape)).0 same) ∙ is in absurd (cc)
    by false other = knows shape ∙ ap (λ (b : Bool). cond b (Some start) (start_of old shape)) other ∙ is

pub is_new : (section : SectionView) (shape : Shape) → None ≡ start_of section shape → IsSome (start_of section shape) → ⊥
is_new section shape none some = false≢true (subst IsSome (sym none) some)
