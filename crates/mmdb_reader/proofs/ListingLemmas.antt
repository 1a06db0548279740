-- The list of a range is exactly the leaves that are listed for it, ascending.
use Rattle.std.proofs.Common.{◌≡◌, ℕ, zero, suc, ◌<◌, ◌≤◌, ◌⊎◌, ◌↔◌, Bool, true, false, List, [], ◌∷◌, ◌++◌, Option, Some, None, length, get_or, refl, ap, arith, sym, ◌∙◌, subst, inl, inr, append_assoc, length-append}
use Rattle.std.specs.List.{Contains}
use Rattle.std.proofs.lemmas.List.{append-nil, map-append}
use Rattle.std.proofs.lemmas.List.Elements.{Contains-append_left, Contains-append_right, Contains-append_cases}
use Rattle.std.proofs.lemmas.Bool.{cases_Bool, cases_lt}
use Rattle.mmdb_net.specs.Bits.{IsPrefix}
use Rattle.mmdb_reader.specs.declared.options.WithinOptions.{WithinOptions}
use Rattle.mmdb_reader.specs.File.{Database, tree_of, width}
use Rattle.mmdb_tree.specs.Tree.{walk}
use Rattle.mmdb_reader.specs.Leaves.{IsLeaf}
use Rattle.mmdb_reader.specs.Options.{includes_aliased}
use Rattle.mmdb_tree.specs.declared.record.TreeRecord.{TreeRecord}
use Rattle.mmdb_reader.specs.Listing.{Listed, listed_with, IsClear, IsListed, ComesBefore, Ascends, leaves_of, IsListing, is_hidden, finding_at, list_if, listed_at, listed_below, listed_along, listed}
use Rattle.mmdb_reader.proofs.ListingSteps.{below-hidden, below-node, below-full, below-leaf, along-there, along-full, along-hidden, along-node, along-leaf}
use Rattle.mmdb_reader.specs.ListingLaws.{WholeWalkListsAll, ListingsAreUnique}
use Rattle.mmdb_reader.proofs.FindingLemmas.{finding-sound, finding-complete, some_finding}
use Rattle.mmdb_reader.proofs.AliasLemmas.{shown-clear, clear-shown}
use Rattle.mmdb_reader.proofs.PositionLemmas.{width-le}

-- The bits `s` after `bits` make a leaf that is listed, as far as it lies after `bits`.
pub record Below (db : Database) (options : WithinOptions) (left : ℕ) (bits s : List Bool) (finding : TreeRecord) : Type 0 where
  pub inner : (c : List Bool) (x : Bool) (d : List Bool) → s ≡ c ++ x ∷ d → walk (tree_of db) (bits ++ c) < db.metadata.node_count
  pub short : length s ≤ left
  pub ended : (db.metadata.node_count ≤ walk (tree_of db) (bits ++ s)) ⊎ (length s ≡ left)
  pub shown : (c d : List Bool) → s ≡ c ++ d → is_hidden db options (bits ++ c) ≡ false
  pub found : finding_at db options (walk (tree_of db) (bits ++ s)) ≡ Some finding

no_end : (c : List Bool) (x : Bool) (d : List Bool) → [] ≡ c ++ x ∷ d → ⊥
no_end [] x d e = cc
no_end (y ∷ c) x d e = cc

nil_front : (c d : List Bool) → [] ≡ c ++ d → c ≡ []
nil_front [] d e = refl
nil_front (y ∷ c) d e = cc

no_listed : (m : Listed) → Contains [] m → ⊥
no_listed m (k, below, is) = absurd (omega arith)

-- one bit more in front is one bit less after it
shifted : (bits : List Bool) (x : Bool) (c : List Bool) → (bits ++ x ∷ []) ++ c ≡ bits ++ x ∷ c
shifted bits x c = append_assoc bits (x ∷ []) c

-- the leaf of a list of one
one_sound : (leaf : List Bool) (found : Option TreeRecord) (m : Listed) → Contains (list_if leaf found) m → (m.leaf ≡ leaf) × (found ≡ Some m.finding)
one_sound leaf None m h = absurd (no_listed m h)
one_sound leaf (Some finding) m (k, below, is) =
    let first : k ≡ 0 = omega arith in
    let same : listed_with leaf finding ≡ m = sym (ap (λ (j : ℕ). get_or (list_if leaf (Some finding)) j m) first) ∙ is in
    (ap (λ (n : Listed). n.leaf) (sym same), ap (λ (n : Listed). Some n.finding) same)

one_complete : (leaf : List Bool) (found : Option TreeRecord) (finding : TreeRecord) → found ≡ Some finding → Contains (list_if leaf found) (listed_with leaf finding)
one_complete leaf found finding e = rw e (0, omega arith, refl)

module _ (db : Database) (options : WithinOptions) where
  -- a leaf that ends where it begins
  here : (left : ℕ) (bits : List Bool) (m : Listed) → is_hidden db options bits ≡ false → ((db.metadata.node_count ≤ walk (tree_of db) bits) ⊎ (0 ≡ left))
      → finding_at db options (walk (tree_of db) bits) ≡ Some m.finding → Below db options left bits [] m.finding
  here left bits m shown ended found =
      let same : bits ++ [] ≡ bits = append-nil bits in
      record {
        inner = λ c x d e. absurd (no_end c x d e);
        short = omega arith;
        ended = elim ended [ inl off ↦ inl (omega (arith, off, ap (walk (tree_of db)) same)) | inr full ↦ inr full ];
        shown = λ c d e. ap (λ (t : List Bool). is_hidden db options (bits ++ t)) (nil_front c d e) ∙ ap (is_hidden db options) same ∙ shown;
        found = ap (λ (t : List Bool). finding_at db options (walk (tree_of db) t)) same ∙ found;
      }

  lift_inner : (left : ℕ) (bits : List Bool) (y : Bool) (s : List Bool) (f : TreeRecord) → walk (tree_of db) bits < db.metadata.node_count → Below db options left (bits ++ y ∷ []) s f
      → (c : List Bool) (x : Bool) (d : List Bool) → y ∷ s ≡ c ++ x ∷ d → walk (tree_of db) (bits ++ c) < db.metadata.node_count
  lift_inner left bits y s f on h [] x d e = omega (arith, on, ap (walk (tree_of db)) (append-nil bits))
  lift_inner left bits y s f on h (z ∷ c) x d e =
      let first : y ≡ z = cc in
      let others : s ≡ c ++ x ∷ d = cc in
      let below = h.inner c x d others in
      let same : walk (tree_of db) ((bits ++ y ∷ []) ++ c) ≡ walk (tree_of db) (bits ++ z ∷ c) = ap (walk (tree_of db)) (shifted bits y c ∙ ap (λ (w : Bool). bits ++ w ∷ c) first) in
      omega (arith, below, same)

  lift_shown : (left : ℕ) (bits : List Bool) (y : Bool) (s : List Bool) (f : TreeRecord) → is_hidden db options bits ≡ false → Below db options left (bits ++ y ∷ []) s f
      → (c d : List Bool) → y ∷ s ≡ c ++ d → is_hidden db options (bits ++ c) ≡ false
  lift_shown left bits y s f shown h [] d e = ap (is_hidden db options) (append-nil bits) ∙ shown
  lift_shown left bits y s f shown h (z ∷ c) d e =
      let first : y ≡ z = cc in
      let others : s ≡ c ++ d = cc in
      ap (λ (w : Bool). is_hidden db options (bits ++ w ∷ c)) (sym first) ∙ sym (ap (is_hidden db options) (shifted bits y c)) ∙ h.shown c d others

  -- a leaf below a half is one below the whole
  lift : (left : ℕ) (bits : List Bool) (y : Bool) (s : List Bool) (f : TreeRecord) → is_hidden db options bits ≡ false → walk (tree_of db) bits < db.metadata.node_count → Below db options left (bits ++ y ∷ []) s f → Below db options (suc left) bits (y ∷ s) f
  lift left bits y s f shown on h =
      let same = shifted bits y s in
      record {
        inner = lift_inner left bits y s f on h;
        short = let short = h.short in omega (arith, short);
        ended = elim h.ended [ inl off ↦ inl (omega (arith, off, ap (walk (tree_of db)) same)) | inr full ↦ inr (omega (arith, full)) ];
        shown = lift_shown left bits y s f shown h;
        found = ap (λ (t : List Bool). finding_at db options (walk (tree_of db) t)) (sym same) ∙ h.found;
      }

  -- and the other way round
  unlift : (left : ℕ) (bits : List Bool) (y : Bool) (s : List Bool) (f : TreeRecord) → Below db options (suc left) bits (y ∷ s) f → Below db options left (bits ++ y ∷ []) s f
  unlift left bits y s f h =
      let same = shifted bits y s in
      record {
        inner = λ c x d e. let below = h.inner (y ∷ c) x d (ap (λ (t : List Bool). y ∷ t) e) in omega (arith, below, ap (walk (tree_of db)) (shifted bits y c));
        short = let short = h.short in omega (arith, short);
        ended = elim h.ended [ inl off ↦ inl (omega (arith, off, ap (walk (tree_of db)) same)) | inr full ↦ inr (omega (arith, full)) ];
        shown = λ c d e. ap (is_hidden db options) (shifted bits y c) ∙ h.shown (y ∷ c) d (ap (λ (t : List Bool). y ∷ t) e);
        found = ap (λ (t : List Bool). finding_at db options (walk (tree_of db) t)) same ∙ h.found;
      }

  shown_here : (left : ℕ) (bits s : List Bool) (f : TreeRecord) → Below db options left bits s f → is_hidden db options bits ≡ false
  shown_here left bits s f h = sym (ap (is_hidden db options) (append-nil bits)) ∙ h.shown [] s refl

  on_here : (left : ℕ) (bits : List Bool) (y : Bool) (s : List Bool) (f : TreeRecord) → Below db options left bits (y ∷ s) f → walk (tree_of db) bits < db.metadata.node_count
  on_here left bits y s f h = let on = h.inner [] y s refl in omega (arith, on, ap (walk (tree_of db)) (append-nil bits))

  off_here : (left : ℕ) (bits : List Bool) (f : TreeRecord) → Below db options (suc left) bits [] f → db.metadata.node_count ≤ walk (tree_of db) bits
  off_here left bits f h = elim h.ended [ inl off ↦ omega (arith, off, ap (walk (tree_of db)) (append-nil bits)) | inr full ↦ absurd (omega (arith, full)) ]

  found_here : (left : ℕ) (bits : List Bool) (f : TreeRecord) → Below db options left bits [] f → finding_at db options (walk (tree_of db) bits) ≡ Some f
  found_here left bits f h = ap (λ (t : List Bool). finding_at db options (walk (tree_of db) t)) (sym (append-nil bits)) ∙ h.found

  -- what is in the list
  abbrev Stands : ℕ → List Bool → Listed → Type 0
  Stands left bits m = (s : List Bool) × (m.leaf ≡ bits ++ s) × Below db options left bits s m.finding

  one_stands : (left : ℕ) (bits : List Bool) (m : Listed) → is_hidden db options bits ≡ false → ((db.metadata.node_count ≤ walk (tree_of db) bits) ⊎ (0 ≡ left)) → Contains (listed_at db options bits) m → Stands left bits m
  one_stands left bits m shown ended h =
      let one = one_sound bits (finding_at db options (walk (tree_of db) bits)) m h in
      ([], one.0 ∙ sym (append-nil bits), here left bits m shown ended one.1)

  half_stands : (left : ℕ) (bits : List Bool) (y : Bool) (m : Listed) → is_hidden db options bits ≡ false → walk (tree_of db) bits < db.metadata.node_count → Stands left (bits ++ y ∷ []) m → Stands (suc left) bits m
  half_stands left bits y m shown on h = (y ∷ h.0, h.1 ∙ shifted bits y h.0, lift left bits y h.0 m.finding shown on h.2)

  pub sound : (left : ℕ) (bits : List Bool) (m : Listed) → Contains (listed_below db options left bits) m → Stands left bits m
  sound zero bits m h = elim (cases_Bool (is_hidden db options bits)) [
    | inl hidden ↦ absurd (no_listed m (subst (λ (ms : List Listed). Contains ms m) (below-hidden db options bits zero hidden) h))
    | inr shown ↦ one_stands zero bits m shown (inr refl) (subst (λ (ms : List Listed). Contains ms m) (below-full db options bits shown) h)
  ]
  sound (suc left) bits m h = elim (cases_Bool (is_hidden db options bits)) [
    | inl hidden ↦ absurd (no_listed m (subst (λ (ms : List Listed). Contains ms m) (below-hidden db options bits (suc left) hidden) h))
    | inr shown ↦ elim (cases_lt (walk (tree_of db) bits) db.metadata.node_count) [
      | inl on ↦ elim (Contains-append_cases _ _ m (subst (λ (ms : List Listed). Contains ms m) (below-node db options bits left shown on) h)) [
        | inl low ↦ half_stands left bits false m shown on (sound left (bits ++ false ∷ []) m low)
        | inr high ↦ half_stands left bits true m shown on (sound left (bits ++ true ∷ []) m high)
      ]
      | inr off ↦ one_stands (suc left) bits m shown (inl off) (subst (λ (ms : List Listed). Contains ms m) (below-leaf db options bits left shown off) h)
    ]
  ]

  one_contains : (bits : List Bool) (f : TreeRecord) → finding_at db options (walk (tree_of db) bits) ≡ Some f → Contains (listed_at db options bits) (listed_with (bits ++ []) f)
  one_contains bits f e = subst (λ (leaf : List Bool). Contains (listed_at db options bits) (listed_with leaf f)) (sym (append-nil bits)) (one_complete bits (finding_at db options (walk (tree_of db) bits)) f e)

  half_contains : (ms : List Listed) (bits : List Bool) (y : Bool) (s : List Bool) (f : TreeRecord) → Contains ms (listed_with ((bits ++ y ∷ []) ++ s) f) → Contains ms (listed_with (bits ++ y ∷ s) f)
  half_contains ms bits y s f h = subst (λ (leaf : List Bool). Contains ms (listed_with leaf f)) (shifted bits y s) h

  pub complete : (left : ℕ) (bits s : List Bool) (f : TreeRecord) → Below db options left bits s f → Contains (listed_below db options left bits) (listed_with (bits ++ s) f)
  complete zero bits [] f h =
      subst (λ (ms : List Listed). Contains ms (listed_with (bits ++ []) f)) (sym (below-full db options bits (shown_here zero bits [] f h))) (one_contains bits f (found_here zero bits f h))
  complete zero bits (y ∷ s) f h = let short = h.short in absurd (omega (arith, short))
  complete (suc left) bits [] f h =
      subst (λ (ms : List Listed). Contains ms (listed_with (bits ++ []) f)) (sym (below-leaf db options bits left (shown_here (suc left) bits [] f h) (off_here left bits f h))) (one_contains bits f (found_here (suc left) bits f h))
  complete (suc left) bits (false ∷ s) f h =
      subst (λ (ms : List Listed). Contains ms (listed_with (bits ++ false ∷ s) f)) (sym (below-node db options bits left (shown_here (suc left) bits (false ∷ s) f h) (on_here (suc left) bits false s f h)))
      (Contains-append_left _ _ _ (half_contains _ bits false s f (complete left (bits ++ false ∷ []) s f (unlift left bits false s f h))))
  complete (suc left) bits (true ∷ s) f h =
      subst (λ (ms : List Listed). Contains ms (listed_with (bits ++ true ∷ s) f)) (sym (below-node db options bits left (shown_here (suc left) bits (true ∷ s) f h) (on_here (suc left) bits true s f h)))
      (Contains-append_right _ _ _ (half_contains _ bits true s f (complete left (bits ++ true ∷ []) s f (unlift left bits true s f h))))

-- ---- ranges

-- one of the strings begins the other
abbrev Meets : List Bool → List Bool → Type 0
Meets range s = IsPrefix range s ⊎ IsPrefix s range

meets-cons : (x : Bool) (range s : List Bool) → Meets range s → Meets (x ∷ range) (x ∷ s)
meets-cons x range s (inl (rest, e)) = inl (rest, ap (λ (t : List Bool). x ∷ t) e)
meets-cons x range s (inr (rest, e)) = inr (rest, ap (λ (t : List Bool). x ∷ t) e)

meets-first : (x : Bool) (range : List Bool) (y : Bool) (s : List Bool) → Meets (x ∷ range) (y ∷ s) → (y ≡ x) × Meets range s
meets-first x range y s (inl (rest, e)) = (cc, inl (rest, (let t : s ≡ range ++ rest = cc in t)))
meets-first x range y s (inr (rest, e)) = (cc, inr (rest, (let t : range ≡ s ++ rest = cc in t)))

module _ (db : Database) (options : WithinOptions) where
  leaf_ends : (left : ℕ) (bits s : List Bool) (f : TreeRecord) → db.metadata.node_count ≤ walk (tree_of db) bits → Below db options left bits s f → s ≡ []
  leaf_ends left bits [] f off h = refl
  leaf_ends left bits (y ∷ s) f off h = let on = on_here db options left bits y s f h in absurd (omega (arith, off, on))

  full_ends : (bits s : List Bool) (f : TreeRecord) → Below db options zero bits s f → s ≡ []
  full_ends bits [] f h = refl
  full_ends bits (y ∷ s) f h = let short = h.short in absurd (omega (arith, short))

  abbrev StandsFor : List Bool → ℕ → List Bool → Listed → Type 0
  StandsFor range left bits m = (s : List Bool) × Meets range s × (m.leaf ≡ bits ++ s) × Below db options left bits s m.finding

  meets-nil : (range s : List Bool) → s ≡ [] → Meets range s
  meets-nil range s e = inr (range, ap (λ (t : List Bool). t ++ range) (sym e))

  pub along-sound : (range : List Bool) (left : ℕ) (bits : List Bool) (m : Listed) → Contains (listed_along db options range left bits) m → StandsFor range left bits m
  along-sound [] left bits m h = let w = sound db options left bits m (subst (λ (ms : List Listed). Contains ms m) (along-there db options bits left) h) in (w.0, inl (w.0, refl), w.1, w.2)
  along-sound (x ∷ range) zero bits m h =
      let w = sound db options zero bits m (subst (λ (ms : List Listed). Contains ms m) (along-full db options bits (x ∷ range)) h) in
      (w.0, meets-nil (x ∷ range) w.0 (full_ends bits w.0 m.finding w.2), w.1, w.2)
  along-sound (x ∷ range) (suc left) bits m h = elim (cases_Bool (is_hidden db options bits)) [
    | inl hidden ↦ absurd (no_listed m (subst (λ (ms : List Listed). Contains ms m) (along-hidden db options bits (x ∷ range) (suc left) hidden) h))
    | inr shown ↦ elim (cases_lt (walk (tree_of db) bits) db.metadata.node_count) [
      | inl on ↦
          let w = along-sound range left (bits ++ x ∷ []) m (subst (λ (ms : List Listed). Contains ms m) (along-node db options bits x range left shown on) h) in
          (x ∷ w.0, meets-cons x range w.0 w.1, w.2 ∙ shifted bits x w.0, lift db options left bits x w.0 m.finding shown on w.3)
      | inr off ↦
          let w = sound db options (suc left) bits m (subst (λ (ms : List Listed). Contains ms m) (along-leaf db options bits (x ∷ range) (suc left) shown off) h) in
          (w.0, meets-nil (x ∷ range) w.0 (leaf_ends (suc left) bits w.0 m.finding off w.2), w.1, w.2)
    ]
  ]

  pub along-complete : (range : List Bool) (left : ℕ) (bits s : List Bool) (f : TreeRecord) → Meets range s → Below db options left bits s f → Contains (listed_along db options range left bits) (listed_with (bits ++ s) f)
  along-complete [] left bits s f meets h = subst (λ (ms : List Listed). Contains ms (listed_with (bits ++ s) f)) (sym (along-there db options bits left)) (complete db options left bits s f h)
  along-complete (x ∷ range) zero bits s f meets h = subst (λ (ms : List Listed). Contains ms (listed_with (bits ++ s) f)) (sym (along-full db options bits (x ∷ range))) (complete db options zero bits s f h)
  along-complete (x ∷ range) (suc left) bits [] f meets h =
      subst (λ (ms : List Listed). Contains ms (listed_with (bits ++ []) f)) (sym (along-leaf db options bits (x ∷ range) (suc left) (shown_here db options (suc left) bits [] f h) (off_here db options left bits f h))) (complete db options (suc left) bits [] f h)
  along-complete (x ∷ range) (suc left) bits (y ∷ s) f meets h =
      let both = meets-first x range y s meets in
      let P : Bool → Type 0 = λ z. Contains (listed_along db options (x ∷ range) (suc left) bits) (listed_with (bits ++ z ∷ s) f) in
      let Q : Bool → Type 0 = λ z. Below db options (suc left) bits (z ∷ s) f in
      let h2 : Below db options (suc left) bits (x ∷ s) f = subst Q both.0 h in
      let at_x : P x = subst (λ (ms : List Listed). Contains ms (listed_with (bits ++ x ∷ s) f)) (sym (along-node db options bits x range left (shown_here db options (suc left) bits (x ∷ s) f h2) (on_here db options (suc left) bits x s f h2)))
      (half_contains db options _ bits x s f (along-complete range left (bits ++ x ∷ []) s f both.1 (unlift db options left bits x s f h2)))
      in
      subst P (sym both.0) at_x

-- ---- the whole tree

module _ (db : Database) (options : WithinOptions) (s : List Bool) (f : TreeRecord) where
  below_leaf : Below db options (width db) [] s f → IsLeaf db s
  below_leaf h = record { inner = h.inner; short = h.short; ended = h.ended }

  clear_of : Below db options (width db) [] s f → (includes_aliased options ≡ true) ⊎ IsClear db s
  clear_of h = elim (cases_Bool (includes_aliased options)) [
    | inl asked ↦ inl asked
    | inr other ↦ inr (λ c begins alias. elim (shown-clear db options c (h.shown c begins.0 begins.1)) [
      | inl asked ↦ absurd (both other asked)
      | inr none ↦ none alias
    ])
  ]
    where
      both : {a : Bool} → a ≡ false → a ≡ true → ⊥
      both e g = let wrong : false ≡ true = sym e ∙ g in cc

  pub listed_of_below : (range : List Bool) → Meets range s → Below db options (width db) [] s f → IsListed db options range s f
  listed_of_below range meets h = record { is_leaf = below_leaf h; in_range = meets; clear = clear_of h; found = finding-sound db options s f h.found }

  pub below_of_listed : (range : List Bool) → IsListed db options range s f → Below db options (width db) [] s f
  below_of_listed range h = record {
    inner = h.is_leaf.inner;
    short = h.is_leaf.short;
    ended = h.is_leaf.ended;
    shown = λ c d e. clear-shown db options c (let short = h.is_leaf.short in omega (arith, short, ap length e, length-append c d, width-le db)) (elim h.clear [
      | inl asked ↦ inl asked
      | inr clear ↦ inr (clear c (d, e))
    ]);
    found = finding-complete db options s f h.found;
  }

pub listed_exact : (db : Database) (options : WithinOptions) (range : List Bool) (m : Listed) → Contains (listed db options range) m ↔ IsListed db options range m.leaf m.finding
listed_exact db options range m = (
  (λ h.
      let w = along-sound db options range (width db) [] m h in
      let P : List Bool → Type 0 = λ leaf. IsListed db options range leaf m.finding in
      subst P (sym w.2) (listed_of_below db options w.0 m.finding range w.1 w.3)),
  λ h. along-complete db options range (width db) [] m.leaf m.finding h.in_range (below_of_listed db options m.leaf m.finding range h),
)

-- ---- the order

in_leaves : (ms : List Listed) (leaf : List Bool) → Contains (leaves_of ms) leaf → (m : Listed) × Contains ms m × (m.leaf ≡ leaf)
in_leaves [] leaf (k, below, is) = absurd (omega arith)
in_leaves (m ∷ ms) leaf (zero, below, is) = (m, (0, omega arith, refl), is)
in_leaves (m ∷ ms) leaf (suc k, below, is) =
    let w = in_leaves ms leaf (k, omega arith, is) in
    (w.0, (suc w.1.0, let b = w.1.1 in omega (arith, b), w.1.2), w.2)

ascends-append : (xs ys : List (List Bool)) → Ascends xs → Ascends ys → ((a b : List Bool) → Contains xs a → Contains ys b → ComesBefore a b) → Ascends (xs ++ ys)
ascends-append [] ys p q before = q
ascends-append (x ∷ xs) ys p q before = (
  (λ other h. elim (Contains-append_cases xs ys other h) [
    | inl first ↦ p.0 other first
    | inr second ↦ before x other (0, omega arith, refl) second
  ]),
  ascends-append xs ys p.1 q (λ a b in_xs in_ys. before a b (suc in_xs.0, let b = in_xs.1 in omega (arith, b), in_xs.2) in_ys),
)

module _ (db : Database) (options : WithinOptions) where
  -- what is in the lower half comes before what is in the upper one
  halves-before : (left : ℕ) (bits a b : List Bool) → Contains (leaves_of (listed_below db options left (bits ++ false ∷ []))) a → Contains (leaves_of (listed_below db options left (bits ++ true ∷ []))) b → ComesBefore a b
  halves-before left bits a b in_low in_high =
      let low = in_leaves _ a in_low in
      let high = in_leaves _ b in_high in
      let s = sound db options left (bits ++ false ∷ []) low.0 low.1 in
      let t = sound db options left (bits ++ true ∷ []) high.0 high.1 in
      record {
        shared = bits;
        rest_of_a = s.0;
        rest_of_b = t.0;
        low = sym low.2 ∙ s.1 ∙ shifted bits false s.0;
        high = sym high.2 ∙ t.1 ∙ shifted bits true t.0;
      }

  ascends-one : (leaf : List Bool) (found : Option TreeRecord) → Ascends (leaves_of (list_if leaf found))
  ascends-one leaf None = tt
  ascends-one leaf (Some finding) = ((λ other h. absurd (let below = h.1 in omega (arith, below))), tt)

  ascends-below : (left : ℕ) (bits : List Bool) → Ascends (leaves_of (listed_below db options left bits))
  ascends-below zero bits = elim (cases_Bool (is_hidden db options bits)) [
    | inl hidden ↦ subst (λ (ms : List Listed). Ascends (leaves_of ms)) (sym (below-hidden db options bits zero hidden)) tt
    | inr shown ↦ subst (λ (ms : List Listed). Ascends (leaves_of ms)) (sym (below-full db options bits shown)) (ascends-one bits _)
  ]
  ascends-below (suc left) bits = elim (cases_Bool (is_hidden db options bits)) [
    | inl hidden ↦ subst (λ (ms : List Listed). Ascends (leaves_of ms)) (sym (below-hidden db options bits (suc left) hidden)) tt
    | inr shown ↦ elim (cases_lt (walk (tree_of db) bits) db.metadata.node_count) [
      | inl on ↦ subst (λ (ms : List Listed). Ascends (leaves_of ms)) (sym (below-node db options bits left shown on))
          (subst Ascends (sym (map-append (λ (m : Listed). m.leaf) (listed_below db options left (bits ++ false ∷ [])) (listed_below db options left (bits ++ true ∷ []))))
          (ascends-append _ _ (ascends-below left (bits ++ false ∷ [])) (ascends-below left (bits ++ true ∷ [])) (halves-before left bits)))
      | inr off ↦ subst (λ (ms : List Listed). Ascends (leaves_of ms)) (sym (below-leaf db options bits left shown off)) (ascends-one bits _)
    ]
  ]

  pub ascends-along : (range : List Bool) (left : ℕ) (bits : List Bool) → Ascends (leaves_of (listed_along db options range left bits))
  ascends-along [] left bits = subst (λ (ms : List Listed). Ascends (leaves_of ms)) (sym (along-there db options bits left)) (ascends-below left bits)
  ascends-along (x ∷ range) zero bits = subst (λ (ms : List Listed). Ascends (leaves_of ms)) (sym (along-full db options bits (x ∷ range))) (ascends-below zero bits)
  ascends-along (x ∷ range) (suc left) bits = elim (cases_Bool (is_hidden db options bits)) [
    | inl hidden ↦ subst (λ (ms : List Listed). Ascends (leaves_of ms)) (sym (along-hidden db options bits (x ∷ range) (suc left) hidden)) tt
    | inr shown ↦ elim (cases_lt (walk (tree_of db) bits) db.metadata.node_count) [
      | inl on ↦ subst (λ (ms : List Listed). Ascends (leaves_of ms)) (sym (along-node db options bits x range left shown on)) (ascends-along range left (bits ++ x ∷ []))
      | inr off ↦ subst (λ (ms : List Listed). Ascends (leaves_of ms)) (sym (along-leaf db options bits (x ∷ range) (suc left) shown off)) (ascends-below (suc left) bits)
    ]
  ]

pub range_walk_lists : (db : Database) (options : WithinOptions) (range : List Bool) → IsListing db options range (listed db options range)
range_walk_lists db options range = record { ascends = ascends-along db options range (width db) []; exact = listed_exact db options range }

leaf_in : (ms : List Listed) (m : Listed) → Contains ms m → Contains (leaves_of ms) m.leaf
leaf_in [] m (k, below, is) = absurd (omega arith)
leaf_in (n ∷ ms) m (zero, below, is) = (0, omega arith, ap (λ (w : Listed). w.leaf) is)
leaf_in (n ∷ ms) m (suc k, below, is) = let w = leaf_in ms m (k, omega arith, is) in (suc w.0, let b = w.1 in omega (arith, b), w.2)

-- ---- laws

pub whole_walk_lists_all : WholeWalkListsAll
whole_walk_lists_all db options asked without keeps = record {
  ascends = ascends-along db options [] (width db) [];
  exact = λ leaf. (
    (λ h.
        let w = in_leaves (listed db options []) leaf h in
        let is = (listed_exact db options [] w.0).0 w.1 in
        subst (IsLeaf db) w.2 is.is_leaf),
    λ is.
        let found = some_finding db options leaf without keeps in
        leaf_in (listed db options []) (listed_with leaf found.0) ((listed_exact db options [] (listed_with leaf found.0)).1 (record { is_leaf = is; in_range = inl (leaf, refl); clear = inl asked; found = found.1 })),
  );
}

-- ---- one list

asymmetric : (s t p q u v : List Bool) → s ++ false ∷ p ≡ t ++ true ∷ v → s ++ true ∷ q ≡ t ++ false ∷ u → ⊥
asymmetric [] [] p q u v e f = cc
asymmetric [] (y ∷ t) p q u v e f = cc
asymmetric (x ∷ s) [] p q u v e f = cc
asymmetric (x ∷ s) (y ∷ t) p q u v e f =
    let e' : s ++ false ∷ p ≡ t ++ true ∷ v = cc in
    let f' : s ++ true ∷ q ≡ t ++ false ∷ u = cc in
    asymmetric s t p q u v e' f'

not_both_before : (a b : List Bool) → ComesBefore a b → ComesBefore b a → ⊥
not_both_before a b c d = asymmetric c.shared d.shared c.rest_of_a c.rest_of_b d.rest_of_a d.rest_of_b (sym c.low ∙ d.high) (sym c.high ∙ d.low)

first_or_later : (n : Listed) (ms : List Listed) (m : Listed) → Contains (n ∷ ms) m → (n ≡ m) ⊎ Contains ms m
first_or_later n ms m (zero, below, is) = inl is
first_or_later n ms m (suc k, below, is) = inr (k, omega arith, is)

later : (n : Listed) (ms : List Listed) (m : Listed) → Contains ms m → Contains (n ∷ ms) m
later n ms m h = (suc h.0, let b = h.1 in omega (arith, b), h.2)

first : (n : Listed) (ms : List Listed) → Contains (n ∷ ms) n
first n ms = (0, omega arith, refl)

same_first : (x y : Listed) (xs ys : List Listed) → Ascends (leaves_of (x ∷ xs)) → Ascends (leaves_of (y ∷ ys)) → Contains (y ∷ ys) x → Contains (x ∷ xs) y → x ≡ y
same_first x y xs ys p q has_x has_y = elim (first_or_later y ys x has_x) [
  | inl e ↦ sym e
  | inr after_y ↦ elim (first_or_later x xs y has_y) [
    | inl e ↦ e
    | inr after_x ↦ absurd (not_both_before x.leaf y.leaf (p.0 y.leaf (leaf_in xs y after_x)) (q.0 x.leaf (leaf_in ys x after_y)))
  ]
]

-- what follows the first in one list follows it in the other
rest_has : (x y : Listed) (xs ys : List Listed) → x ≡ y → Ascends (leaves_of (x ∷ xs)) → ((m : Listed) → Contains (x ∷ xs) m → Contains (y ∷ ys) m) → (m : Listed) → Contains xs m → Contains ys m
rest_has x y xs ys same p all m h = elim (first_or_later y ys m (all m (later x xs m h))) [
  | inl e ↦
      let before : ComesBefore x.leaf m.leaf = p.0 m.leaf (leaf_in xs m h) in
      let itself : ComesBefore x.leaf x.leaf = subst (λ (n : Listed). ComesBefore x.leaf n.leaf) (sym (same ∙ e)) before in
      absurd (not_both_before x.leaf x.leaf itself itself)
  | inr after ↦ after
]

same_lists : (xs ys : List Listed) → Ascends (leaves_of xs) → Ascends (leaves_of ys) → ((m : Listed) → Contains xs m → Contains ys m) → ((m : Listed) → Contains ys m → Contains xs m) → xs ≡ ys
same_lists [] [] p q f g = refl
same_lists [] (y ∷ ys) p q f g = absurd (no_listed y (g y (first y ys)))
same_lists (x ∷ xs) [] p q f g = absurd (no_listed x (f x (first x xs)))
same_lists (x ∷ xs) (y ∷ ys) p q f g =
    let same = same_first x y xs ys p q (f x (first x xs)) (g y (first y ys)) in
    let rest = same_lists xs ys p.1 q.1 (rest_has x y xs ys same p f) (rest_has y x ys xs (sym same) q g) in
    ap (λ (n : Listed). n ∷ xs) same ∙ ap (λ (ms : List Listed). y ∷ ms) rest

pub listings_are_unique : ListingsAreUnique
listings_are_unique db options range a b is_a is_b =
    same_lists a b is_a.ascends is_b.ascends (λ m h. (is_b.exact m).1 ((is_a.exact m).0 h)) (λ m h. (is_a.exact m).1 ((is_b.exact m).0 h))
