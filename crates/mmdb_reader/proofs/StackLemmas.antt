-- What a step of an enumeration does to what is still to come.
use Rattle.std.proofs.Common.{◌≡◌, ℕ, ◌+◌, ◌-◌, ◌<◌, ◌≤◌, zero, suc, Bool, true, false, List, [], ◌∷◌, ◌++◌, Option, Some, None, MatchOption, length, get_or, arith, sym, ap, ◌∙◌, refl, append_assoc, length-append, subst, ◌⊎◌, inl, inr}
use Rattle.std.proofs.lemmas.List.{append-nil, get_or_append_left}
use Rattle.std.proofs.Math.Seq.{get_or-append_seam}
use Rattle.std.proofs.lemmas.Bool.{cases_lt}
use Rattle.mmdb_reader.specs.declared.options.WithinOptions.{WithinOptions}
use Rattle.mmdb_reader.specs.declared.positions.Position.{Position}
use Rattle.mmdb_reader.specs.File.{Database, tree_of, width}
use Rattle.mmdb_tree.specs.Tree.{walk}
use Rattle.mmdb_tree.specs.declared.record.TreeRecord.{TreeRecord}
use Rattle.mmdb_reader.specs.Listing.{Listed, listed_below, list_if, is_hidden, finding_at}
use Rattle.mmdb_reader.specs.Positions.{IsAt, IsPlaced, IsStack, bits_to, listed_from, listed_of_stack}
use Rattle.mmdb_reader.specs.Working.{HasHalves, IsEnd, ListsSame, IsLowest, IsNothing, half_of, positions_below, positions_left}
use Rattle.mmdb_reader.proofs.ListingSteps.{below-hidden, below-node, below-full, below-leaf}
use Rattle.mmdb_reader.proofs.PositionLemmas.{bits_to-half, IsAt-half}

-- the position on top comes first
pub stack-push : (db : Database) (options : WithinOptions) (xs : List Position) (p : Position) → listed_of_stack db options (xs ++ p ∷ []) ≡ listed_from db options p ++ listed_of_stack db options xs
unfolding listed_of_stack
stack-push db options [] p = sym (append-nil _)
stack-push db options (x ∷ xs) p = rw (stack-push db options xs p, append_assoc) refl

pub positions_left-push : (w : ℕ) (xs : List Position) (p : Position) → positions_left w (xs ++ p ∷ []) ≡ positions_left w xs + positions_below (w - p.prefix)
unfolding positions_left
positions_left-push w [] p = refl
positions_left-push w (x ∷ xs) p = let h = positions_left-push w xs p in omega (arith, h)

positions_below-pos : (left : ℕ) → 0 < positions_below left
unfolding positions_below
positions_below-pos zero = omega arith
positions_below-pos (suc left) = omega arith

positions_below-suc : (left : ℕ) → positions_below (suc left) ≡ suc (positions_below left + positions_below left)
unfolding positions_below
positions_below-suc left = refl

module _ (db : Database) (options : WithinOptions) (p : Position) (at : IsAt db p) where
  on_node : p.number < db.metadata.node_count → walk (tree_of db) (bits_to db p) < db.metadata.node_count
  on_node on = let r = at.reached in omega (arith, r, on)

  leaf_with : (left : ℕ) → is_hidden db options (bits_to db p) ≡ false → ((left ≡ 0) ⊎ (db.metadata.node_count ≤ p.number)) → listed_below db options left (bits_to db p) ≡ list_if (bits_to db p) (finding_at db options (walk (tree_of db) (bits_to db p)))
  leaf_with zero shown ended = below-full db options (bits_to db p) shown
  leaf_with (suc left) shown (inl full) = absurd (omega arith)
  leaf_with (suc left) shown (inr off) = let r = at.reached in below-leaf db options (bits_to db p) left shown (omega (arith, r, off))

  -- the list of a leaf
  pub from-leaf : (found : Option TreeRecord) → found ≡ finding_at db options p.number → is_hidden db options (bits_to db p) ≡ false → IsEnd db p → listed_from db options p ≡ list_if (bits_to db p) found
  from-leaf found is shown ended =
      let at_end : ((width db - p.prefix ≡ 0) ⊎ (db.metadata.node_count ≤ p.number)) = elim ended [ inl full ↦ inl (omega arith) | inr off ↦ inr off ] in
      leaf_with (width db - p.prefix) shown at_end ∙ ap (λ (n : ℕ). list_if (bits_to db p) (finding_at db options n)) (sym at.reached) ∙ ap (list_if (bits_to db p)) (sym is)

  -- the list of a half
  pub from-half : (x : Bool) → p.prefix < width db → listed_from db options (half_of db p x) ≡ listed_below db options (width db - (p.prefix + 1)) (bits_to db p ++ x ∷ [])
  from-half x inner = ap (listed_below db options (width db - (p.prefix + 1))) (bits_to-half db p at inner x)

module _ (db : Database) (options : WithinOptions) (xs : List Position) (p : Position) where
  -- a hidden position gives nothing
  pub step-hidden : is_hidden db options (bits_to db p) ≡ true → listed_of_stack db options (xs ++ p ∷ []) ≡ listed_of_stack db options xs
  step-hidden hidden =
      stack-push db options xs p ∙ ap (λ (m : List Listed). m ++ listed_of_stack db options xs) (below-hidden db options (bits_to db p) (width db - p.prefix) hidden)

  -- a node gives what its halves give
  pub step-node : IsAt db p → is_hidden db options (bits_to db p) ≡ false → HasHalves db p → listed_of_stack db options (xs ++ p ∷ []) ≡ listed_of_stack db options ((xs ++ half_of db p true ∷ []) ++ half_of db p false ∷ [])
  step-node at shown halves =
      let left : ℕ = width db - (p.prefix + 1) in
      let low : List Listed = listed_below db options left (bits_to db p ++ false ∷ []) in
      let high : List Listed = listed_below db options left (bits_to db p ++ true ∷ []) in
      let e : width db - p.prefix ≡ suc left = let inner = halves.1 in omega (arith, inner) in
      let split : listed_from db options p ≡ low ++ high = ap (λ (n : ℕ). listed_below db options n (bits_to db p)) e ∙ below-node db options (bits_to db p) left shown (on_node db options p at halves.0) in
      let below = from-half db options p at false halves.1 in
      let above = from-half db options p at true halves.1 in
      let with_upper : listed_of_stack db options (xs ++ half_of db p true ∷ []) ≡ high ++ listed_of_stack db options xs = stack-push db options xs (half_of db p true) ∙ ap (λ (m : List Listed). m ++ listed_of_stack db options xs) above in
      let with_lower : listed_of_stack db options ((xs ++ half_of db p true ∷ []) ++ half_of db p false ∷ []) ≡ low ++ (high ++ listed_of_stack db options xs) =
      stack-push db options (xs ++ half_of db p true ∷ []) (half_of db p false) ∙ ap (λ (m : List Listed). m ++ listed_of_stack db options (xs ++ half_of db p true ∷ [])) below ∙ ap (λ (m : List Listed). low ++ m) with_upper
      in
      stack-push db options xs p ∙ ap (λ (m : List Listed). m ++ listed_of_stack db options xs) split ∙ append_assoc low high (listed_of_stack db options xs) ∙ sym with_lower

  -- a leaf gives itself, if it is listed
  pub step-leaf : (found : Option TreeRecord) → IsAt db p → found ≡ finding_at db options p.number → is_hidden db options (bits_to db p) ≡ false → IsEnd db p → listed_of_stack db options (xs ++ p ∷ []) ≡ list_if (bits_to db p) found ++ listed_of_stack db options xs
  step-leaf found at is shown ended = stack-push db options xs p ∙ ap (λ (m : List Listed). m ++ listed_of_stack db options xs) (from-leaf db options p at found is shown ended)

  pub leaf-smaller : positions_left (width db) xs < positions_left (width db) (xs ++ p ∷ [])
  leaf-smaller = omega (arith, positions_left-push (width db) xs p, positions_below-pos (width db - p.prefix))

  pub node-smaller : p.prefix < width db → positions_left (width db) ((xs ++ half_of db p true ∷ []) ++ half_of db p false ∷ []) < positions_left (width db) (xs ++ p ∷ [])
  node-smaller above =
      let e : width db - p.prefix ≡ suc (width db - (p.prefix + 1)) = omega arith in
      let size = ap positions_below e ∙ positions_below-suc (width db - (p.prefix + 1)) in
      omega (arith, size, positions_left-push (width db) xs p, positions_left-push (width db) xs (half_of db p true), positions_left-push (width db) (xs ++ half_of db p true ∷ []) (half_of db p false))

-- ---- room

module _ (db : Database) (capacity : ℕ) (xs : List Position) (p : Position) where
  -- what lies below the top keeps its place, and the top has one
  pub IsStack-front : IsStack db capacity (xs ++ p ∷ []) → IsStack db capacity xs
  IsStack-front placed index d below = subst (IsPlaced db capacity index) (get_or_append_left xs (p ∷ []) d index below) (placed index d (omega (arith, length-append xs (p ∷ []))))

  pub IsStack-top : IsStack db capacity (xs ++ p ∷ []) → IsPlaced db capacity (length xs) p
  IsStack-top placed = subst (IsPlaced db capacity (length xs)) (get_or-append_seam xs p [] p) (placed (length xs) p (omega (arith, length-append xs (p ∷ []))))

  -- a placed position may be put on top
  pub IsStack-push : IsStack db capacity xs → IsPlaced db capacity (length xs) p → IsStack db capacity (xs ++ p ∷ [])
  IsStack-push placed top index d below = elim (cases_lt index (length xs)) [
    | inl low ↦ subst (IsPlaced db capacity index) (sym (get_or_append_left xs (p ∷ []) d index low)) (placed index d low)
    | inr high ↦
        let e : length xs ≡ index = omega (arith, length-append xs (p ∷ [])) in
        subst (λ (i : ℕ). IsPlaced db capacity i (get_or (xs ++ p ∷ []) i d)) e (subst (IsPlaced db capacity (length xs)) (sym (get_or-append_seam xs p [] d)) top)
  ]

-- the halves of a node are placed, at its place and the one above
halves-placed : (db : Database) (capacity index above : ℕ) (p : Position) (x : Bool) → above ≤ index + 1 → IsPlaced db capacity index p → HasHalves db p → IsPlaced db capacity above (half_of db p x)
halves-placed db capacity index above p x near h halves =
    let room = h.room_below halves.0 in
    let inner = halves.1 in
    record {
      at = IsAt-half db p h.at inner x;
      room = omega (arith, room, inner);
      room_below = λ _. omega (arith, room, inner);
    }

-- after a `pop`
module _ (db : Database) (capacity : ℕ) (old xs : List Position) (p : Position) (e : old ≡ xs ++ p ∷ []) (placed : IsStack db capacity old) where
  pub pop-top : IsPlaced db capacity (length xs) p
  pop-top = IsStack-top db capacity xs p (subst (IsStack db capacity) e placed)

  pub pop-front : IsStack db capacity xs
  pop-front = IsStack-front db capacity xs p (subst (IsStack db capacity) e placed)

-- both halves of a node are put in its place
pub halves-stack : (db : Database) (capacity same one_same two_same : ℕ) (old xs one two : List Position) (p upper lower : Position) → old ≡ xs ++ p ∷ [] → IsStack db capacity old → HasHalves db p
    → upper ≡ half_of db p true → lower ≡ half_of db p false → one ≡ xs ++ upper ∷ [] → two ≡ one ++ lower ∷ [] → same ≡ capacity → one_same ≡ same → two_same ≡ one_same → IsStack db two_same two
halves-stack db capacity same one_same two_same old xs one two p upper lower e placed halves is_upper is_lower is_one is_two s1 s2 s3 =
    let top = pop-top db capacity old xs p e placed in
    let front = pop-front db capacity old xs p e placed in
    let first = IsStack-push db capacity xs (half_of db p true) front (halves-placed db capacity (length xs) (length xs) p true (omega arith) top halves) in
    let long : length (xs ++ half_of db p true ∷ []) ≤ length xs + 1 = omega (arith, length-append xs (half_of db p true ∷ [])) in
    let both = IsStack-push db capacity (xs ++ half_of db p true ∷ []) (half_of db p false) first
    (halves-placed db capacity (length xs) (length (xs ++ half_of db p true ∷ [])) p false long top halves) in
    let last : (xs ++ half_of db p true ∷ []) ++ half_of db p false ∷ [] ≡ two = cc in
    let size : capacity ≡ two_same = omega arith in
    subst (λ (n : ℕ). IsStack db n two) size (subst (IsStack db capacity) last both)

-- ---- going down

module _ (db : Database) (options : WithinOptions) (capacity : ℕ) (old : List Position) where
  -- where a walk goes down from
  pub goes_on-start : IsStack db capacity old → ListsSame db options capacity old old
  goes_on-start placed = record { placed = placed; lists = refl; left = omega arith }

  module _ (xs : List Position) (p : Position) (on : ListsSame db options capacity old (xs ++ p ∷ [])) where
    pub top-placed : IsPlaced db capacity (length xs) p
    top-placed = IsStack-top db capacity xs p on.placed

    -- below an alias nothing is listed
    pub goes_on-hidden : is_hidden db options (bits_to db p) ≡ true → IsNothing db options capacity old xs
    goes_on-hidden hidden = record {
      placed = IsStack-front db capacity xs p on.placed;
      lists = sym (step-hidden db options xs p hidden) ∙ on.lists;
      left = let less = leaf-smaller db options xs p in let left = on.left in omega (arith, less, left);
    }

    -- the upper half of a node is put on the stack, and the walk goes on at the lower one
    pub goes_on-node : is_hidden db options (bits_to db p) ≡ false → HasHalves db p → ListsSame db options capacity old ((xs ++ half_of db p true ∷ []) ++ half_of db p false ∷ [])
    goes_on-node shown halves = record {
      placed = halves-stack db capacity capacity capacity capacity (xs ++ p ∷ []) xs (xs ++ half_of db p true ∷ []) ((xs ++ half_of db p true ∷ []) ++ half_of db p false ∷ []) p (half_of db p true) (half_of db p false)
          refl on.placed halves refl refl refl refl refl refl refl;
      lists = sym (step-node db options xs p top-placed.at shown halves) ∙ on.lists;
      left = let less = node-smaller db options xs p halves.1 in let left = on.left in omega (arith, less, left);
    }

    -- it ends at a leaf
    pub goes_on-leaf : is_hidden db options (bits_to db p) ≡ false → IsEnd db p → IsLowest db options capacity old xs p
    goes_on-leaf shown ends = record { on = on; shown = shown; ends = ends }

-- ---- what a walk has come down to

module _ (db : Database) (options : WithinOptions) (capacity : ℕ) (old xs : List Position) (p : Position) (lowest : IsLowest db options capacity old xs p) where
  pub lowest-at : IsAt db p
  lowest-at = (IsStack-top db capacity xs p lowest.on.placed).at

  -- the rest of the stack keeps its place
  pub rest-placed : IsStack db capacity xs
  rest-placed = IsStack-front db capacity xs p lowest.on.placed

  pub lowest-smaller : positions_left (width db) xs < positions_left (width db) old
  lowest-smaller = let less = leaf-smaller db options xs p in let left = lowest.on.left in omega (arith, less, left)

  -- the leaf comes first, if it is listed
  pub lowest-lists : (found : Option TreeRecord) → found ≡ finding_at db options p.number → listed_of_stack db options old ≡ list_if (bits_to db p) found ++ listed_of_stack db options xs
  lowest-lists found is = sym lowest.on.lists ∙ step-leaf db options xs p found lowest-at is lowest.shown lowest.ends

-- what is left on the stack keeps its place, whether a leaf was met or an alias
pub left-placed : (db : Database) (options : WithinOptions) (capacity same : ℕ) (old xs : List Position) (met : Option Position) → MatchOption met (IsNothing db options capacity old xs) (λ p. IsLowest db options capacity old xs p) → capacity ≡ same → IsStack db same xs
left-placed db options capacity same old xs None nothing size = subst (λ (n : ℕ). IsStack db n xs) size nothing.placed
left-placed db options capacity same old xs (Some p) lowest size = subst (λ (n : ℕ). IsStack db n xs) size (rest-placed db options capacity old xs p lowest)

-- ---- the first position

pub IsStack-none : (db : Database) (capacity : ℕ) (stack : List Position) → stack ≡ [] → IsStack db capacity stack
IsStack-none db capacity stack e index d below = absurd (omega (arith, ap length e, below))

pub IsStack-one : (db : Database) (capacity same : ℕ) (stack none : List Position) (p : Position) → stack ≡ none ++ p ∷ [] → none ≡ [] → capacity ≡ same → IsPlaced db capacity 0 p → IsStack db same stack
IsStack-one db capacity same stack none p e is_none size placed =
    let whole : [] ++ p ∷ [] ≡ stack = ap (λ (xs : List Position). xs ++ p ∷ []) (sym is_none) ∙ sym e in
    subst (λ (n : ℕ). IsStack db n stack) size (subst (IsStack db capacity) whole (IsStack-push db capacity [] p (λ index d below. absurd (omega (arith, below))) placed))

pub lists-one : (db : Database) (options : WithinOptions) (stack none : List Position) (p : Position) (all : List Listed) → stack ≡ none ++ p ∷ [] → none ≡ [] → listed_of_stack db options (p ∷ []) ≡ all → listed_of_stack db options stack ≡ all
lists-one db options stack none p all e is_none same = ap (listed_of_stack db options) (e ∙ ap (λ (xs : List Position). xs ++ p ∷ []) is_none) ∙ same

pub lists-none : (db : Database) (options : WithinOptions) (stack : List Position) (all : List Listed) → stack ≡ [] → all ≡ [] → listed_of_stack db options stack ≡ all
unfolding listed_of_stack
lists-none db options stack all e is_none = ap (listed_of_stack db options) e ∙ sym is_none
