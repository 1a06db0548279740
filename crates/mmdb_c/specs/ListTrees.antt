-- The list of a value, in the words of the format: the tree that unfolds there, each value before those that it holds.
use Rattle.std.specs.Prelude.{◌≡◌, ◌≤◌, ℕ, suc, max, ◌++◌, List, [], ◌∷◌, Some, Bool, true, false, ◌&&◌}
use Rattle.mmdb_format.specs.Header.{header_at}
use Rattle.mmdb_format.specs.Unfolding.{Tree, scalar, array, table, pointer, Trees, no_trees, tree, Pairs, no_pairs, pair, Unfolds}
use Rattle.mmdb_c.specs.List.{scalar_part, container_part, end_of, listed}
use Rattle.mmdb_c.specs.declared.list.ListPart.{ListPart}
use Rattle.mmdb_c.specs.declared.list.EntryPlace.{EntryPlace}

-- the values of a tree, each map and array before those that it holds, without pointers
abbrev mutual
  pub preorder : Tree → List Tree
  preorder (scalar c) = scalar c ∷ []
  preorder (array ts) = array ts ∷ preorder_of_trees ts
  preorder (table ps) = table ps ∷ preorder_of_pairs ps
  preorder (pointer a t) = preorder t

  pub preorder_of_trees : Trees → List Tree
  preorder_of_trees no_trees = []
  preorder_of_trees (tree t ts) = preorder t ++ preorder_of_trees ts

  pub preorder_of_pairs : Pairs → List Tree
  preorder_of_pairs no_pairs = []
  preorder_of_pairs (pair k v ps) = preorder k ++ (preorder v ++ preorder_of_pairs ps)

-- how many values there are on the longest way down, pointers not counted
abbrev mutual
  pub depth : Tree → ℕ
  depth (scalar c) = 1
  depth (array ts) = suc (depth_of_trees ts)
  depth (table ps) = suc (depth_of_pairs ps)
  depth (pointer a t) = depth t

  pub depth_of_trees : Trees → ℕ
  depth_of_trees no_trees = 0
  depth_of_trees (tree t ts) = max (depth t) (depth_of_trees ts)

  pub depth_of_pairs : Pairs → ℕ
  depth_of_pairs no_pairs = 0
  depth_of_pairs (pair k v ps) = max (depth k) (max (depth v) (depth_of_pairs ps))

-- whether no pointer leads to a pointer ("pointer - 1" of the MaxMind DB File Format Specification 2.0)
abbrev pub is_value : Tree → Bool
is_value (pointer a t) = false
is_value t = true

abbrev mutual
  pub is_unchained : Tree → Bool
  is_unchained (scalar c) = true
  is_unchained (array ts) = are_unchained ts
  is_unchained (table ps) = pairs_unchained ps
  is_unchained (pointer a t) = is_value t && is_unchained t

  pub are_unchained : Trees → Bool
  are_unchained no_trees = true
  are_unchained (tree t ts) = is_unchained t && are_unchained ts

  pub pairs_unchained : Pairs → Bool
  pairs_unchained no_pairs = true
  pairs_unchained (pair k v ps) = is_unchained k && (is_unchained v && pairs_unchained ps)

-- the part of a value whose header is at a place, before an offset
abbrev pub part_of : EntryPlace → ℕ → Tree → ListPart
part_of place next (scalar c) = scalar_part place next c
part_of place next t = container_part place next

-- a part is that of a value: its offset, its type and its size are those of the value, or of the number the number
pub record IsPartOf (s : List ℕ) (t : Tree) (x : ListPart) : Type 0 where
  pub place : EntryPlace
  pub end : ℕ
  pub header : header_at s place.offset ≡ Some place.header
  pub unfolds : Unfolds s place.offset t end
  pub part : x ≡ part_of place (end_of place end) t

-- the parts are those of these values, one of each, in their order
abbrev pub ArePartsOf : List ℕ → List Tree → List ListPart → Type 0
ArePartsOf s [] [] = Unit {0}
ArePartsOf s [] (x ∷ xs) = ⊥
ArePartsOf s (t ∷ ts) [] = ⊥
ArePartsOf s (t ∷ ts) (x ∷ xs) = IsPartOf s t x × ArePartsOf s ts xs

-- a tree unfolds at an offset and ends before another; no pointer of it leads to a pointer, and it has at most
-- `levels` values on a way down
pub record CanList (levels : ℕ) (s : List ℕ) (p : ℕ) (t : Tree) (q : ℕ) : Type 0 where
  pub unfolds : Unfolds s p t q
  pub unchained : is_unchained t ≡ true
  pub within : depth t ≤ levels

-- what is listed is such a tree, in preorder, and the list ends where the tree does
abbrev pub ListsWhatUnfolds : Type 0
ListsWhatUnfolds =
    (levels : ℕ) (s : List ℕ) (p q : ℕ) (parts : List ListPart) → listed levels s p ≡ Some (parts, q) →
    (t : Tree) × CanList levels s p t q × ArePartsOf s (preorder t) parts

-- each such tree is listed
abbrev pub EachTreeIsListed : Type 0
EachTreeIsListed =
    (levels : ℕ) (s : List ℕ) (p q : ℕ) (t : Tree) → CanList levels s p t q →
    (parts : List ListPart) × (listed levels s p ≡ Some (parts, q))
