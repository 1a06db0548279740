-- The parts of a tree, and that a path leads to the part that it names.
use Rattle.std.specs.Prelude.{◌≡◌, ℕ, zero, suc, List, [], ◌∷◌, Option, Some, None, Bool, true, false, if◌then◌else◌}
use Rattle.mmdb_format.specs.Contents.{text}
use Rattle.mmdb_format.specs.Header.{◌>>=◌}
use Rattle.mmdb_format.specs.Unfolding.{Tree, scalar, array, table, pointer, Trees, no_trees, tree, Pairs, no_pairs, pair, Unfolds}
use Rattle.mmdb_decode.specs.Reading.{Reading}
use Rattle.mmdb_decode.specs.Names.{named}
use Rattle.mmdb_decode.specs.Selecting.{from_front, from_end}
use Rattle.mmdb_reader.specs.Selecting.{selected}
use Rattle.mmdb_reader.specs.declared.path.PathElement.{PathElement}
use Rattle.mmdb_reader.specs.declared.path.PathElement.TheVariants.{Key, Index, IndexFromEnd}

-- past a pointer where one is
abbrev pub past_pointer : Tree → Tree
past_pointer (pointer a t) = t
past_pointer t = t

-- whether a tree is a text of these bytes
abbrev pub is_spelled : List ℕ → Tree → Bool
is_spelled key (scalar (text x)) = named x key
is_spelled key _ = false

-- the value of the first pair with the key, which is a text directly or through one pointer
abbrev pub value_of : List ℕ → Pairs → Option Tree
value_of key no_pairs = None
value_of key (pair k v ps) = if is_spelled key (past_pointer k) then Some v else value_of key ps

-- the element before which this many come
abbrev pub element_of : ℕ → Trees → Option Tree
element_of n no_trees = None
element_of zero (tree t ts) = Some t
element_of (suc n) (tree t ts) = element_of n ts

abbrev pub count_of : Trees → ℕ
count_of no_trees = zero
count_of (tree t ts) = suc (count_of ts)

-- one step down from a map or an array
abbrev pub inside : PathElement → Tree → Option Tree
inside (Key key) (table ps) = value_of key.now ps
inside (Index i) (array ts) = from_front i (count_of ts) >>= λ n. element_of n ts
inside (IndexFromEnd i) (array ts) = from_end i (count_of ts) >>= λ n. element_of n ts
inside _ _ = None

abbrev pub down : PathElement → Tree → Option Tree
down e t = inside e (past_pointer t)

-- once for each step
abbrev pub part_of : List PathElement → Tree → Option Tree
part_of [] t = Some t
part_of (e ∷ path) t = down e t >>= λ part. part_of path part

-- where a tree unfolds and a path leads to a place, the tree's part of that path unfolds there
abbrev pub PathSelects : Type 0
PathSelects =
    (path : List PathElement) (s : List ℕ) (p q : ℕ) (u : Tree) (r : Reading Bool) →
    Unfolds s p u q → selected path s p 0 ≡ Some r → r.value ≡ true →
    (part : Tree) × (end : ℕ) × (part_of path u ≡ Some part) × Unfolds s r.next part end

-- and where it leads nowhere, the tree has no such part
abbrev pub PathLeadsNowhere : Type 0
PathLeadsNowhere =
    (path : List PathElement) (s : List ℕ) (p q : ℕ) (u : Tree) (r : Reading Bool) →
    Unfolds s p u q → selected path s p 0 ≡ Some r → r.value ≡ false → part_of path u ≡ None
