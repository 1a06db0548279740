-- A data section as values that follow one another, whose pointers lead to the beginnings of values ("Output Data Section" of
-- the MaxMind DB File Format Specification 2.0).
pub use Rattle.mmdb_section.specs.Shapes.{scalar_of, Shape, plain, elements, entries, shape_of}
use Rattle.std.specs.Prelude.{◌≡◌, ℕ, ◌*◌, ◌<◌, ◌≤◌, ◌^◌, ◌⊎◌, ◌==◌, ◌||◌, Bool, true, false, List, [], ◌∷◌, ◌++◌, length, Option, Some}
use Rattle.std.specs.List.{AllByRecursion}
use Rattle.std.specs.Map.{lookup}
use Rattle.std.specs.Str.{bytes_eq}
use Rattle.mmdb_format.specs.Contents.{text, bytes}
use Rattle.mmdb_format.specs.Unfolding.{Tree, scalar, array, table, pointer, Trees, no_trees, tree, Pairs, no_pairs, pair, Unfolds, levels, has_texts, without_pointers}
use Rattle.mmdb_check.specs.Checking.{leads_to}
use Rattle.mmdb_section.specs.declared.value.SectionPart.{SectionPart}
use Rattle.mmdb_section.specs.declared.value.SectionPart.TheVariants.{Number, At}
use Rattle.mmdb_section.specs.declared.value.WrittenValue.{WrittenValue}
use Rattle.mmdb_section.specs.declared.value.WrittenValue.TheVariants as values
use Rattle.mmdb_section.specs.Bytes.{shape_bytes}

-- ---- values of a section

-- a value of a section: where it begins, what unfolds there, and where it ends
pub record Tile : Type 0 where
  pub start : ℕ
  pub tree : Tree
  pub end : ℕ

-- each begins where the one before ends
abbrev pub IsChain : ℕ → List Tile → ℕ → Type 0
IsChain from [] to = from ≡ to
IsChain from (t ∷ ts) to = (t.start ≡ from) × IsChain t.end ts to

abbrev pub IsTile : Tile → List Tile → Type 0
IsTile t [] = ⊥
IsTile t (u ∷ us) = (t ≡ u) ⊎ IsTile t us

abbrev pub is_start : List Tile → ℕ → Bool
is_start [] q = false
is_start (t ∷ ts) q = (q == t.start) || is_start ts q

-- each pointer of the tree leads to where a value begins
abbrev pub IsClosed : List Tile → Tree → Type 0
IsClosed tiles t = (q : ℕ) → leads_to t q ≡ true → is_start tiles q ≡ true

abbrev pub is_pointer : Tree → Bool
is_pointer (pointer a t) = true
is_pointer (scalar c) = false
is_pointer (array ts) = false
is_pointer (table ps) = false

-- The value is there, whatever comes after the bytes. It is no pointer, its texts are UTF-8, its pointers lead to where values
-- begin, and with them it is at most twice as deep.
pub record IsLaid (tiles : List Tile) (bytes : List ℕ) (t : Tile) : Type 0 where
  pub unfolds : (behind : List ℕ) → Unfolds (bytes ++ behind) t.start t.tree t.end
  pub direct : is_pointer t.tree ≡ false
  pub texts : has_texts t.tree ≡ true
  pub closed : IsClosed tiles t.tree
  pub levels : levels t.tree ≤ 2 * levels (without_pointers t.tree)

-- the bytes are these values and nothing else
pub record AreTiles (tiles : List Tile) (bytes : List ℕ) : Type 0 where
  pub chain : IsChain 0 tiles (length bytes)
  pub each : AllByRecursion (IsLaid tiles bytes) tiles

-- what contracts see of a section: its bytes, and of each value that was added its bytes and where it begins
pub record SectionView : Type 0 where
  pub bytes : List ℕ
  pub added : List (List ℕ × ℕ)

-- where the value of a shape begins, if it was added
abbrev pub start_of : SectionView → Shape → Option ℕ
start_of section shape = lookup (bytes_eq (shape_bytes shape)) section.added

-- The section has these values, among them those that were added.
pub record IsSection (tiles : List Tile) (section : SectionView) : Type 0 where
  pub are : AreTiles tiles section.bytes
  pub known : (shape : Shape) (offset : ℕ) → start_of section shape ≡ Some offset → is_start tiles offset ≡ true

-- ---- values that are put into a section

-- a part stands for a number, or for the value that begins at its offset, pointers dropped
abbrev pub IsPart : List Tile → SectionPart → Tree → Type 0
IsPart tiles (Number n) v = v ≡ scalar (scalar_of n)
IsPart tiles (At offset) v = (t : Tile) × IsTile t tiles × (t.start ≡ offset) × (without_pointers t.tree ≡ v)

abbrev pub AreParts : List Tile → List SectionPart → Trees → Type 0
AreParts tiles [] no_trees = Unit {0}
AreParts tiles [] (tree v vs) = ⊥
AreParts tiles (p ∷ ps) no_trees = ⊥
AreParts tiles (p ∷ ps) (tree v vs) = IsPart tiles p v × AreParts tiles ps vs

abbrev pub ArePairs : List Tile → List (SectionPart × SectionPart) → Pairs → Type 0
ArePairs tiles [] no_pairs = Unit {0}
ArePairs tiles [] (pair k v vs) = ⊥
ArePairs tiles (p ∷ ps) no_pairs = ⊥
ArePairs tiles (p ∷ ps) (pair k v vs) = IsPart tiles p.0 k × IsPart tiles p.1 v × ArePairs tiles ps vs

-- the tree of a value whose parts stand for these of the section
abbrev pub IsValue : List Tile → WrittenValue → Tree → Type 0
IsValue tiles (values.Text x) v = v ≡ scalar (text x.now)
IsValue tiles (values.Bytes x) v = v ≡ scalar (bytes x.now)
IsValue tiles (values.Number n) v = v ≡ scalar (scalar_of n)
IsValue tiles (values.Array parts) v = (vs : Trees) × AreParts tiles parts.now vs × (v ≡ array vs)
IsValue tiles (values.Map pairs) v = (vs : Pairs) × ArePairs tiles pairs.now vs × (v ≡ table vs)

-- it begins at the offset, and is the tree with its pointers dropped
abbrev pub IsFor : Tree → ℕ → Tile → Type 0
IsFor v offset t = (t.start ≡ offset) × (without_pointers t.tree ≡ v)

-- The section has these values, and perhaps more, and the part stands for the tree.
pub record Holds (tiles : List Tile) (v : Tree) (section : SectionView) (part : SectionPart) : Type 0 where
  pub more : List Tile
  pub has : IsSection (tiles ++ more) section
  pub is_part : IsPart (tiles ++ more) part v

-- The section has these values, and perhaps this one more, which begins at the offset.
pub record HoldsAt (tiles : List Tile) (v : Tree) (section : SectionView) (offset : ℕ) : Type 0 where
  pub holds : Holds tiles v section (At offset)
  pub only : AllByRecursion (IsFor v offset) holds.more

-- ---- sizes

-- the greatest size that a header can have ("Data Field Format", payload size)
abbrev pub most_size : ℕ
most_size = 16843036

-- how many bytes, parts or pairs a value has
abbrev pub size_of : WrittenValue → ℕ
size_of (values.Text x) = length x.now
size_of (values.Bytes x) = length x.now
size_of (values.Number n) = 0
size_of (values.Array parts) = length parts.now
size_of (values.Map pairs) = length pairs.now

-- a header cannot have its size, or a pointer cannot have its offset
abbrev pub IsTooLarge : SectionView → WrittenValue → Type 0
IsTooLarge section value = (most_size < size_of value) ⊎ (2 ^ 32 ≤ length section.bytes)
