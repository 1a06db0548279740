-- What contracts of private functions and proofs name.
pub use Rattle.mmdb_section.specs.Encoding.{Appends, Stands, IsHeader, IsScalar, IsText}
use Rattle.std.specs.Prelude.{◌≡◌, ℕ, ◌+◌, ◌*◌, ◌≤◌, List, ◌++◌, length, map, true, false, Some, Vec}
use Rattle.std.specs.Global.{Global}
use Rattle.std.specs.BTreeMap.{BTreeMap}
use Rattle.std.specs.Map.{lookup}
use Rattle.std.specs.Str.{bytes_eq}
use Rattle.mmdb_format.specs.Header.{big_endian, bytes_at, size_at, sized_header, header_at}
use Rattle.mmdb_format.specs.Pointer.{pointer_at}
use Rattle.mmdb_format.specs.Unfolding.{Tree, array, table, Trees, Pairs, Unfolds, AllUnfold, PairsUnfold, levels, trees_all_levels, pairs_all_levels, has_texts, trees_texts, pairs_texts, without_pointers, trees_without, pairs_without}
use Rattle.mmdb_check.specs.Checking.{trees_lead_to, pairs_lead_to}
use Rattle.mmdb_section.specs.declared.value.SectionPart.{SectionPart}
use Rattle.mmdb_section.specs.declared.value.WrittenValue.{WrittenValue}
use Rattle.mmdb_section.specs.Sections.{Tile, IsClosed, is_start, is_pointer, AreTiles, IsPart, AreParts, ArePairs, IsValue}

-- new is old with more at its end
abbrev pub Grows : List ℕ → List ℕ → Type 0
Grows old new = (more : List ℕ) × (new ≡ old ++ more)

-- ---- bytes, wherever they are

-- they are the control byte of this type with these low bits, and the byte of an extended type
abbrev pub IsControl : ℕ → ℕ → List ℕ → Type 0
IsControl kind low bytes = Stands (λ s p q. header_at s p ≡ sized_header s q kind low) bytes

-- they are this size, after a control byte with these low bits
abbrev pub IsSize : ℕ → ℕ → List ℕ → Type 0
IsSize low size bytes = Stands (λ s p q. size_at s p low ≡ Some (size, q)) bytes

-- they are a pointer to this offset
pub record IsPointer (target : ℕ) (bytes : List ℕ) : Type 0 where
  pub low : ℕ
  pub header : Stands (λ s p q. header_at s p ≡ Some (record { kind = 1; size = low; body = p + 1 })) bytes
  pub leads : Stands (λ s p q. pointer_at s (p + 1) low ≡ Some (record { target = target; next = q })) bytes

-- they are a header of this type and a content, which has its size
abbrev pub SizedAt : ℕ → List ℕ → List ℕ → ℕ → ℕ → Type 0
SizedAt kind content s p q = (body : ℕ) × (header_at s p ≡ Some (record { kind = kind; size = length content; body = body })) × (bytes_at s body (length content) ≡ Some content) × (body + length content ≡ q)

abbrev pub IsSized : ℕ → List ℕ → List ℕ → Type 0
IsSized kind content bytes = Stands (SizedAt kind content) bytes

-- they are so of a content that is the same number as these bytes, and no longer
abbrev pub IsInteger : ℕ → List ℕ → List ℕ → Type 0
IsInteger kind wide bytes = (content : List ℕ) × IsSized kind content bytes × (big_endian content ≡ big_endian wide) × (length content ≤ length wide)

-- After the bytes of a section, at any distance, and in them, they are a value whose pointers lead into the section.
pub record IsWritten (tiles : List Tile) (section : List ℕ) (v : Tree) (bytes : List ℕ) : Type 0 where
  pub t : Tree
  pub unfolds : (before behind : List ℕ) → Grows section (before ++ (bytes ++ behind)) → Unfolds (before ++ (bytes ++ behind)) (length before) t (length before + length bytes)
  pub value : without_pointers t ≡ v
  pub texts : has_texts t ≡ true
  pub closed : IsClosed tiles t
  pub levels : levels t ≤ 1 + 2 * levels v

-- and no pointer itself
pub record IsWrittenDirect (tiles : List Tile) (section : List ℕ) (v : Tree) (bytes : List ℕ) : Type 0 where
  pub written : IsWritten tiles section v bytes
  pub direct : is_pointer written.t ≡ false
  pub levels : levels written.t ≤ 2 * levels v

abbrev pub WritesPart : SectionPart → List ℕ → Type 0
WritesPart part bytes = (tiles : List Tile) (section : List ℕ) (v : Tree) → AreTiles tiles section → IsPart tiles part v → IsWritten tiles section v bytes

-- The same of values one after the other, and of pairs.
pub record AreWritten (tiles : List Tile) (section : List ℕ) (n : ℕ) (vs : Trees) (bytes : List ℕ) : Type 0 where
  pub ts : Trees
  pub unfolds : (before behind : List ℕ) → Grows section (before ++ (bytes ++ behind)) → AllUnfold (before ++ (bytes ++ behind)) (length before) n ts (length before + length bytes)
  pub value : trees_without ts ≡ vs
  pub levels : trees_all_levels ts ≤ 1 + 2 * trees_all_levels vs
  pub texts : trees_texts ts ≡ true
  pub closed : (q : ℕ) → trees_lead_to ts q ≡ true → is_start tiles q ≡ true

pub record ArePairsWritten (tiles : List Tile) (section : List ℕ) (n : ℕ) (vs : Pairs) (bytes : List ℕ) : Type 0 where
  pub ps : Pairs
  pub unfolds : (before behind : List ℕ) → Grows section (before ++ (bytes ++ behind)) → PairsUnfold (before ++ (bytes ++ behind)) (length before) n ps (length before + length bytes)
  pub value : pairs_without ps ≡ vs
  pub levels : pairs_all_levels ps ≤ 1 + 2 * pairs_all_levels vs
  pub texts : pairs_texts ps ≡ true
  pub closed : (q : ℕ) → pairs_lead_to ps q ≡ true → is_start tiles q ≡ true

abbrev pub WritesParts : List SectionPart → List ℕ → Type 0
WritesParts parts bytes = (tiles : List Tile) (section : List ℕ) (vs : Trees) → AreTiles tiles section → AreParts tiles parts vs → AreWritten tiles section (length parts) vs bytes

abbrev pub WritesPairs : List (SectionPart × SectionPart) → List ℕ → Type 0
WritesPairs pairs bytes = (tiles : List Tile) (section : List ℕ) (vs : Pairs) → AreTiles tiles section → ArePairs tiles pairs vs → ArePairsWritten tiles section (length pairs) vs bytes

abbrev pub WritesArray : List SectionPart → List ℕ → Type 0
WritesArray parts bytes = (tiles : List Tile) (section : List ℕ) (vs : Trees) → AreTiles tiles section → AreParts tiles parts vs → IsWrittenDirect tiles section (array vs) bytes

abbrev pub WritesMap : List (SectionPart × SectionPart) → List ℕ → Type 0
WritesMap pairs bytes = (tiles : List Tile) (section : List ℕ) (vs : Pairs) → AreTiles tiles section → ArePairs tiles pairs vs → IsWrittenDirect tiles section (table vs) bytes

abbrev pub WritesValue : WrittenValue → List ℕ → Type 0
WritesValue value bytes = (tiles : List Tile) (section : List ℕ) (v : Tree) → AreTiles tiles section → IsValue tiles value v → IsWrittenDirect tiles section v bytes

-- ---- values that are in a section already

-- The bytes are among others from an offset on.
pub record StandAt (bytes : List ℕ) (start : ℕ) (value : List ℕ) : Type 0 where
  pub before : List ℕ
  pub behind : List ℕ
  pub whole : bytes ≡ before ++ (value ++ behind)
  pub start_is : length before ≡ start

-- the entries of a map, with the bytes of its keys
abbrev pub added_in : BTreeMap (Vec ℕ Global) ℕ → List (List ℕ × ℕ)
added_in known = map (λ e. (e.0.items, e.1)) known.entries

-- Values begin where the map says it.
abbrev pub AreStarts : List ℕ → BTreeMap (Vec ℕ Global) ℕ → Type 0
AreStarts bytes known = (value : List ℕ) (start : ℕ) → lookup (bytes_eq value) (added_in known) ≡ Some start → StandAt bytes start value
