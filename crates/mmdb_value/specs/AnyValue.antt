-- Any value: what is read at an offset within a number of levels.
use Rattle.std.specs.Prelude.{ℕ, zero, suc, ◌+◌, ◌-◌, ◌*◌, List, [], ◌∷◌, Option, Some, None, Bool, ◌||◌, not, nat_eq, if◌then◌else◌}
use Rattle.std.specs.Str.{is_utf8}
use Rattle.mmdb_format.specs.declared.header.Header.{Header}
use Rattle.mmdb_format.specs.declared.header.Pointer.{Pointer}
use Rattle.mmdb_format.specs.Header.{◌>>=◌, header_at}
use Rattle.mmdb_format.specs.Pointer.{pointer_at, most_levels}
use Rattle.mmdb_format.specs.Contents.{Scalar, text, scalar_is_text}
use Rattle.mmdb_format.specs.Unfolding.{Tree, scalar, array, table, Trees, no_trees, tree, Pairs, no_pairs, pair}
use Rattle.mmdb_decode.specs.Reading.{Reading, Meaning, mapped, checked, followed}
use Rattle.mmdb_decode.specs.Arrays.{elements}
use Rattle.mmdb_decode.specs.Maps.{raw_key_at}
use Rattle.mmdb_decode.specs.Levels.{content_of}

abbrev pub trees_of : List Tree → Trees
trees_of [] = no_trees
trees_of (t ∷ ts) = tree t (trees_of ts)

abbrev pub pairs_of : List (List ℕ × Tree) → Pairs
pairs_of [] = no_pairs
pairs_of (x ∷ xs) = pair (scalar (text x.0)) x.1 (pairs_of xs)

abbrev pub array_of : List Tree → Tree
array_of ts = array (trees_of ts)

abbrev pub table_of : List (List ℕ × Tree) → Tree
table_of xs = table (pairs_of xs)

-- texts are tested for UTF-8, or taken as bytes
abbrev pub if_utf8 : Bool → List ℕ → Option (List ℕ)
if_utf8 tested x = if not tested || is_utf8 x then Some x else None

abbrev pub if_scalar_text : Bool → Scalar → Option Scalar
if_scalar_text tested c = if not tested || scalar_is_text c then Some c else None

-- a map's key, charged in full
abbrev pub key_at : Bool → Meaning (List ℕ)
key_at tested = checked (if_utf8 tested) raw_key_at

-- a value that holds no other, after a header
abbrev pub scalar_of : Bool → Header → Meaning Tree
scalar_of tested header = mapped scalar (checked (if_scalar_text tested) (content_of header))

-- a key and its value
abbrev pub pair_at : Bool → Meaning Tree → Meaning (List ℕ × Tree)
pair_at tested read = followed (key_at tested) (λ k. mapped (λ v. (k, v)) read)

-- what a container's parts make of it, at a cost of its own
abbrev pub container : {A : Type 0} → (List A → Tree) → ℕ → Reading (List A) → Reading Tree
container f count r = record { value = f r.value; next = r.next; values = count + r.values; bytes = r.bytes }

-- a pointer says what its target does, and ends after its own bytes
abbrev pub behind_pointer : Meaning Tree → List ℕ → Pointer → Option (Reading Tree)
behind_pointer read s to =
    read s to.target 0 >>= λ r. Some (record { value = r.value; next = to.next; values = r.values; bytes = r.bytes })

abbrev pub nested : Bool → Meaning Tree → List ℕ → Header → Option (Reading Tree)
nested tested read s header =
    if nat_eq header.kind 1 then (pointer_at s header.body header.size >>= behind_pointer read s)
    else (if nat_eq header.kind 11 then (elements read header.size s header.body 0 >>= λ r. Some (container array_of header.size r))
    else (if nat_eq header.kind 7 then (elements (pair_at tested read) header.size s header.body 0 >>= λ r. Some (container table_of (2 * header.size) r))
    else scalar_of tested header s header.body 0))

-- within n more levels
unfoldable pub value_within : Bool → ℕ → Meaning Tree
value_within tested zero s p d = header_at s p >>= λ header. scalar_of tested header s header.body 0
value_within tested (suc n) s p d = header_at s p >>= nested tested (value_within tested n) s

-- any value, below d levels, its texts tested or not
unfoldable pub value_at : Bool → Meaning Tree
value_at tested s p d = value_within tested (most_levels - d) s p 0
