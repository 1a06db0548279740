-- The mark that some texts in UTF-8 begin with, before the first row.
use Rattle.std.specs.Prelude.{◌≡◌, ℕ, List, [], ◌∷◌, length, drop, Option, Some, IfSome, Bool, false, ◌==◌, if◌then◌else◌}
use Rattle.std.specs.Io.KnownBytes.{Appends}

abbrev pub mark : List ℕ
mark = 239 ∷ (187 ∷ (191 ∷ []))

-- the first of some bytes is this one
abbrev pub begins_with : ℕ → List ℕ → Bool
begins_with byte [] = false
begins_with byte (x ∷ xs) = x == byte

-- the first bytes of a text as far as they are those of the mark, of which this is left
abbrev pub mark_of : List ℕ → List ℕ → List ℕ
mark_of [] xs = []
mark_of (m ∷ ms) [] = []
mark_of (m ∷ ms) (x ∷ xs) = if x == m then x ∷ mark_of ms xs else []

-- Where the bytes of the input are known, it lost the mark that it began with, or its beginning, and known output grew by it.
abbrev pub IsMarkCopied : Option (List ℕ) → Option (List ℕ) → Option (List ℕ) → Option (List ℕ) → Type 0
IsMarkCopied input left old new =
    IfSome input (λ xs. (left ≡ Some (drop (length (mark_of mark xs)) xs)) × Appends old new (mark_of mark xs))
