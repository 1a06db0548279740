-- Sets of offsets, and the offsets of one, ascending.
use Rattle.std.specs.Prelude.{◌≡◌, ℕ, suc, ◌<◌, ◌≤◌, ◌==◌, ◌/◌, ◌%◌, List, [], ◌∷◌, ◌++◌, Bool, true, false, if◌then◌else◌, map, slice_index, slice_index_or}
use Rattle.std.specs.Int.{bit_at}
use Rattle.std.specs.List.{range_with_len}

-- whether an offset is in a set, which is a list of answers for the offsets 0, 1 and so on
abbrev pub holds : List Bool → ℕ → Bool
holds set q = slice_index_or set q false

-- those of a set of which this many offsets are known not to come
abbrev pub offsets_from : ℕ → List Bool → List ℕ
offsets_from first [] = []
offsets_from first (x ∷ set) = (if x then first ∷ [] else []) ++ offsets_from (suc first) set

abbrev pub offsets_of : List Bool → List ℕ
offsets_of set = offsets_from 0 set

-- the set of those offsets below n whose bits are 1 in words of 64 bits
unfoldable pub set_of : List ℕ → ℕ → List Bool
set_of words n = map (λ q. bit_at (slice_index words (q / 64)) (q % 64) == 1) (range_with_len 0 n)

-- no offset from the first on is in a set
abbrev pub HasNoneFrom : List Bool → ℕ → Type 0
HasNoneFrom set first = (q : ℕ) → first ≤ q → holds set q ≡ false

-- an offset is the first of a set from another on
pub record IsNext (set : List Bool) (first offset : ℕ) : Type 0 where
  pub after : first ≤ offset
  pub is : holds set offset ≡ true
  pub least : (q : ℕ) → first ≤ q → q < offset → holds set q ≡ false

-- no bit of a word is 1 from this one on
abbrev pub HasNoBit : ℕ → ℕ → Type 0
HasNoBit word from = (k : ℕ) → from ≤ k → k < 64 → bit_at word k ≡ 0

-- a bit is the lowest of a word that is 1, from another on
pub record IsLowest (word from bit : ℕ) : Type 0 where
  pub after : from ≤ bit
  pub inside : bit < 64
  pub one : bit_at word bit ≡ 1
  pub least : (k : ℕ) → from ≤ k → k < bit → bit_at word k ≡ 0
