-- What a filter over rows writes: each row whole, and before its last bytes what is added to it.
use Rattle.std.specs.Prelude.{◌≡◌, ℕ, ◌-◌, ◌<◌, ◌≤◌, List, [], ◌∷◌, ◌++◌, length, take, drop, get_or, Option, Some, IfSome, ◌&&◌, ◌==◌, nat_lt, if◌then◌else◌, Bool, true}
use Rattle.std.specs.Io.KnownBytes.{Appends}
use Rattle.mmdb_filter.specs.Counting.{count_one}
use Rattle.mmdb_filter.specs.Rows.{row_from, rows_after}
use Rattle.mmdb_filter.specs.declared.counts.Counts.{Counts}
use Rattle.mmdb_filter.specs.declared.counts.Outcome.{Outcome}
use Rattle.mmdb_filter.specs.declared.rows.Rows.{Rows}
use Rattle.mmdb_filter.specs.declared.rows.RowPosition.TheVariants.{Cell}

-- the length of a row without its end, `\n` or `\r\n`
unfoldable pub text_length : List ℕ → ℕ
text_length row =
    if nat_lt 0 (length row) && (get_or row (length row - 1) 0 == 10)
    then (if nat_lt 1 (length row) && (get_or row (length row - 2) 0 == 13) then length row - 2 else length row - 1)
    else length row

abbrev pub text_of : List ℕ → List ℕ
text_of row = take (text_length row) row

-- a row without its last bytes: its end, and `behind` bytes of its text
abbrev pub front_of : List ℕ → ℕ → List ℕ
front_of row behind = take (text_length row - behind) row

-- those last bytes
abbrev pub back_of : List ℕ → ℕ → List ℕ
back_of row behind = drop (text_length row - behind) row

-- how many bytes of a text additions mostly see
unfoldable pub most_seen : ℕ
most_seen = 65536

-- what is seen of the text of a row, of which so many bytes are seen at most
abbrev pub seen_of : ℕ → List ℕ → List ℕ
seen_of most row = take most (text_of row)

abbrev pub is_long : ℕ → List ℕ → Bool
is_long most row = nat_lt most (length (text_of row))

-- a row with its end, what is added to it, how many bytes of its text follow that, and how it fared
pub record Line : Type 0 where
  pub bytes : List ℕ
  pub extra : List ℕ
  pub behind : ℕ
  pub outcome : Outcome

-- What additions may do: to a row of which they see such a text, so many bytes at most, and whether it is longer, they add
-- such bytes, after which that number of bytes of the text follows, with that outcome.
pub record MayAdd : Type 1 where
  pub most : ℕ
  pub adds : List ℕ → Bool → List ℕ → ℕ → Outcome → Type 0

-- The bytes that follow are of the text that is seen; none of a text that is longer.
abbrev pub StandsBehind : List ℕ → Bool → ℕ → Type 0
StandsBehind text is_long behind = (behind ≤ length text) × (is_long ≡ true → behind ≡ 0)

-- This may be added to the row.
abbrev pub IsAdded : MayAdd → List ℕ → List ℕ → ℕ → Outcome → Type 0
IsAdded Adds row extra behind outcome =
    Adds.adds (seen_of Adds.most row) (is_long Adds.most row) extra behind outcome × StandsBehind (seen_of Adds.most row) (is_long Adds.most row) behind

-- These are the first rows of the bytes, in order, each with what is added, and this is left of the bytes.
abbrev pub AreLines : Rows → MayAdd → List Line → List ℕ → List ℕ → Type 0
AreLines rows Adds [] xs left = left ≡ xs
AreLines rows Adds (line ∷ lines) xs left =
    (0 < length xs) × (line.bytes ≡ row_from rows Cell xs) × IsAdded Adds line.bytes line.extra line.behind line.outcome
    × AreLines rows Adds lines (rows_after rows Cell xs) left

-- a row as it is written: what is added comes before its end, and before `behind` bytes of its text
abbrev pub row_with : List ℕ → List ℕ → ℕ → List ℕ
row_with bytes extra behind = front_of bytes behind ++ (extra ++ back_of bytes behind)

abbrev pub written : List Line → List ℕ
written [] = []
written (line ∷ lines) = row_with line.bytes line.extra line.behind ++ written lines

-- the counts with these rows
abbrev pub counted : Counts → List Line → Counts
counted counts [] = counts
counted counts (line ∷ lines) = counted (count_one counts line.outcome) lines

-- known bytes grow by a beginning of the text
abbrev pub AppendsFront : Option (List ℕ) → Option (List ℕ) → List ℕ → Type 0
AppendsFront old new text = (front rest : List ℕ) × (text ≡ front ++ rest) × Appends old new front

-- Where the bytes of the input are known, it lost its first rows, known output grew by these, each with what is added,
-- and the counts are those before with theirs.
abbrev pub IsFiltered : Rows → MayAdd → Option (List ℕ) → Option (List ℕ) → Option (List ℕ) → Option (List ℕ) → Counts → Counts → Type 0
IsFiltered rows Adds input left old new before counts =
    IfSome input (λ xs. (ys : List ℕ) × (lines : List Line) × (left ≡ Some ys) × AreLines rows Adds lines xs ys × Appends old new (written lines) × (counts ≡ counted before lines))

-- There known output grew by a beginning of its first rows, each with what is added.
abbrev pub IsBegun : Rows → MayAdd → Option (List ℕ) → Option (List ℕ) → Option (List ℕ) → Type 0
IsBegun rows Adds input old new =
    IfSome input (λ xs. (left : List ℕ) × (lines : List Line) × AreLines rows Adds lines xs left × AppendsFront old new (written lines))
