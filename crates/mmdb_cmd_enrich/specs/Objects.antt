-- Which objects are too long.
use Rattle.std.specs.Prelude.{◌≡◌, ◌⊎◌, ℕ, ◌<◌, List, length, Bool, true, if◌then◌else◌}
use Rattle.mmdb_filter.specs.Lines.{most_seen}

-- how many bytes of an object are seen at most
abbrev pub object_most : Bool → ℕ
object_most reads_long = if reads_long then 1048576 else most_seen

-- A line is too long: it goes on, or it has more bytes than are mostly seen.
abbrev pub IsTooLong : List ℕ → Bool → Type 0
IsTooLong text goes_on = (goes_on ≡ true) ⊎ (most_seen < length text)
