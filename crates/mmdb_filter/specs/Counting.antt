-- How many lines fared so.
use Rattle.std.specs.Prelude.{ℕ, ◌+◌}
use Rattle.mmdb_filter.specs.declared.counts.Counts.{Counts}
use Rattle.mmdb_filter.specs.declared.counts.Outcome.{Outcome}
use Rattle.mmdb_filter.specs.declared.counts.Outcome.TheVariants.{Found, Absent, Unreadable, Malformed, TooLong, Failed, Occupied}

abbrev pub nothing_counted : Counts
nothing_counted = record { found = 0; absent = 0; unreadable = 0; malformed = 0; too_long = 0; rejected = 0; occupied = 0 }

abbrev pub count_one : Counts → Outcome → Counts
count_one c Found = record c { found = c.found + 1 }
count_one c Absent = record c { absent = c.absent + 1 }
count_one c Unreadable = record c { unreadable = c.unreadable + 1 }
count_one c Malformed = record c { malformed = c.malformed + 1 }
count_one c TooLong = record c { too_long = c.too_long + 1 }
count_one c Failed = record c { rejected = c.rejected + 1 }
count_one c Occupied = record c { occupied = c.occupied + 1 }

-- how many lines
abbrev pub total : Counts → ℕ
total c = c.found + (c.absent + (c.unreadable + (c.malformed + (c.too_long + (c.rejected + c.occupied)))))
