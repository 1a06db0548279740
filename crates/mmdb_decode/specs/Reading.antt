-- What a reading gives: a value, the offset after it, and what it costs after the first value.
use Rattle.std.specs.Prelude.{ℕ, ◌+◌, List, Option, Some}
use Rattle.mmdb_format.specs.Header.{◌>>=◌}

pub record Reading (A : Type 0) : Type 0 where
  pub value : A
  pub next : ℕ
  pub values : ℕ
  pub bytes : ℕ

-- what is in a section at an offset, below a number of levels
abbrev pub Meaning : Type 0 → Type 0
Meaning A = List ℕ → ℕ → ℕ → Option (Reading A)

-- one after the other: the costs add up
abbrev pub plus : {A B : Type 0} → Reading A → Reading B → Reading B
plus x y = record { value = y.value; next = y.next; values = x.values + y.values; bytes = x.bytes + y.bytes }

abbrev pub followed : {A B : Type 0} → Meaning A → (A → Meaning B) → Meaning B
followed f g s p d = f s p d >>= λ x. g x.value s x.next d >>= λ y. Some (plus x y)

-- nothing is read
abbrev pub given : {A : Type 0} → A → Meaning A
given v s p d = Some (record { value = v; next = p; values = 0; bytes = 0 })

-- another value in place of the one that was read
abbrev pub mapped : {A B : Type 0} → (A → B) → Meaning A → Meaning B
mapped f read s p d = read s p d >>= λ r. Some (record { value = f r.value; next = r.next; values = r.values; bytes = r.bytes })

-- a value that is tested before it is taken
abbrev pub checked : {A B : Type 0} → (A → Option B) → Meaning A → Meaning B
checked f read s p d = read s p d >>= λ r. f r.value >>= λ y. Some (record { value = y; next = r.next; values = r.values; bytes = r.bytes })
