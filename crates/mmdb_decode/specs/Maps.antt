-- Maps and their keys ("Data Field Format", map - 7).
use Rattle.std.specs.Prelude.{◌≡◌, ℕ, zero, suc, ◌+◌, ◌-◌, ◌*◌, ◌<◌, List, [], length, Option, Some, None, true, false, unwrap_or, Result, Ok, Err}
use Rattle.std.specs.Borrow.{Bor}
use Rattle.std.specs.BTreeMap.{insert_entry}
use Rattle.std.specs.Cmp.Lexicographic.{slice_cmp}
use Rattle.std.specs.Ordering.{nat_cmp}
use Rattle.mmdb_format.specs.Header.{◌>>=◌}
use Rattle.mmdb_format.specs.Contents.{key_bytes_at}
use Rattle.mmdb_decode.specs.declared.direct.Entered.{Entered}
use Rattle.mmdb_decode.specs.declared.items.Entries.{Entries}
use Rattle.mmdb_decode.specs.Reading.{Reading, Meaning, given, followed, mapped, checked}
use Rattle.mmdb_decode.specs.State.{State, spent_of, begun, decoded, Within, GivenUp}
use Rattle.mmdb_decode.specs.Scalars.{if_text}
use Rattle.mmdb_decode.specs.Arrays.{container_at}

-- a key, some of whose first bytes are free
unfoldable pub key_past : ℕ → Meaning (List ℕ)
key_past free s p d =
    key_bytes_at s p >>= λ key.
    Some (record { value = key.0; next = key.1; values = 0; bytes = length key.0 - free })

-- the first bytes of a field's name are free
abbrev pub free_name_bytes : ℕ
free_name_bytes = 32

-- a field's name
abbrev pub name_at : Meaning (List ℕ)
name_at = key_past free_name_bytes

-- a key that is charged in full, tested for UTF-8 or not
abbrev pub raw_key_at : Meaning (List ℕ)
raw_key_at = key_past 0

abbrev pub key_at : Meaning (List ℕ)
key_at = checked if_text raw_key_at

abbrev pub map_at : List ℕ → ℕ → ℕ → Option Entered
map_at = container_at 7

-- the whole map ends where its last pair does, or after the pointer that led to it; each key and each
-- value is a value
abbrev pub whole_map : {A : Type 0} → Entered → Reading A → Reading A
whole_map at r = record { value = r.value; next = unwrap_or at.after r.next; values = 2 * at.count + r.values; bytes = r.bytes }

-- a map of a number of pairs, which are read one after the other
unfoldable pub in_map : {A : Type 0} → (ℕ → Meaning A) → Meaning A
in_map pairs s p d = map_at s p d >>= λ at. pairs at.count s at.body at.levels >>= λ r. Some (whole_map at r)

-- what a key, with the value after it, makes of what was read so far
abbrev pub Fields : Type 0 → Type 0
Fields P = P → List ℕ → Meaning P

-- this many pairs, one after the other
abbrev pub pairs_from : {P : Type 0} → Meaning (List ℕ) → Fields P → P → ℕ → Meaning P
pairs_from key fields p zero = given p
pairs_from key fields p (suc n) = followed key (λ name. followed (fields p name) (λ q. pairs_from key fields q n))

-- what contracts see of a map that is being read: how many pairs are left, the same with this many left, and the levels
-- before it
abbrev pub pairs_left : Entries → ℕ
pairs_left entries = entries.remaining

abbrev pub with_pairs_left : ℕ → Entries → Entries
with_pairs_left n entries = record entries { remaining = n }

abbrev pub levels_before_map : Entries → ℕ
levels_before_map entries = entries.levels

-- a map that a decoder enters, with what is left of it
unfoldable pub entered_map : State → Option (Entries × State)
entered_map σ =
    map_at σ.section σ.offset σ.levels >>= λ at.
    spent_of (begun true σ.budget) (2 * at.count) 0 >>= λ left.
    Some (record { remaining = at.count; after = at.after; levels = σ.levels }, record { section = σ.section; offset = at.body; levels = at.levels; budget = left })

-- the decoder after a map
abbrev pub left_map : Entries → State → State
left_map entries σ = record { section = σ.section; offset = unwrap_or entries.after σ.offset; levels = entries.levels; budget = σ.budget }

-- what the step to the next key did: it read the key, nothing was left, or no key is there
pub record KeyRead (read : Meaning (List ℕ)) (old new : State) (before after : Entries) (key : List ℕ) : Type 0 where
  pub step : decoded false read old ≡ Some (key, new)
  pub one : pairs_left before ≡ pairs_left after + 1

pub record NoneLeft (old new : State) (before after : Entries) : Type 0 where
  pub none : pairs_left before ≡ 0
  pub spent : pairs_left after ≡ 0
  pub same : new ≡ old
  pub within : Within new.budget

pub record NoKey (read : Meaning (List ℕ)) (old new : State) (before : Entries) : Type 0 where
  pub some : 0 < pairs_left before
  pub fails : decoded false read old ≡ None
  pub given_up : GivenUp old new

abbrev pub NextKey : {E : Type 0} → Meaning (List ℕ) → State → State → Entries → Entries → Result (Option (Bor (List ℕ))) E → Type 0
NextKey read old new before after (Ok None) = NoneLeft old new before after
NextKey read old new before after (Ok (Some key)) = KeyRead read old new before after key.now
NextKey read old new before after (Err e) = NoKey read old new before

-- a pair takes the place of one with an equal key
abbrev pub put : {A : Type 0} → List (List ℕ × A) → List ℕ → A → List (List ℕ × A)
put = insert_entry (slice_cmp nat_cmp)

abbrev pub pair_of : {A : Type 0} → Meaning A → Fields (List (List ℕ × A))
pair_of read p key = mapped (λ v. put p key v) read

-- a map whose keys are text, in the order of its keys; of equal keys the later value stays
abbrev pub text_map_at : {A : Type 0} → Meaning A → Meaning (List (List ℕ × A))
text_map_at read = in_map (λ n. pairs_from key_at (pair_of read) [] n)
