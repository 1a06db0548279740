-- Arrays ("Data Field Format", array - 11), and containers that are entered.
use Rattle.std.specs.Prelude.{ℕ, zero, suc, ◌+◌, List, [], ◌∷◌, Option, Some, None, true, nat_eq, nat_le, nat_lt, if◌then◌else◌, unwrap_or}
use Rattle.mmdb_format.specs.Header.{◌>>=◌}
use Rattle.mmdb_format.specs.Pointer.{most_levels}
use Rattle.mmdb_decode.specs.declared.direct.Entered.{Entered}
use Rattle.mmdb_decode.specs.declared.items.Items.{Items}
use Rattle.mmdb_decode.specs.State.{State, spent_of, begun}
use Rattle.mmdb_decode.specs.Reading.{Reading, Meaning, given, followed, mapped}
use Rattle.mmdb_decode.specs.Scalars.{direct_of}

-- A container of one type that is entered, which is one level: how many parts its header says, where
-- they begin, and the offset after a pointer that led to it.
unfoldable pub container_at : ℕ → List ℕ → ℕ → ℕ → Option Entered
container_at kind s p d =
    direct_of kind s p d >>= λ at.
    if nat_lt at.levels most_levels
    then Some (record { count = at.header.size; body = at.header.body; after = at.after; levels = at.levels + 1 }) else None

abbrev pub array_at : List ℕ → ℕ → ℕ → Option Entered
array_at = container_at 11

-- this many elements, one after the other
abbrev pub elements : {A : Type 0} → Meaning A → ℕ → Meaning (List A)
elements read zero = given []
elements read (suc n) = followed read (λ v. mapped (λ vs. v ∷ vs) (elements read n))

-- the whole array ends where its last element does, or after the pointer that led to it; each element
-- is a value
abbrev pub whole_array : {A : Type 0} → Entered → Reading A → Reading A
whole_array at r = record { value = r.value; next = unwrap_or at.after r.next; values = at.count + r.values; bytes = r.bytes }

-- a list: an array whose elements are all read by one meaning
unfoldable pub list_at : {A : Type 0} → Meaning A → Meaning (List A)
list_at read s p d =
    array_at s p d >>= λ at. elements read at.count s at.body at.levels >>= λ r. Some (whole_array at r)

-- a list of at most this many elements
unfoldable pub few_at : {A : Type 0} → ℕ → Meaning A → Meaning (List A)
few_at most read s p d = array_at s p d >>= λ at. if nat_le at.count most then list_at read s p d else None

-- what contracts see of an array that is being read: how many elements are left, the same with this many left, and the
-- levels before it
abbrev pub items_left : Items → ℕ
items_left items = items.remaining

abbrev pub with_items_left : ℕ → Items → Items
with_items_left n items = record items { remaining = n }

-- the elements that are left
abbrev pub elements_left : {A : Type 0} → Meaning A → Items → Meaning (List A)
elements_left read items = elements read (items_left items)

abbrev pub levels_before_array : Items → ℕ
levels_before_array items = items.levels

-- an array that a decoder enters, with what is left of it
unfoldable pub entered_array : State → Option (Items × State)
entered_array σ =
    array_at σ.section σ.offset σ.levels >>= λ at.
    spent_of (begun true σ.budget) at.count 0 >>= λ left.
    Some (record { remaining = at.count; after = at.after; levels = σ.levels }, record { section = σ.section; offset = at.body; levels = at.levels; budget = left })

-- an array of a given number of elements
abbrev pub if_sized : ℕ → Items × State → Option (Items × State)
if_sized len x = if nat_eq x.0.remaining len then Some x else None

abbrev pub entered_array_of : ℕ → State → Option (Items × State)
entered_array_of len σ = entered_array σ >>= if_sized len

-- the decoder after an array
abbrev pub left_array : Items → State → State
left_array items σ = record { section = σ.section; offset = unwrap_or items.after σ.offset; levels = items.levels; budget = σ.budget }
