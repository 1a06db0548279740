-- The list of a value and all that it holds.
use Rattle.std.specs.Prelude.{◌≡◌, ◌<◌, ◌≤◌, ℕ, zero, suc, ◌+◌, ◌*◌, ◌%◌, ◌^◌, ◌++◌, List, [], ◌∷◌, length, take, drop, Option, Some, None, Bool, ◌||◌, nat_eq, if◌then◌else◌}
use Rattle.std.specs.Option.{unwrap_or}
use Rattle.mmdb_format.specs.declared.header.Header.{Header}
use Rattle.mmdb_format.specs.Header.{◌>>=◌, header_at}
use Rattle.mmdb_format.specs.Pointer.{pointer_at}
use Rattle.mmdb_format.specs.Contents.{Scalar, text, bytes, content_at, content_end}
use Rattle.mmdb_c.specs.Items.{low_of, high_of}
use Rattle.mmdb_c.specs.declared.list.ListPart.{ListPart}
use Rattle.mmdb_c.specs.declared.list.EntryPlace.{EntryPlace}

-- The value that an offset stands for: the one there, or, where a pointer is there, the one that it leads to, with
-- the offset after the pointer. A pointer that leads to a pointer is an error ("pointer - 1" of the MaxMind DB File
-- Format Specification 2.0).
unfoldable pub place_at : List ℕ → ℕ → Option EntryPlace
place_at s p =
    header_at s p >>= λ header.
    if nat_eq header.kind 1
    then (pointer_at s header.body header.size >>= λ to.
    header_at s to.target >>= λ there.
    if nat_eq there.kind 1 then None else Some (record { offset = to.target; header = there; after = Some to.next }))
    else Some (record { offset = p; header = header; after = None })

-- the part of a value, before an offset: its own offset, its type, its size, and its number in two halves
abbrev pub part : EntryPlace → ℕ → ℕ → ℕ → ℕ → ListPart
part place next size low high = record { has_data = 1; unused = 0; low = low; high = high; offset = place.offset % 2 ^ 32; next = next % 2 ^ 32; size = size % 2 ^ 32; kind = place.header.kind; link = 0; pool = 0 }

-- of a text or bytes where they begin and how many they are, of a number the number
abbrev pub part_low : Header → Scalar → ℕ
part_low header (text x) = header.body
part_low header (bytes x) = header.body
part_low header c = low_of c

abbrev pub part_size : Header → Scalar → ℕ
part_size header (text x) = header.size
part_size header (bytes x) = header.size
part_size header c = 0

-- the part of a value that holds no others, and of a map or an array: how many pairs or elements it has
abbrev pub scalar_part : EntryPlace → ℕ → Scalar → ListPart
scalar_part place next c = part place next (part_size place.header c) (part_low place.header c) (high_of c)

abbrev pub container_part : EntryPlace → ℕ → ListPart
container_part place next = part place next place.header.size 0 0

-- how many values a map ("map - 7") or an array ("array - 11") holds: a map's keys are values too
abbrev pub is_container : Header → Bool
is_container header = nat_eq header.kind 7 || nat_eq header.kind 11

abbrev pub count_of : Header → ℕ
count_of header = if nat_eq header.kind 7 then 2 * header.size else header.size

-- a value whose own bytes end at an offset ends there, or after the pointer that led to it
abbrev pub end_of : EntryPlace → ℕ → ℕ
end_of place next = unwrap_or place.after next

-- the same parts, after others
abbrev pub joined : List ListPart → Option (List ListPart × ℕ) → Option (List ListPart × ℕ)
joined before None = None
joined before (Some rest) = Some (before ++ rest.0, rest.1)

-- the parts of a number of values, one after the other, and the offset after them
abbrev pub in_series : (ℕ → Option (List ListPart × ℕ)) → ℕ → ℕ → Option (List ListPart × ℕ)
in_series read zero p = Some ([], p)
in_series read (suc n) p = read p >>= λ first. joined first.0 (in_series read n first.1)

-- a map or an array comes before its parts
abbrev pub container_parts : EntryPlace → List ListPart × ℕ → List ListPart × ℕ
container_parts place r = (container_part place (end_of place r.1) ∷ r.0, end_of place r.1)

abbrev pub scalar_parts : EntryPlace → Scalar → List ListPart × ℕ
scalar_parts place c = let next = end_of place (content_end place.header) in (scalar_part place next c ∷ [], next)

abbrev pub scalar_parts_at : List ℕ → EntryPlace → Option (List ListPart × ℕ)
scalar_parts_at s place = content_at s place.header >>= λ c. Some (scalar_parts place c)

abbrev pub parts_of : (ℕ → Option (List ListPart × ℕ)) → List ℕ → EntryPlace → Option (List ListPart × ℕ)
parts_of read s place =
    if is_container place.header
    then (in_series read (count_of place.header) place.header.body >>= λ r. Some (container_parts place r))
    else scalar_parts_at s place

-- The list of the value at an offset, of at most a number of levels, and the offset after the value: the value, then
-- all that it holds, in the order of the section, pointers followed ("Data Field Format"). None where a value on the
-- way is damaged, or more levels are needed.
unfoldable pub listed : ℕ → List ℕ → ℕ → Option (List ListPart × ℕ)
listed zero s p = None
listed (suc n) s p = place_at s p >>= parts_of (listed n s) s

-- if there is a list, then it passes the memory from a place on
abbrev pub Passes : Option (List ListPart × ℕ) → ℕ → List ListPart → Type 0
Passes found first room = (parts : List ListPart) (next : ℕ) → found ≡ Some (parts, next) → length room < first + length parts

-- the list of the value at an offset, of at most 512 levels
abbrev pub list_at : List ℕ → ℕ → Option (List ListPart × ℕ)
list_at s p = listed 512 s p

-- the first `count` parts in memory are the list, and those beyond are as they were
pub record HasList (section : List ℕ) (offset count : ℕ) (old new : List ListPart) : Type 0 where
  pub next : ℕ
  pub listed : list_at section offset ≡ Some (take count new, next)
  pub room : count ≤ length old
  pub beyond : drop count new ≡ drop count old

-- if the value has a list, then it has more parts than there is room
abbrev pub HasNoRoom : List ℕ → ℕ → List ListPart → Type 0
HasNoRoom section offset room = Passes (list_at section offset) 0 room
