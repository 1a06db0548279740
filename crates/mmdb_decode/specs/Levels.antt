-- Single steps of a reader that follows pointers of any length.
use Rattle.std.specs.Prelude.{ℕ, ◌+◌, Option, Some, None, nat_lt, if◌then◌else◌}
use Rattle.mmdb_format.specs.declared.header.Header.{Header}
use Rattle.mmdb_format.specs.Header.{◌>>=◌}
use Rattle.mmdb_format.specs.Pointer.{pointer_at, most_levels}
use Rattle.mmdb_format.specs.Contents.{Scalar, content_at, content_end, scalar_payload}
use Rattle.mmdb_decode.specs.Reading.{Meaning}
use Rattle.mmdb_decode.specs.State.{State, spent_of}

-- one level down to a pointer's target, with the offset after the pointer
unfoldable pub entered_pointer : State → Header → Option (ℕ × State)
entered_pointer σ header =
    if nat_lt σ.levels most_levels then
    (pointer_at σ.section header.body header.size >>= λ to.
    Some (to.next, record { section = σ.section; offset = to.target; levels = σ.levels + 1; budget = σ.budget }))
    else None

-- one level down to a container's first part, with its parts charged
unfoldable pub entered_parts : State → Header → ℕ → Option State
entered_parts σ header count =
    if nat_lt σ.levels most_levels then
    (spent_of σ.budget count 0 >>= λ left.
    Some (record { section = σ.section; offset = header.body; levels = σ.levels + 1; budget = left }))
    else None

-- what follows a header that was read
unfoldable pub content_of : Header → Meaning Scalar
content_of header s p d =
    content_at s header >>= λ c.
    Some (record { value = c; next = content_end header; values = 0; bytes = scalar_payload c })
