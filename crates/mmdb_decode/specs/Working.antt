-- What contracts of private functions and proofs name.
use Rattle.std.specs.Prelude.{◌≡◌, ℕ, Option, Some, false}
use Rattle.mmdb_format.specs.declared.header.Header.{Header}
use Rattle.mmdb_format.specs.Header.{◌>>=◌}
use Rattle.mmdb_format.specs.Contents.{passed_end}
use Rattle.mmdb_decode.specs.State.{State, spent_of, decoded}
use Rattle.mmdb_decode.specs.Skipping.{passes, skip_within}
use Rattle.mmdb_decode.specs.Errors.{Kept}

-- the decoder after a scalar, and at the first part of a container
unfoldable pub scalar_passed : State → Header → Option (Unit {0} × State)
scalar_passed σ header =
    passed_end σ.section header >>= λ next.
    Some (tt, record { section = σ.section; offset = next; levels = σ.levels; budget = σ.budget })

unfoldable pub entered_inline : State → Header → ℕ → Option (Unit {0} × State)
entered_inline σ header parts =
    spent_of σ.budget parts 0 >>= λ left.
    Some (tt, record { section = σ.section; offset = header.body; levels = σ.levels; budget = left })

-- Of `count` values all were passed but `left`, which are next: so to pass all of them is to pass those, however deep
-- containers may nest.
pub record PassesTo (count left : ℕ) (σ τ : State) : Type 0 where
  pub kept : Kept σ τ
  pub rest : (nested : ℕ) → decoded false (passes (skip_within nested) count) σ ≡ decoded false (passes (skip_within nested) left) τ
