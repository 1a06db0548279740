-- Empty values ("Data Field Format", map - 7, array - 11 and pointer - 1, of the MaxMind DB File Format
-- Specification 2.0).
use Rattle.std.specs.Prelude.{◌≡◌, ◌≢◌, ℕ, ◌⊎◌, List, Some}
use Rattle.mmdb_format.specs.Header.{header_at}
use Rattle.mmdb_format.specs.Pointer.{PointsTo}
use Rattle.mmdb_format.specs.declared.header.Header.{Header}

-- a header that is no pointer can be read at an offset
abbrev pub HasValueHeader : List ℕ → ℕ → Header → Type 0
HasValueHeader section offset header = (header_at section offset ≡ Some header) × (header.kind ≢ 1)

-- it can be read there, or through one pointer that is there
abbrev pub LeadsToHeader : List ℕ → ℕ → Header → Type 0
LeadsToHeader section offset header =
    HasValueHeader section offset header
    ⊎ ((target next : ℕ) × PointsTo section offset target next × HasValueHeader section target header)

-- No header that is no pointer can be read at an offset, directly or through one pointer.
abbrev pub IsUnreadable : List ℕ → ℕ → Type 0
IsUnreadable section offset = (header : Header) → ¬ LeadsToHeader section offset header

-- An empty map or array is at an offset, directly or through one pointer.
pub record IsEmptyContainer (section : List ℕ) (offset : ℕ) : Type 0 where
  pub header : Header
  pub leads : LeadsToHeader section offset header
  pub container : (header.kind ≡ 7) ⊎ (header.kind ≡ 11)
  pub empty : header.size ≡ 0
