-- Blocks of the addresses of both kinds.
use Rattle.std.specs.Prelude.{◌⊎◌, ◌↔◌, ℕ, List, Option, Bool, if◌then◌else◌}
use Rattle.mmdb_blocks.specs.Blocks.{IsIn, IsJoined}
use Rattle.mmdb_reader.specs.File.{Database}
use Rattle.mmdb_query.specs.Answered.{HasOnlyMet, HasAllMet}
use Rattle.mmdb_query.specs.Sets.{Has}
use Rattle.mmdb_query.specs.declared.address_blocks.AddressBlocks.{AddressBlocks}
use Rattle.mmdb_query.specs.declared.addresses.Addresses.{Addresses}

-- an address of a kind is in one of the blocks of that kind
abbrev pub IsInBlock : AddressBlocks → Bool → ℕ → Type 0
IsInBlock blocks as_ipv4 address = IsIn address (if as_ipv4 then blocks.ipv4.items else blocks.ipv6.items)

-- exactly where it is chosen, or in `also`, and not in `except`
abbrev pub ListsAddresses : Addresses → Addresses → Addresses → AddressBlocks → Type 0
ListsAddresses chosen also except blocks = (as_ipv4 : Bool) (address : ℕ)
    → IsInBlock blocks as_ipv4 address ↔ ((Has chosen as_ipv4 address ⊎ Has also as_ipv4 address) × ¬ Has except as_ipv4 address)

-- of either kind they ascend without overlap, and no two neighbours could be one
abbrev pub AreFewest : AddressBlocks → Type 0
AreFewest blocks = IsJoined blocks.ipv4.items blocks.ipv4.items × IsJoined blocks.ipv6.items blocks.ipv6.items

-- Those are chosen of which a lookup finds a record that meets conditions: no others, and all, unless that can't be read, and is
-- counted.
pub record ListsMet (db : Database) (says : List (Option ℕ) → Bool → Type 0) (unsaid : List (Option ℕ) → Type 0)
    (also except : Addresses) (blocks : AddressBlocks) (unread : ℕ) : Type 0 where
  pub chosen : Addresses
  pub only : HasOnlyMet db says chosen
  pub all : HasAllMet db says unsaid chosen unread
  pub exact : ListsAddresses chosen also except blocks
