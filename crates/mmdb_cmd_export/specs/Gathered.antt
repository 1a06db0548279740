-- Addresses that were gathered, and those of a list.
use Rattle.std.specs.Prelude.{ℕ, ◌<◌, ◌^◌, ◌⊎◌, List}
use Rattle.mmdb_blocks.specs.Ranges.{IsAmong}
use Rattle.mmdb_blocks.specs.declared.kind.BlockKind.{BlockKind}
use Rattle.mmdb_blocks.specs.declared.kind.BlockKind.TheVariants.{Ipv4, Ipv6}
use Rattle.mmdb_layout.specs.Conditions.{SaysAllMetBy, HasUnreadBy}
use Rattle.mmdb_layout.specs.declared.condition.Condition.{Condition}
use Rattle.mmdb_query.specs.Ends.{leaves_none}
use Rattle.mmdb_query.specs.Reading.{outlines_of}
use Rattle.mmdb_query.specs.Rows.{nothing}
use Rattle.mmdb_query.specs.Sets.{puts_addresses, needs_nothing}
use Rattle.mmdb_query.specs.Taking.{Asked}
use Rattle.mmdb_query.specs.declared.addresses.Addresses.{Addresses as Chosen}
use Rattle.mmdb_cmd_export.specs.declared.gathering.Adjustment.{Adjustment}

-- what is asked of the records at offsets of these data sections: whether they meet all conditions
abbrev pub gathered_of : List Condition → List (List ℕ) → Asked Chosen
gathered_of conditions s = record {
  says = λ offsets b. SaysAllMetBy conditions (outlines_of s offsets) b;
  unsaid = λ offsets. HasUnreadBy conditions (outlines_of s offsets);
  puts = puts_addresses nothing s;
  unput = needs_nothing nothing s;
  leaves = leaves_none nothing s;
}

-- an address of IPv4 that a chosen network of IPv6 has
abbrev pub IsMapped : Chosen → ℕ → Type 0
IsMapped chosen address = IsAmong address chosen.ipv6 × (address < 2 ^ 32)

-- an address of a kind is chosen
abbrev pub IsChosenOf : BlockKind → Chosen → ℕ → Type 0
IsChosenOf Ipv4 chosen address = IsAmong address chosen.ipv4 ⊎ IsMapped chosen address
IsChosenOf Ipv6 chosen address = IsAmong address chosen.ipv6

-- it is added, or taken away
abbrev pub IsAdded : BlockKind → Adjustment → ℕ → Type 0
IsAdded Ipv4 adjustment address = IsAmong address adjustment.also.ipv4
IsAdded Ipv6 adjustment address = IsAmong address adjustment.also.ipv6

abbrev pub IsTakenAway : BlockKind → Adjustment → ℕ → Type 0
IsTakenAway Ipv4 adjustment address = IsAmong address adjustment.except.ipv4
IsTakenAway Ipv6 adjustment address = IsAmong address adjustment.except.ipv6

-- a list has the addresses of a kind that are chosen or added, less those that are taken away
abbrev pub IsListedOf : BlockKind → Chosen → Adjustment → ℕ → Type 0
IsListedOf kind chosen adjustment address = (IsChosenOf kind chosen address ⊎ IsAdded kind adjustment address) × ¬ IsTakenAway kind adjustment address
