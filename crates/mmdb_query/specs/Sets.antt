-- Sets of the addresses of chosen networks. An address of either kind is a number below 2 ^ 128; its bits are `bits_of 128`.
use Rattle.std.specs.Prelude.{◌≡◌, ◌⊎◌, ◌↔◌, ◌<◌, ◌^◌, ℕ, List, [], ◌∷◌, Option, Bool, true, false, if◌then◌else◌}
use Rattle.std.specs.Net.Addr.{is_ipv4}
use Rattle.mmdb_blocks.specs.Ranges.{IsAmong}
use Rattle.mmdb_net.specs.Bits.{bits_of, IsPrefix}
use Rattle.mmdb_net.specs.Network.{ip_of}
use Rattle.mmdb_net.specs.declared.network.IpNetwork.{IpNetwork}
use Rattle.mmdb_query.specs.Had.{Had, network_bits}
use Rattle.mmdb_query.specs.Walks.{Item}
use Rattle.mmdb_query.specs.Walks.Item.{Found, Unread}
use Rattle.mmdb_query.specs.Taking.{Asked, ArePicked, CantBePut}
use Rattle.mmdb_query.specs.declared.addresses.Addresses.{Addresses}

-- nothing else is needed of records than whether they are chosen
abbrev pub needs_nothing : Unit {0} → List (List ℕ) → List (Option ℕ) → Type 0
needs_nothing form s offsets = ⊥

-- the bits of an address begin with these
abbrev pub BeginsWith : List Bool → ℕ → Type 0
BeginsWith bits address = IsPrefix bits (bits_of 128 address)

-- a set has an address of a kind
abbrev pub Has : Addresses → Bool → ℕ → Type 0
Has set as_ipv4 address = IsAmong address (if as_ipv4 then set.ipv4 else set.ipv6)

-- an address of a kind lies in a network
abbrev pub LiesIn : Bool → ℕ → Had → Type 0
LiesIn as_ipv4 address had = (as_ipv4 ≡ had.as_ipv4) × BeginsWith had.bits address

-- in one of these networks
abbrev pub LiesInOne : Bool → ℕ → List Had → Type 0
LiesInOne as_ipv4 address [] = ⊥
LiesInOne as_ipv4 address (had ∷ others) = LiesIn as_ipv4 address had ⊎ LiesInOne as_ipv4 address others

-- a set has, beside what it had, exactly the addresses of a network
abbrev pub AddsNetwork : IpNetwork → Addresses → Addresses → Type 0
AddsNetwork network old new = (as_ipv4 : Bool) (address : ℕ) → address < 2 ^ 128
    → Has new as_ipv4 address ↔ (Has old as_ipv4 address ⊎ ((as_ipv4 ≡ is_ipv4 (ip_of network)) × BeginsWith (network_bits network) address))

abbrev pub Adds : Had → Addresses → Addresses → Type 0
Adds had old new = (as_ipv4 : Bool) (address : ℕ) → address < 2 ^ 128
    → Has new as_ipv4 address ↔ (Has old as_ipv4 address ⊎ LiesIn as_ipv4 address had)

-- that is how a set takes networks, and nothing is written
abbrev pub puts_addresses : Unit {0} → List (List ℕ) → Had → Addresses → List ℕ → Addresses → Type 0
puts_addresses form s had old text new = Adds had old new × (text ≡ [])

-- a network is one of the items
abbrev pub IsFoundIn : Had → List Item → Type 0
IsFoundIn had [] = ⊥
IsFoundIn had (Unread ∷ items) = IsFoundIn had items
IsFoundIn had (Found first ∷ items) = (had ≡ first) ⊎ IsFoundIn had items

-- an address of a kind lies in a network that is one of the items, and chosen
abbrev pub LiesInChosen : {X : Type 0} → Asked X → Bool → ℕ → List Item → Type 0
LiesInChosen a as_ipv4 address items = (had : Had) × IsFoundIn had items × a.says had.offsets true × LiesIn as_ipv4 address had

-- a network is not chosen, or it can't be read whether it is, and is counted
abbrev pub IsLeftOut : {X : Type 0} → Asked X → ℕ → Had → Type 0
IsLeftOut a faults had = a.says had.offsets false ⊎ (CantBePut a had × (0 < faults))

-- A set has exactly the addresses of the networks that are chosen of those that come, and so many can't be read.
pub record IsGathered {X : Type 0} (comes : List Item → Type 0) (a : Asked X) (set : Addresses) (faults : ℕ) : Type 0 where
  pub items : List Item
  pub come : comes items
  pub put : List Had
  pub picked : ArePicked a items put faults
  pub exact : (as_ipv4 : Bool) (address : ℕ) → address < 2 ^ 128 → Has set as_ipv4 address ↔ LiesInOne as_ipv4 address put
  pub only : (as_ipv4 : Bool) (address : ℕ) → address < 2 ^ 128 → Has set as_ipv4 address → LiesInChosen a as_ipv4 address items
  pub all : (had : Had) (as_ipv4 : Bool) (address : ℕ) → address < 2 ^ 128 → IsFoundIn had items → LiesIn as_ipv4 address had → Has set as_ipv4 address ⊎ IsLeftOut a faults had
