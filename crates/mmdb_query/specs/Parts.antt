-- What is wanted of networks: those of some kinds, and of one that has a range no more than the range.
use Rattle.std.specs.Prelude.{◌≡◌, ◌↔◌, ℕ, List, [], ◌∷◌, Option, Some, None, Bool, true, ◌||◌, not, if◌then◌else◌}
use Rattle.std.specs.Bool.{beq}
use Rattle.std.specs.List.{starts_with}
use Rattle.std.specs.Net.Addr.{is_ipv4}
use Rattle.mmdb_net.specs.Network.{ip_of}
use Rattle.mmdb_net.specs.declared.network.IpNetwork.{IpNetwork}
use Rattle.mmdb_blocks.specs.declared.kind.BlockKind.TheVariants.{Ipv4, Ipv6}
use Rattle.mmdb_blocks.specs.declared.kind.Kinds.{Kinds}
use Rattle.mmdb_blocks.specs.declared.kind.Kinds.TheVariants.{Both, One}
use Rattle.mmdb_query.specs.Had.{Had, IsNetworkOf, network_bits}
use Rattle.mmdb_query.specs.Walks.{Item}
use Rattle.mmdb_query.specs.Walks.Item.{Found, Unread}
use Rattle.mmdb_query.specs.Sets.{BeginsWith, IsFoundIn}

-- networks of IPv4, or those of IPv6, are wanted
abbrev pub is_wanted : Kinds → Bool → Bool
is_wanted Both as_ipv4 = true
is_wanted (One Ipv4) as_ipv4 = as_ipv4
is_wanted (One Ipv6) as_ipv4 = not as_ipv4

-- a network has all addresses of a range
abbrev pub has_range : Had → IpNetwork → Bool
has_range had range = starts_with beq (network_bits range) had.bits

-- what it has of the range: that, as one of IPv4 where either is
abbrev pub range_in : Had → IpNetwork → Had
range_in had range = record { bits = network_bits range; as_ipv4 = is_ipv4 (ip_of range) || had.as_ipv4; offsets = had.offsets }

-- Of such a network the range is handed out, and any other network as it is.
abbrev pub clipped : Option IpNetwork → Had → Had
clipped None had = had
clipped (Some range) had = if has_range had range then range_in had range else had

-- what is handed out of a network: all of it, or just this one
abbrev pub handed : Option IpNetwork → Had → Had
handed None had = had
handed (Some part) had = record { bits = network_bits part; as_ipv4 = is_ipv4 (ip_of part); offsets = had.offsets }

-- that is this
abbrev pub IsHanded : Had → Had → Option IpNetwork → Type 0
IsHanded out had None = out ≡ had
IsHanded out had (Some part) = IsNetworkOf out part × (out.offsets ≡ had.offsets)

-- What is handed out of items: of each network that is wanted what it has of a range, and each item that can't be read.
abbrev pub parts_of : Kinds → Option IpNetwork → List Item → List Item
parts_of kinds range [] = []
parts_of kinds range (Unread ∷ items) = Unread ∷ parts_of kinds range items
parts_of kinds range (Found had ∷ items) =
    if is_wanted kinds had.as_ipv4 then Found (clipped range had) ∷ parts_of kinds range items else parts_of kinds range items

-- what may come of that
abbrev pub ComesInPart : Kinds → Option IpNetwork → (List Item → Type 0) → List Item → Type 0
ComesInPart kinds range comes parts = (items : List Item) × comes items × (parts ≡ parts_of kinds range items)

-- ---- what addresses have

-- an address lies in a range, if there is one
abbrev pub IsInRange : Option IpNetwork → ℕ → Type 0
IsInRange None address = Unit {0}
IsInRange (Some range) address = BeginsWith (network_bits range) address

-- it lies in a network that is one of the items, and is wanted; and databases have their records there at these offsets
abbrev pub IsAnsweredIn : Kinds → ℕ → List (Option ℕ) → List Item → Type 0
IsAnsweredIn kinds address offsets items =
    (had : Had) × IsFoundIn had items × (is_wanted kinds had.as_ipv4 ≡ true) × BeginsWith had.bits address × (had.offsets ≡ offsets)

-- What is handed out says of an address in the range exactly what the networks do that are wanted.
abbrev pub AnswersStay : Type 0
AnswersStay = (kinds : Kinds) (range : Option IpNetwork) (items : List Item) (address : ℕ) (offsets : List (Option ℕ)) → IsInRange range address
    → IsAnsweredIn Both address offsets (parts_of kinds range items) ↔ IsAnsweredIn kinds address offsets items
