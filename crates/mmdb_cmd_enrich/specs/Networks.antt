-- The network of an address that is added to a row before the fields: the smallest of those in which the databases have it.
use Rattle.std.specs.Prelude.{◌≡◌, ℕ, ◌+◌, List, [], ◌∷◌, Option, Some, None, Bool, true, false, nat_lt, ⊤, if◌then◌else◌}
use Rattle.std.specs.declared.net.ip_addr.IpAddr.{IpAddr}
use Rattle.mmdb_format.specs.Contents.{text}
use Rattle.mmdb_format.specs.Unfolding.{scalar}
use Rattle.mmdb_net.specs.Network.{prefix_of, short_text_of}
use Rattle.mmdb_net.specs.declared.network.IpNetwork.{IpNetwork}
use Rattle.mmdb_net.specs.declared.network.IpNetwork.TheVariants.{V4, V6}
use Rattle.mmdb_reader.specs.File.{Database}
use Rattle.mmdb_reader.specs.Lookup.{CanAsk, Answers, outcome_at}
use Rattle.mmdb_reader.specs.Shown.{ShowsAnswer}
use Rattle.mmdb_reader.specs.declared.path.PathElement.{PathElement}
use Rattle.mmdb_filter.specs.declared.rows.Rows.{Rows}
use Rattle.mmdb_layout.specs.Asked.{Asks}
use Rattle.mmdb_cmd_enrich.specs.Cells.{ShowsCell, blanks}
use Rattle.mmdb_cmd_enrich.specs.Columns.{delimiter_of}

-- The network in which a database has an address, with a record or without one; none where it can't be asked for it.
abbrev pub HasNetwork : Database → IpAddr → Option IpNetwork → Type 0
HasNetwork db address None = (asked : IpAddr) × Asks db address asked × (¬ CanAsk db asked)
HasNetwork db address (Some network) =
    (asked : IpAddr) × Asks db address asked
    × (leaf : List Bool) × (offset : Option ℕ) × Answers db asked leaf (outcome_at offset) × ShowsAnswer db asked leaf network

-- the same of each database, in their order
abbrev pub HaveNetworks : List Database → IpAddr → List (Option IpNetwork) → Type 0
HaveNetworks [] address [] = ⊤
HaveNetworks [] address (network ∷ networks) = ⊥
HaveNetworks (db ∷ dbs) address [] = ⊥
HaveNetworks (db ∷ dbs) address (network ∷ networks) = HasNetwork db address network × HaveNetworks dbs address networks

-- How many of the 128 bits of an address of IPv6 those of a network share; one of IPv4 comes after 96 bits.
abbrev pub depth_of : IpNetwork → ℕ
depth_of (V4 network) = 96 + prefix_of (V4 network)
depth_of (V6 network) = prefix_of (V6 network)

-- the smaller of two networks, and the first of equal ones
abbrev pub smaller : Option IpNetwork → Option IpNetwork → Option IpNetwork
smaller None other = other
smaller (Some network) None = Some network
smaller (Some network) (Some other) = if nat_lt (depth_of network) (depth_of other) then Some other else Some network

-- the smallest of networks, and the first of equal ones
abbrev pub smallest : List (Option IpNetwork) → Option IpNetwork
smallest [] = None
smallest (network ∷ networks) = smaller network (smallest networks)

-- the network that is shown: none where no database has a record
abbrev pub shown_of : Bool → List (Option IpNetwork) → Option IpNetwork
shown_of has_record networks = if has_record then smallest networks else None

-- the network that is shown of an address
abbrev pub IsShown : List Database → IpAddr → Bool → Option IpNetwork → Type 0
IsShown dbs address has_record shown =
    (networks : List (Option IpNetwork)) × HaveNetworks dbs address networks × (shown ≡ shown_of has_record networks)

-- the cell of the text of a network, and an empty one where there is none
abbrev pub IsNetworkCell : Rows → Option IpNetwork → List ℕ → Type 0
IsNetworkCell rows None cell = cell ≡ []
IsNetworkCell rows (Some network) cell = ShowsCell rows (scalar (text (short_text_of network))) cell

-- a delimiter and the cell of a network
abbrev pub IsFront : Rows → Option IpNetwork → List ℕ → Type 0
IsFront rows network front = (cell : List ℕ) × (front ≡ delimiter_of rows ∷ cell) × IsNetworkCell rows network cell

-- a delimiter for the network, where it is wanted, and one for each path
abbrev pub all_blanks : Bool → Rows → List (List PathElement) → List ℕ
all_blanks false rows paths = blanks rows paths
all_blanks true rows paths = delimiter_of rows ∷ blanks rows paths
