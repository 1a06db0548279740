-- The text of networks: a line each, which has the network's full text, a space, the offset of its value
-- in the data section or `-`, and a newline; for a faulty leaf the word `fault`.
use Rattle.std.specs.Prelude.{◌≡◌, ℕ, Bool, true, false, List, ◌++◌, length, drop, Option, Some, None, codes, decimal}
use Rattle.std.specs.List.{flat_map}
use Rattle.std.specs.declared.net.ip_addr.IpAddr.{IpAddr}
use Rattle.mmdb_net.specs.declared.network.IpNetwork.{IpNetwork}
use Rattle.mmdb_net.specs.Network.{full_text_of}
use Rattle.mmdb_net.specs.FullText.{ipv4_full_text, ipv6_full_text}
use Rattle.mmdb_reader.specs.File.{Database, before_ipv4}
use Rattle.mmdb_reader.specs.Items.{Item, Failure, Network}
use Rattle.mmdb_reader.specs.Lookup.{Answers, outcome_at}
use Rattle.mmdb_reader.specs.Shown.{is_shown_as_ipv4, IsShownBy}

-- what stands for the offset of a value
abbrev pub offset_text : Option ℕ → List ℕ
offset_text (Some offset) = decimal offset
offset_text None = codes "-"

-- The full text of the network that shows a leaf. As an IPv4 network it has the bits of the leaf after
-- the zeros before IPv4.
abbrev pub leaf_text : Database → List Bool → Bool → List ℕ
leaf_text db leaf true = ipv4_full_text (drop (length (before_ipv4 db)) leaf)
leaf_text db leaf false = ipv6_full_text leaf

-- What is said of a leaf's text is the full text of the network that shows the leaf.
abbrev pub LeafTextsShowNetworks : Type 0
LeafTextsShowNetworks =
    (db : Database) (leaf : List Bool) (as_ipv4 : Bool) (network : IpNetwork) → IsShownBy db leaf as_ipv4 network → leaf_text db leaf as_ipv4 ≡ full_text_of network

-- the line of a leaf
abbrev pub leaf_line : Database → List Bool → Option ℕ → Bool → List ℕ
leaf_line db leaf offset as_ipv4 = leaf_text db leaf as_ipv4 ++ (codes " " ++ (offset_text offset ++ codes "\n"))

-- the line of an item of a list
unfoldable pub line_of : Database → Item → List ℕ
line_of db (Failure kind) = codes "fault\n"
line_of db (Network leaf offset as_ipv4) = leaf_line db leaf offset as_ipv4

-- the lines of a list, one after another
unfoldable pub lines_of : Database → List Item → List ℕ
lines_of db items = flat_map (line_of db) items

-- The text is the line of the answer to a lookup of the address.
pub record IsLookupLine (db : Database) (address : IpAddr) (text : List ℕ) : Type 0 where
  pub leaf : List Bool
  pub offset : Option ℕ
  pub answers : Answers db address leaf (outcome_at offset)
  pub text_is : text ≡ leaf_line db leaf offset (is_shown_as_ipv4 db address)
