-- What comes of a range of a database: what the reader lists of it, as blocks of addresses. Addresses have 128 bits: before
-- those of IPv4 are 96 zeros.
use Rattle.std.specs.Prelude.{◌-◌, Bool, List, ◌++◌, map, false, if◌then◌else◌, nat_lt}
use Rattle.mmdb_net.specs.Bits.{zero_bits}
use Rattle.mmdb_net.specs.declared.network.IpNetwork.{IpNetwork}
use Rattle.mmdb_blocks.specs.declared.block.Block.{Block}
use Rattle.mmdb_blocks.specs.Networks.{network_bits}
use Rattle.mmdb_reader.specs.File.{Database, width}
use Rattle.mmdb_reader.specs.Items.{Item, items_of}
use Rattle.mmdb_reader.specs.Items.Item.{Failure, Network as ItemNetwork}
use Rattle.mmdb_reader.specs.Listing.{listed}
use Rattle.mmdb_reader.specs.Options.{default_options}
use Rattle.mmdb_reader.specs.Shown.{block_in}
use Rattle.mmdb_compare.specs.Coming.{Leaf, Coming, coming, block_of_bits}
use Rattle.mmdb_compare.specs.Coming.Leaf.{Network, Unread}

-- the bits that the addresses of a leaf begin with, of one that is shown as an IPv4 network or not
abbrev pub shown_bits : Database → List Bool → Bool → List Bool
shown_bits db leaf as_ipv4 = if as_ipv4 then zero_bits (128 - width db) ++ leaf else leaf

-- As much of a network as lies in a range: of the two one holds the other.
abbrev pub block_within : Block → Block → Block
block_within range block = if nat_lt block.prefix range.prefix then range else block

-- an item that is listed: a fault is a leaf that can't be read
abbrev pub leaf_of_item : Database → Block → Item → Leaf
leaf_of_item db range (Failure kind) = Unread
leaf_of_item db range (ItemNetwork leaf offset as_ipv4) =
    Network (block_within range (block_of_bits (shown_bits db leaf as_ipv4))) offset

abbrev pub leaves_of_items : Database → Block → List Item → List Leaf
leaves_of_items db range items = map (leaf_of_item db range) items

-- all that comes of a range of a database
abbrev pub all_of : Database → IpNetwork → Coming
all_of db range =
    let items = items_of db (listed db default_options (block_in db range)) in
    coming (leaves_of_items db (block_of_bits (network_bits range)) items) false
