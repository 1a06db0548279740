-- The networks of a range of a database.
use Rattle.std.specs.Prelude.{Bool, List, [], Option, Some, None}
use Rattle.mmdb_net.specs.declared.network.IpNetwork.{IpNetwork}
use Rattle.mmdb_reader.specs.File.{Database}
use Rattle.mmdb_reader.specs.Items.{Item, items_of}
use Rattle.mmdb_reader.specs.Listing.{listed}
use Rattle.mmdb_reader.specs.Options.{default_options}
use Rattle.mmdb_reader.specs.Shown.{block_in}

-- the bits of a range in a database, or none where all of it is asked for
abbrev pub range_bits : Database → Option IpNetwork → List Bool
range_bits db None = []
range_bits db (Some range) = block_in db range

-- the items that are listed there
abbrev pub items_in : Database → Option IpNetwork → List Item
items_in db range = items_of db (listed db default_options (range_bits db range))
