-- Laws of entries.
use Rattle.std.specs.Prelude.{ℕ, List}
use Rattle.std.specs.List.{AllByRecursion}
use Rattle.mmdb_nodes.specs.declared.entry.NodeEntry.{NodeEntry}
use Rattle.mmdb_nodes.specs.declared.entry.IpVersion.{IpVersion}
use Rattle.mmdb_nodes.specs.Entries.{IsEntry, IsOrdered, Gives, offset_in}

-- Of entries in order the last one that has an address is that of the longest prefix.
abbrev pub LastIsLongest : Type 0
LastIsLongest = (version : IpVersion) (data_len : ℕ) (entries : List NodeEntry) (address : ℕ) → IsOrdered entries → AllByRecursion (IsEntry version data_len) entries → Gives entries address (offset_in entries address)
