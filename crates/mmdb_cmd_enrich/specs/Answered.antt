-- What a question gave.
use Rattle.std.specs.Prelude.{◌⊎◌, ℕ, List, Option, Some, None}
use Rattle.std.specs.declared.net.ip_addr.IpAddr.{IpAddr}
use Rattle.mmdb_net.specs.declared.network.IpNetwork.{IpNetwork}
use Rattle.mmdb_reader.specs.File.{Database}
use Rattle.mmdb_cmd_enrich.specs.Layers.{CanAskAny, CanAskNone, AnyRejects, HaveAll, has_record}
use Rattle.mmdb_cmd_enrich.specs.Networks.{IsShown}

-- Nothing where no database can be asked or a lookup fails, else what all of them have, and the network of the address.
abbrev pub IsAnswered : {A : Type 0} → (A → List Database → Type 0) → (A → List (Option ℕ)) → (A → Option IpNetwork → Type 0) → List Database → IpAddr → Option A → Type 0
IsAnswered is_of offsets shows dbs address None = CanAskNone dbs address ⊎ AnyRejects dbs address
IsAnswered is_of offsets shows dbs address (Some found) =
    CanAskAny dbs address × is_of found dbs × HaveAll dbs address (offsets found)
    × ((shown : Option IpNetwork) → shows found shown → IsShown dbs address (has_record (offsets found)) shown)
