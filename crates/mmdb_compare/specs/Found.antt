-- What a database has at an address, as a lookup finds it.
use Rattle.std.specs.Prelude.{◌≡◌, ℕ, ◌^◌, ◌<◌, ◌⊎◌, MatchBool, MatchOption, List, length, get_or, Option, None, nat_lt, if◌then◌else◌, Bool}
use Rattle.std.specs.Int.{w32, w128, to_be_bytes}
use Rattle.std.specs.Net.Addr.{segments_of}
use Rattle.std.specs.declared.convert.AsSlice.{Ghosts}
use Rattle.std.specs.declared.net.ip_addr.IpAddr.{IpAddr}
use Rattle.std.specs.declared.net.ip_addr.IpAddr.TheVariants.{V4, V6}
use Rattle.mmdb_reader.specs.File.{Database}
use Rattle.mmdb_reader.specs.Found.{database_asked, leaf_of, offset_found, shown_as_ipv4}
use Rattle.mmdb_reader.specs.Lookup.{Answers, CanAsk, IsInvalidAt, outcome_at}
use Rattle.mmdb_reader.specs.Shown.{is_shown_as_ipv4}
use Rattle.mmdb_reader.specs.declared.lookup_result.LookupResult.{LookupResult}
use Rattle.mmdb_compare.specs.Coming.{Answer}
use Rattle.mmdb_compare.specs.Coming.Answer.{Nothing}
use Rattle.mmdb_compare.specs.Together.{is_record}

-- The address of a number: one of IPv4 below 2 ^ 32, and else one of IPv6.
abbrev pub numbered_ip : ℕ → IpAddr
numbered_ip number =
    if nat_lt number (2 ^ 32)
    then V4 (record { octets = to_be_bytes w32 number })
    else V6 (record { segments = segments_of (to_be_bytes w128 number) })

module _ {S : Type 0} {G : Ghosts S ℕ} where
  -- The database's one answer for the address: its leaf there, with the offset of its record, and its network.
  pub record IsAnswerAt (db : Database) (address : IpAddr) (found : LookupResult S G) : Type 0 where
    pub database : database_asked found ≡ db
    pub answers : Answers db address (leaf_of found) (outcome_at (offset_found found))
    pub shown : shown_as_ipv4 found ≡ is_shown_as_ipv4 db address

  -- What a lookup of the address finds: none only where the database can't be asked for it, or its leaf there can't be read.
  abbrev pub IsFoundAt : Database → IpAddr → Option (LookupResult S G) → Type 0
  IsFoundAt db address found =
      MatchOption found ((¬ CanAsk db address) ⊎ IsInvalidAt db address) (IsAnswerAt db address)

  -- That, where the database has a record, and else none.
  abbrev pub IsFoundIf : Bool → Database → IpAddr → Option (LookupResult S G) → Type 0
  IsFoundIf has_record db address found = MatchBool has_record (IsFoundAt db address found) (found ≡ None)

  -- For each of the databases it is so, in their order.
  pub record AreFoundAt (address : IpAddr) (databases : List Database) (answers : List Answer) (found : List (Option (LookupResult S G))) : Type 0 where
    pub count : length found ≡ length databases
    pub each : (place : ℕ) (db : Database) → place < length databases → IsFoundIf (is_record (get_or answers place Nothing)) (get_or databases place db) address (get_or found place None)
