-- What lookups of several addresses find ("Search Lookup Algorithm" of the MaxMind DB File Format
-- Specification 2.0).
use Rattle.std.specs.Prelude.{◌≡◌, ℕ, ◌+◌, ◌<◌, ◌≤◌, ◌⊎◌, ◌↔◌, List, length, slice_index_or, Option, Result, IfSome, IfOk, IfErr}
use Rattle.std.specs.Iterator.{YieldsFirstBy}
use Rattle.std.specs.declared.convert.AsSlice.{Ghosts}
use Rattle.std.specs.declared.net.ip_addr.IpAddr.{IpAddr}
use Rattle.std.specs.declared.net.ip_addr.IpAddr.TheVariants.{V4, V6}
use Rattle.mmdb_net.specs.Address.{bits_of_address}
use Rattle.mmdb_tree.specs.declared.group.FoundLeaf.{FoundLeaf}
use Rattle.mmdb_tree.specs.Groups.{HasEnded}
use Rattle.mmdb_format.specs.Error.{OfDatabase, OfInput, kind_of, FailsAs}
use Rattle.mmdb_format.specs.declared.error.MaxMindDbError.{MaxMindDbError}
use Rattle.mmdb_reader.specs.File.{Database, tree_of}
use Rattle.mmdb_reader.specs.Found.{database_asked, leaf_of, offset_found, shown_as_ipv4}
use Rattle.mmdb_reader.specs.Lookup.{CanAsk, Answers, IsInvalidAt, outcome_at}
use Rattle.mmdb_reader.specs.Shown.{ipv4_start, is_shown_as_ipv4}
use Rattle.mmdb_reader.specs.declared.lookup_result.LookupResult.{LookupResult}

-- An address's own bits lead on from a node: IPv4 begins on one, or the database is of IPv6.
abbrev pub HasWalk : Database → IpAddr → Type 0
HasWalk db (V4 a) = ipv4_start db < db.metadata.node_count
HasWalk db (V6 a) = db.metadata.ip_version ≡ 6

-- where the walk along an address's own bits begins: where IPv4 does, or at the root
abbrev pub first_number : Database → IpAddr → ℕ
first_number db (V4 a) = ipv4_start db
first_number db (V6 a) = 0

-- The walk along an address's own bits, if there is one, ends as it was found to.
abbrev pub IsFoundFor : Database → IpAddr → FoundLeaf → Type 0
IsFoundFor db address leaf = HasWalk db address → HasEnded (tree_of db) (first_number db address) (bits_of_address address) leaf

-- Leaves that were found for the first of the addresses left; those before `next` are used, and those from
-- `count` on are of no address.
pub record IsGroup (db : Database) (left : List IpAddr) (leaves : List FoundLeaf) (next count : ℕ) : Type 0 where
  pub ordered : next ≤ count
  pub few : count ≤ 64
  pub asked : count ≤ next + length left
  pub found : (i : ℕ) (a : IpAddr) (d : FoundLeaf) → next + i < count → IsFoundFor db (slice_index_or left i a) (slice_index_or leaves (next + i) d)

-- the lookups that are still to be answered: a database, and the addresses that it is asked for
pub record LookupsLeft : Type 0 where
  pub database : Database
  pub addresses : List IpAddr

-- the addresses that are still to be asked for, in their order
abbrev pub addresses_left : LookupsLeft → List IpAddr
addresses_left l = l.addresses

module _ {S : Type 0} {G : Ghosts S ℕ} where
  -- The result is what a lookup of the address in the database answers: the leaf on the address's bits with its
  -- outcome, or an error exactly where IPv6 is asked of an IPv4 database or the leaf's number is invalid.
  pub record IsLookup (db : Database) (address : IpAddr) (result : Result (LookupResult S G) MaxMindDbError) : Type 0 where
    pub answered : IfOk result (λ r. Answers db address (leaf_of r) (outcome_at (offset_found r)))
    pub shown : IfOk result (λ r. shown_as_ipv4 r ≡ is_shown_as_ipv4 db address)
    pub database : IfOk result (λ r. database_asked r ≡ db)
    pub of_input : FailsAs OfInput result ↔ ¬ (CanAsk db address)
    pub of_database : FailsAs OfDatabase result ↔ IsInvalidAt db address
    pub no_other : IfErr result (λ e. (kind_of e ≡ OfInput) ⊎ (kind_of e ≡ OfDatabase))

  -- one step: the first of the addresses left, with what a lookup of it answers; the database stays
  abbrev pub AnswersFirst : LookupsLeft → Option (IpAddr × Result (LookupResult S G) MaxMindDbError) → LookupsLeft → Type 0
  AnswersFirst s r t =
      YieldsFirstBy (λ p. p.0) addresses_left s r t
      × ((t.database ≡ s.database) × IfSome r (λ p. IsLookup s.database p.0 p.1))
