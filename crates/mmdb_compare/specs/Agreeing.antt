-- That what comes of a range of a database agrees with lookups: where a database answers a record for an address, a lookup
-- of the address finds it, at that offset.
use Rattle.std.specs.Prelude.{◌≡◌, ℕ, Bool, List, Option, IsSomeAnd}
use Rattle.std.specs.declared.convert.AsSlice.{Ghosts}
use Rattle.std.specs.List.{All, Contains}
use Rattle.mmdb_net.specs.Network.{ip_of}
use Rattle.mmdb_net.specs.declared.network.IpNetwork.{IpNetwork}
use Rattle.mmdb_reader.specs.File.{Database}
use Rattle.mmdb_reader.specs.Found.{offset_found}
use Rattle.mmdb_reader.specs.Lookup.{Answers, CanAsk, outcome_at}
use Rattle.mmdb_reader.specs.declared.lookup_result.LookupResult.{LookupResult}
use Rattle.mmdb_compare.specs.Coming.{Coming, coming_from, answer_at}
use Rattle.mmdb_compare.specs.Coming.Answer.{Record}
use Rattle.mmdb_compare.specs.Found.{numbered_ip, IsFoundAt}
use Rattle.mmdb_compare.specs.Listed.{all_of}
use Rattle.mmdb_compare.specs.Parts.{IsPast}

-- the leaf on the address has its record at that offset
abbrev pub IsRecordAt : Database → ℕ → Option ℕ → Type 0
IsRecordAt db address offset = (leaf : List Bool) × Answers db (numbered_ip address) leaf (outcome_at offset)

-- what is left are leaves of the range
abbrev pub IsLeftOf : Database → IpNetwork → Coming → Type 0
IsLeftOf db range c = All (Contains (all_of db range).leaves) c.leaves

-- So it is at the beginning.
abbrev pub AllIsLeft : Type 0
AllIsLeft = (db : Database) (range : IpNetwork) → IsLeftOf db range (all_of db range)

-- It stays so from an address on.
abbrev pub LeftGoesOn : Type 0
LeftGoesOn = (db : Database) (range : IpNetwork) (at : ℕ) (c : Coming) → IsLeftOf db range c → IsLeftOf db range (coming_from at c)

-- It stays so after a leaf that can't be read.
abbrev pub LeftAfterUnread : Type 0
LeftAfterUnread =
    (db : Database) (range : IpNetwork) (at : ℕ) (before after : Coming) → IsPast at before after → IsLeftOf db range before → IsLeftOf db range after

-- Then each record that is answered for an address is the one that a lookup of the address finds.
abbrev pub AnswersAgree : Type 0
AnswersAgree =
    (db : Database) (range : IpNetwork) (c : Coming) (address : ℕ) (offset : Option ℕ) → CanAsk db (ip_of range) → IsLeftOf db range c → answer_at address c ≡ Record offset → IsRecordAt db address offset

-- So a lookup finds something there, and that has the offset.
abbrev pub IsFoundAsAnswered : {S : Type 0} {G : Ghosts S ℕ} → Option (LookupResult S G) → Type 0
IsFoundAsAnswered found =
    (db : Database) (range : IpNetwork) (c : Coming) (address : ℕ) (offset : Option ℕ) → CanAsk db (ip_of range) → IsLeftOf db range c → answer_at address c ≡ Record offset → IsFoundAt db (numbered_ip address) found → IsSomeAnd found (λ r. offset_found r ≡ offset)
