-- The first address anywhere in a text, and the last one.
use Rattle.std.specs.Prelude.{◌≡◌, ◌⊎◌, ◌≢◌, ℕ, ◌+◌, ◌-◌, ◌<◌, List, [], Bool, true, false, Option, Some, None, ◌==◌, ◌&&◌, not, nat_lt, take_while, length, take, drop, get_or}
use Rattle.std.specs.Net.Grammar.{IsIpText}
use Rattle.std.specs.declared.net.ip_addr.IpAddr.{IpAddr}
use Rattle.mmdb_addresses.specs.Bytes.{is_blank, is_run_byte}
use Rattle.mmdb_addresses.specs.Words.{HasPort}

-- A run is a longest one of letters, digits, `_`, `-`, `.` and `:`. One begins at this index.
pub record BeginsRun (text : List ℕ) (at : ℕ) : Type 0 where
  pub here : is_run_byte (get_or text at 0) ≡ true
  pub first : 0 < at → is_run_byte (get_or text (at - 1) 0) ≡ false

-- the run from an index on, and what follows it
abbrev pub run_at : List ℕ → ℕ → List ℕ
run_at text at = take_while is_run_byte (drop at text)

abbrev pub behind_run : List ℕ → ℕ → List ℕ
behind_run text at = drop (at + length (run_at text at)) text

-- a slash is right before an index, and no other one before that
abbrev pub is_behind_slash : List ℕ → ℕ → Bool
is_behind_slash text at = nat_lt 0 at && (get_or text (at - 1) 0 == 47) && not (nat_lt 1 at && (get_or text (at - 2) 0 == 47))

-- an address, which may have a port if it is one of IPv4
abbrev pub IsPlain : List ℕ → IpAddr → Type 0
IsPlain word address = IsIpText word address ⊎ HasPort word address

-- a run ends with `.` or `:`, after which comes a blank or the text's end
pub record IsClosed (run rest : List ℕ) : Type 0 where
  pub mark : (get_or run (length run - 1) 0 ≡ 46) ⊎ (get_or run (length run - 1) 0 ≡ 58)
  pub ends : (rest ≡ []) ⊎ (is_blank (get_or rest 0 0) ≡ true)

-- A run, which the rest follows, is an address; a closing mark does not count.
abbrev pub IsRun : List ℕ → List ℕ → IpAddr → Type 0
IsRun run rest address = IsPlain run address ⊎ (IsClosed run rest × IsPlain (take (length run - 1) run) address)

-- An address is at an index of a text: a run that is one, not right after a lone slash. Of a text that goes on, its
-- last bytes are not known to be a whole run.
pub record StandsAt (text : List ℕ) (goes_on : Bool) (at : ℕ) (address : IpAddr) : Type 0 where
  pub begins : BeginsRun text at
  pub free : is_behind_slash text at ≡ false
  pub whole : goes_on ≡ true → behind_run text at ≢ []
  pub is : IsRun (run_at text at) (behind_run text at) address

-- It is the first one that is in the text.
pub record StandsFirst (text : List ℕ) (goes_on : Bool) (address : IpAddr) : Type 0 where
  pub at : ℕ
  pub here : StandsAt text goes_on at address
  pub first : (earlier : ℕ) (other : IpAddr) → earlier < at → ¬ StandsAt text goes_on earlier other

-- the first address that is in a text, or none where none is
abbrev pub FindsFirst : List ℕ → Bool → Option IpAddr → Type 0
FindsFirst text goes_on (Some address) = StandsFirst text goes_on address
FindsFirst text goes_on None = (at : ℕ) (address : IpAddr) → ¬ StandsAt text goes_on at address

-- It is the last one that is in the text.
pub record StandsLast (text : List ℕ) (address : IpAddr) : Type 0 where
  pub at : ℕ
  pub here : StandsAt text false at address
  pub last : (later : ℕ) (other : IpAddr) → at < later → ¬ StandsAt text false later other

-- the last address that is in a text, or none where none is; none too where the text goes on, since its end is not seen
abbrev pub FindsLast : List ℕ → Bool → Option IpAddr → Type 0
FindsLast text true address = address ≡ None
FindsLast text false (Some address) = StandsLast text address
FindsLast text false None = (at : ℕ) (address : IpAddr) → ¬ StandsAt text false at address
