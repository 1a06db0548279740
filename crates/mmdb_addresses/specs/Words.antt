-- The address that a word has: it may have a port, a zone or brackets.
use Rattle.std.specs.Prelude.{◌≡◌, ◌⊎◌, ℕ, ◌<◌, ◌≤◌, List, [], ◌==◌, true, All, length, drop, get_or}
use Rattle.std.specs.List.{before_first, after_first, position_or_len}
use Rattle.std.specs.Net.Grammar.{IsIpText, IsIpv4Text, IsIpv6Text}
use Rattle.std.specs.Str.Parse.{IsNumeral, digits_value}
use Rattle.std.specs.declared.net.ip_addr.IpAddr.{IpAddr}
use Rattle.std.specs.declared.net.ip_addr.IpAddr.TheVariants.{V4, V6}
use Rattle.mmdb_addresses.specs.Bytes.{is_name_byte}

-- what is before the first byte of this value, or all; and what is after it, or nothing
abbrev pub before : ℕ → List ℕ → List ℕ
before byte word = before_first (λ x. x == byte) word

abbrev pub after : ℕ → List ℕ → List ℕ
after byte word = after_first (λ x. x == byte) word

-- one to five digits, of at most 65535
pub record IsPort (digits : List ℕ) : Type 0 where
  pub numeral : IsNumeral 10 digits
  pub short : length digits ≤ 5
  pub fits : digits_value 10 digits ≤ 65535

-- the name of a zone
pub record IsZone (name : List ℕ) : Type 0 where
  pub some : 0 < length name
  pub plain : All (λ x. is_name_byte x ≡ true) name

-- an address of IPv4, `:` and a port
abbrev pub HasPort : List ℕ → IpAddr → Type 0
HasPort word (V4 address) = IsIpv4Text (before 58 word) address × IsPort (after 58 word)
HasPort word (V6 address) = ⊥

-- an address of IPv6, `%` and a zone
abbrev pub HasZone : List ℕ → IpAddr → Type 0
HasZone word (V4 address) = ⊥
HasZone word (V6 address) = IsIpv6Text (before 37 word) address × IsZone (after 37 word)

-- nothing, or `:` and a port
abbrev pub IsEnd : List ℕ → Type 0
IsEnd rest = (rest ≡ []) ⊎ ((get_or rest 0 0 ≡ 58) × IsPort (drop 1 rest))

-- `[`, an address, which may have a zone, `]`, and maybe a port
pub record HasBrackets (word : List ℕ) (address : IpAddr) : Type 0 where
  pub opens : get_or word 0 0 ≡ 91
  pub closes : position_or_len (λ x. x == 93) word < length word
  pub inside : IsIpText (drop 1 (before 93 word)) address ⊎ HasZone (drop 1 (before 93 word)) address
  pub end : IsEnd (after 93 word)

-- The word of a cell is an address, which may have a port, a zone or brackets.
abbrev pub IsWord : List ℕ → IpAddr → Type 0
IsWord word address = (IsIpText word address ⊎ HasPort word address) ⊎ (HasZone word address ⊎ HasBrackets word address)
