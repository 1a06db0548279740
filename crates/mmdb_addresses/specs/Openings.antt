-- How the texts of addresses begin. Only contracts of private functions and proofs name it.
use Rattle.std.specs.Prelude.{◌≡◌, ◌⊎◌, ℕ, ◌<◌, ◌≤◌, List, get_or}

-- a letter that is a hex digit
abbrev pub IsHexLetter : ℕ → Type 0
IsHexLetter x = ((65 ≤ x) × (x ≤ 70)) ⊎ ((97 ≤ x) × (x ≤ 102))

-- one of the first five bytes is this one
abbrev pub HasEarly : ℕ → List ℕ → Type 0
HasEarly byte word = (k : ℕ) × (k < 5) × (get_or word k 0 ≡ byte)

-- groups of IPv6: a hex digit or a colon is first, and a colon follows the first group, which has four digits at most
abbrev pub BeginsGroups : List ℕ → Type 0
BeginsGroups word = (((48 ≤ get_or word 0 0) × (get_or word 0 0 ≤ 58)) ⊎ IsHexLetter (get_or word 0 0)) × HasEarly 58 word

-- octets of IPv4: a digit is first, and a dot follows the first octet, which has three digits at most
abbrev pub BeginsOctets : List ℕ → Type 0
BeginsOctets word = ((48 ≤ get_or word 0 0) × (get_or word 0 0 ≤ 57)) × HasEarly 46 word

-- a bracket, or one of these
abbrev pub Begins : List ℕ → Type 0
Begins word = (get_or word 0 0 ≡ 91) ⊎ (BeginsGroups word ⊎ BeginsOctets word)

-- so begins an address, or a word in double quotes
abbrev pub MayBegin : List ℕ → Type 0
MayBegin word = (get_or word 0 0 ≡ 34) ⊎ Begins word
