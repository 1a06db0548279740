-- What contracts of private functions and proofs name.
use Rattle.std.specs.Prelude.{◌≡◌, ◌≢◌, ℕ, ◌-◌, ◌*◌, ◌/◌, ◌^◌, ◌<◌, List, ◌++◌, length, slice_index, codes, Option, Some, None}
use Rattle.std.specs.Borrow.{Bor}
use Rattle.mmdb_net.specs.NetworkText.{IsPrefixText}

-- a number of that many bits, with those after its first `prefix` ones cleared
abbrev pub masked_bits : ℕ → ℕ → ℕ → ℕ
masked_bits width prefix bits = bits / 2 ^ (width - prefix) * 2 ^ (width - prefix)

-- a text has no `/`
abbrev pub LacksSlash : List ℕ → Type 0
LacksSlash text = (i : ℕ) → i < length text → slice_index text i ≢ 47

-- a text has more than one `/`
abbrev pub HasSlashes : List ℕ → Type 0
HasSlashes text = (front back : List ℕ) × (text ≡ front ++ codes "/" ++ back) × LacksSlash front × ¬ LacksSlash back

-- a text that was asked for a prefix has none below 256
abbrev pub HasNoPrefix : Option (Bor (List ℕ)) → Type 0
HasNoPrefix None = ⊥
HasNoPrefix (Some digits) = (prefix : ℕ) → prefix < 256 → ¬ IsPrefixText digits.now prefix
