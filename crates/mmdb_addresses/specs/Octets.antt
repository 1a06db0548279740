-- Octets of an address of IPv4 in a text. Only contracts of private functions and proofs name them.
use Rattle.std.specs.Prelude.{◌≡◌, ℕ, ◌<◌, ◌≤◌, List, ◌∷◌, ◌++◌, length, drop, decimal}

-- From an index on there is an octet in decimal, which ends there.
pub record HasOctet (text : List ℕ) (from end octet : ℕ) : Type 0 where
  pub high : end ≤ length text
  pub fits : octet < 256
  pub reads : drop from text ≡ decimal octet ++ drop end text

-- From an index on there is a dot, and then an octet in decimal, which ends there.
pub record HasDotAndOctet (text : List ℕ) (from end octet : ℕ) : Type 0 where
  pub high : end ≤ length text
  pub fits : octet < 256
  pub reads : drop from text ≡ 46 ∷ (decimal octet ++ drop end text)
