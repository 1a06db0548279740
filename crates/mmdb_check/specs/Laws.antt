-- Laws of checks.
use Rattle.std.specs.Prelude.{◌≡◌, ◌↔◌, ℕ, List, Bool, true, false}
use Rattle.std.specs.List.{Contains}
use Rattle.mmdb_format.specs.Unfolding.{Tree, Unfolds}
use Rattle.mmdb_check.specs.Checking.{leads_to, CanAddAll}

-- a finite tree leads neither to its own offset nor, from an offset that it leads to, back to it
abbrev pub NoPlaceIsMetAgain : Type 0
NoPlaceIsMetAgain = (s : List ℕ) (p q next end : ℕ) (t u : Tree) → Unfolds s p t next → Unfolds s q u end → leads_to t p ≡ false × (leads_to t q ≡ true → leads_to u p ≡ false)

-- two lists of the same offsets can be added to the same good offsets
abbrev pub OrderIsFree : Type 0
OrderIsFree = (s : List ℕ) (good : ℕ → Bool) (ps qs : List ℕ) → ((q : ℕ) → Contains ps q ↔ Contains qs q) → CanAddAll s good ps ↔ CanAddAll s good qs
