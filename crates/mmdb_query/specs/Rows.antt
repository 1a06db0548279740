-- The rows of networks.
use Rattle.std.specs.Prelude.{◌≡◌, ℕ, List, ◌++◌, Option}
use Rattle.mmdb_net.specs.Network.{short_text_of}
use Rattle.mmdb_net.specs.declared.network.IpNetwork.{IpNetwork}
use Rattle.mmdb_query.specs.Had.{Had, IsNetworkOf}

-- the row of a network: its text, what each row has before that, and what its records have after it
pub record IsRow (front : List ℕ) (ends : List (Option ℕ) → List ℕ → Type 0) (had : Had) (row : List ℕ) : Type 0 where
  pub network : IpNetwork
  pub tail : List ℕ
  pub is_network : IsNetworkOf had network
  pub is_tail : ends had.offsets tail
  pub whole : row ≡ (front ++ short_text_of network) ++ tail

-- the row of a network up to that
abbrev pub IsBegun : List ℕ → Had → List ℕ → Type 0
IsBegun front had line = (network : IpNetwork) × IsNetworkOf had network × (line ≡ front ++ short_text_of network)

-- nothing is to be said
abbrev pub nothing : Unit {0}
nothing = tt

-- what is written of a network is its row, by a template
abbrev pub puts_row : {T : Type 0} → (T → List ℕ) → (T → List (List ℕ) → List (Option ℕ) → List ℕ → Type 0) → T → List (List ℕ)
    → Had → Unit {0} → List ℕ → Unit {0} → Type 0
puts_row front is_tail template s had old text new = IsRow (front template) (is_tail template s) had text

-- a line grows by what a row has after its network
abbrev pub PutsTail : (List ℕ → Type 0) → List ℕ → List ℕ → Type 0
PutsTail is_tail old new = (tail : List ℕ) × is_tail tail × (new ≡ old ++ tail)
