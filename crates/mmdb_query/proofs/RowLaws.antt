-- The rows of networks.
use Rattle.std.proofs.Common.{ℕ, List, ◌++◌, Option, ap}
use Rattle.mmdb_query.specs.Had.{Had}
use Rattle.mmdb_query.specs.Rows.{IsRow, IsBegun}

-- a row that is begun, and what it has after that
pub row_of : (front : List ℕ) (ends : List (Option ℕ) → List ℕ → Type 0) (had : Had) (line tail : List ℕ) → IsBegun front had line → ends had.offsets tail → IsRow front ends had (line ++ tail)
row_of front ends had line tail (network, is, begun) tails =
    record { network = network; tail = tail; is_network = is; is_tail = tails; whole = ap (λ l. l ++ tail) begun }
