-- Whether a walk below a range stops seldom enough, as a walker says it and as the contract does.
use Rattle.std.proofs.Common.{◌≡◌, ℕ, ◌+◌, ◌-◌, ◌*◌, ◌≤◌, nat_le, Bool, List, length, take, ap, sym, ◌∙◌}
use Rattle.mmdb_net.specs.Bits.{bits_of}
use Rattle.mmdb_tree.specs.Stops.{WalkedTree, stops_below}
use Rattle.mmdb_reader.specs.File.{Database, width}
use Rattle.mmdb_reader.specs.Stops.{walked_tree, stops_in, has_few_stops}
use Rattle.mmdb_reader.proofs.RangeLemmas.{length-range}

pub few-stops : (db : Database) (walked : WalkedTree) (wide prefix address most : ℕ) (block : List Bool) → walked ≡ walked_tree db → wide ≡ width db → prefix ≤ width db → take prefix (bits_of (width db) address) ≡ block → most ≡ 3 * db.metadata.node_count + 1
    → nat_le (length (stops_below walked (wide - prefix) (take prefix (bits_of wide address)))) most ≡ has_few_stops db block
few-stops db walked wide prefix address most block same w within is few =
    ap (λ (n : ℕ). nat_le (length (stops_below walked (n - prefix) (take prefix (bits_of n address)))) most) w
    ∙ ap (λ (t : WalkedTree). nat_le (length (stops_below t (width db - prefix) (take prefix (bits_of (width db) address)))) most) same
    ∙ ap (λ (n : ℕ). nat_le (length (stops_below (walked_tree db) (width db - n) (take prefix (bits_of (width db) address)))) most) (sym (length-range (width db) prefix address within))
    ∙ ap (λ (bits : List Bool). nat_le (length (stops_below (walked_tree db) (width db - length bits) bits)) most) is
    ∙ ap (nat_le (length (stops_in db block))) few
