use Rattle.std.proofs.Common.{◌≡◌, ◌≢◌, ℕ, ◌-◌, ◌<◌, ◌≤◌, not, eqb, List, length, get_or, take, drop, sym, ap, ◌∙◌, arith}
use Rattle.std.proofs.lemmas.Bool.{ne_eqb, eq-eqb}
use Rattle.std.proofs.lemmas.List.{take_rest}
use Rattle.std.proofs.lemmas.List.Sums.{suffix_len_is}
use Rattle.std.specs.List.{suffix_len}
use Rattle.mmdb_addresses.specs.Cells.{last_hop}
use Rattle.mmdb_addresses.proofs.cells.last_hop.Goals as goal
use Rattle.mmdb_addresses.proofs.cells.last_hop.Goals.{then-loop-at-test+else-cell-at-ne44, else-loop-at-test}

hop_is : (cell : List ℕ) (at : ℕ) → at ≤ length cell → ((k : ℕ) → at ≤ k → k < length cell → get_or cell k 0 ≢ 44) → (0 < at → get_or cell (at - 1) 0 ≡ 44)
    → take (length cell - at) (drop at cell) ≡ last_hop cell
hop_is cell at high none stops =
    let len : suffix_len (λ x. not (eqb x 44)) cell ≡ length cell - at = suffix_len_is (λ x. not (eqb x 44)) cell at 0 high (λ k from l. ap not (ne_eqb _ _ (none k from l))) (λ some. ap not (eq-eqb _ _ (stops some))) in
    let back : length cell - suffix_len (λ x. not (eqb x 44)) cell ≡ at = omega arith in
    take_rest cell at ∙ ap (λ n. drop n cell) (sym back)

pub returns : goal.returns
returns c =
    hop_is c.args.cell.now c.loop-at.at c.loop-at.invariant.within c.loop-at.invariant.none
    (λ some. elim c.loop-at-test.branch [ then-loop-at-test+else-cell-at-ne44 w ↦ omega arith | else-loop-at-test w ↦ absurd (omega arith) ])
