-- The last run of a text, seen in its last 16 bytes, of which those ahead are left out of the mask.
use Rattle.std.proofs.Common.{◌≡◌, ◌+◌, ◌-◌, ◌/◌, ◌^◌, ◌<◌, ◌≤◌, ℕ, zero, suc, List, map, length, drop, refl, sym, ap, ◌∙◌, arith}
use Rattle.std.proofs.lemmas.List.{drop_all}
use Rattle.std.specs.List.{prefix_len}
use lib.Count.{count_trailing_zeros}
use lib.Lanes.{mask_l, chunk}
use Rattle.mmdb_objects.specs.Scanned.{is_stop, is_plain}
use Rattle.mmdb_filter.proofs.RunLaws.{run_through, run_stops}
use Rattle.mmdb_objects.proofs.VectorLaws.{mask_behind}

behind : (d : List ℕ) (from found : ℕ) → from ≤ length d → length d < from + 16 → 16 ≤ length d → found ≡ mask_l (map is_stop (chunk (length d - 16) 16 d))
    → found / 2 ^ (from + 16 - length d) ≡ mask_l (map is_stop (chunk from (length d - from) d))
behind d from found low few long is =
    ap (λ x. x / 2 ^ (from + 16 - length d)) is ∙ mask_behind is_stop d (length d - 16) (from + 16 - length d) (length d - from) from 16 (omega arith) (omega arith)

positive : (y : ℕ) → (y ≡ 0 → ⊥) → 0 < y
positive zero some = absurd (some refl)
positive (suc y) some = omega arith

above : {x y : ℕ} → x ≡ y → (x ≡ 0 → ⊥) → 0 < y
above {x} {y} e some = positive y (λ none. some (e ∙ none))

pub last_run_through : (d : List ℕ) (from found : ℕ) → from ≤ length d → length d < from + 16 → 16 ≤ length d → found ≡ mask_l (map is_stop (chunk (length d - 16) 16 d))
    → found / 2 ^ (from + 16 - length d) ≡ 0 → length d ≡ from + prefix_len is_plain (drop from d)
last_run_through d from found low few long is none =
    let n = length d - from in
    let run = run_through is_stop is_plain (λ x. refl) d from n (omega arith) (sym (behind d from found low few long is) ∙ none) in
    let over = ap (prefix_len is_plain) (drop_all (from + n) d (omega arith)) in
    omega (arith, run, over)

pub last_run_stops : (d : List ℕ) (from found : ℕ) → from ≤ length d → length d < from + 16 → 16 ≤ length d → found ≡ mask_l (map is_stop (chunk (length d - 16) 16 d))
    → (found / 2 ^ (from + 16 - length d) ≡ 0 → ⊥) → count_trailing_zeros 64 (found / 2 ^ (from + 16 - length d)) ≡ prefix_len is_plain (drop from d)
last_run_stops d from found low few long is some =
    let mask = behind d from found low few long is in
    let positive : 0 < mask_l (map is_stop (chunk from (length d - from) d)) = above mask some in
    ap (count_trailing_zeros 64) mask ∙ sym (run_stops is_stop is_plain (λ x. refl) d from (length d - from) (omega arith) (omega arith) positive)
