-- Runs of bytes that pass a test, seen a vector at a time through the mask of those that fail it.
use Rattle.std.proofs.Common.{◌≡◌, ℕ, ◌+◌, ◌*◌, ◌%◌, ◌^◌, ◌<◌, ◌≤◌, Bool, true, false, not, ◌||◌, cond, eqb, List, [], ◌∷◌, map, length, drop, get_or, refl, sym, ap, ap₂, ◌∙◌, arith}
use Rattle.std.proofs.lemmas.Simd.{chunk-drop, length-chunk, leading_from_mask_l, trailing_mask_l, mask_l-mod, zip2_splat, zip2_of_maps}
use Rattle.std.proofs.lemmas.List.{length-drop, length-map}
use Rattle.std.proofs.lemmas.List.Folds.{prefix_len-append}
use Rattle.std.proofs.lemmas.List.Sums.{prefix_len-le-length, prefix_len_is}
use Rattle.std.proofs.lemmas.Bool.{eq-eqb, ne_eqb}
use Rattle.std.specs.List.{prefix_len}
use lib.Bits.{bit_or}
use lib.Count.{count_trailing_zeros}
use lib.Lanes.{zip2, mask_l, top, chunk}
use lib.ListN.{replicate}
use Rattle.mmdb_filter.specs.Runs.{is_either, is_neither}

-- ---- lanes

abbrev pub hit : ℕ → ℕ → ℕ
hit a b = cond (eqb a b) 255 0

one_of_two : (s t : Bool) → top 7 (bit_or (cond s 255 0) (cond t 255 0)) ≡ (s || t)
one_of_two true true = refl
one_of_two true false = refl
one_of_two false true = refl
one_of_two false false = refl

tops : (a b : ℕ) (v : List ℕ) → map (top 7) (map (λ x. bit_or (hit x a) (hit x b)) v) ≡ map (is_either a b) v
tops a b [] = refl
tops a b (x ∷ xs) = ap₂ (λ t r. t ∷ r) (one_of_two (eqb x a) (eqb x b)) (tops a b xs)

-- the mask of the bytes that are one of two
pub marked : (a b : ℕ) (v : List ℕ) → length v ≡ 16 → mask_l (map (top 7) (zip2 bit_or (zip2 hit v (replicate 16 a)) (zip2 hit v (replicate 16 b)))) % 2 ^ 64 ≡ mask_l (map (is_either a b) v)
marked a b v long =
    let lanes = zip2_of_maps bit_or (λ x. hit x a) (λ x. hit x b) v (zip2_splat hit v 16 a long) (zip2_splat hit v 16 b long) in
    ap (λ l. mask_l l % 2 ^ 64) (ap (map (top 7)) lanes ∙ tops a b v) ∙ mask_l-mod (map (is_either a b) v) 64 (omega (arith, length-map v (is_either a b)))

-- ---- runs

pub run_bound : (q : ℕ → Bool) (d : List ℕ) (i : ℕ) → i ≤ length d → i + prefix_len q (drop i d) ≤ length d
run_bound q d i h = omega (arith, prefix_len-le-length q (drop i d), length-drop i d)

none_fails : (b : Bool) (n l m : ℕ) → n ≤ l → cond (not b) (1 + n) 0 ≡ 1 + l → (n ≡ l → m ≡ 0) → cond b 1 0 + 2 * m ≡ 0
none_fails true n l m le e ih = let never : ⊥ = omega arith in absurd never
none_fails false n l m le e ih = let z = ih (omega arith) in omega arith

module _ (p q : ℕ → Bool) (opposite : (x : ℕ) → q x ≡ not (p x)) where
  same_run : (xs : List ℕ) → prefix_len q xs ≡ prefix_len (λ x. not (p x)) xs
  same_run [] = refl
  same_run (x ∷ xs) = ap₂ (λ b n. cond b (1 + n) 0) (opposite x) (same_run xs)

  all_pass : (xs : List ℕ) → prefix_len (λ x. not (p x)) xs ≡ length xs → mask_l (map p xs) ≡ 0
  all_pass [] e = refl
  all_pass (x ∷ xs) e = none_fails (p x) _ (length xs) _ (prefix_len-le-length (λ y. not (p y)) xs) (omega arith) (all_pass xs)

  split : (d : List ℕ) (i n : ℕ) → prefix_len q (drop i d) ≡ cond (eqb (prefix_len q (chunk i n d)) (length (chunk i n d))) (length (chunk i n d) + prefix_len q (drop (i + n) d)) (prefix_len q (chunk i n d))
  split d i n = ap (prefix_len q) (chunk-drop i n d) ∙ prefix_len-append q (chunk i n d) (drop (i + n) d)

  pub run_through : (d : List ℕ) (i n : ℕ) → i + n ≤ length d → mask_l (map p (chunk i n d)) ≡ 0 → prefix_len q (drop i d) ≡ n + prefix_len q (drop (i + n) d)
  run_through d i n room none =
      let c = chunk i n d in
      split d i n ∙ ap (λ b. cond b (length c + prefix_len q (drop (i + n) d)) (prefix_len q c)) (eq-eqb _ _ (same_run c ∙ leading_from_mask_l p c none))
      ∙ ap (λ k. k + prefix_len q (drop (i + n) d)) (length-chunk i n d room)

  pub run_stops : (d : List ℕ) (i n : ℕ) → i + n ≤ length d → n ≤ 64 → 0 < mask_l (map p (chunk i n d)) → prefix_len q (drop i d) ≡ count_trailing_zeros 64 (mask_l (map p (chunk i n d)))
  run_stops d i n room short some =
      let c = chunk i n d in
      split d i n ∙ ap (λ b. cond b (length c + prefix_len q (drop (i + n) d)) (prefix_len q c)) (ne_eqb _ _ (λ (e : prefix_len q c ≡ length c). omega (arith, all_pass c (sym (same_run c) ∙ e))))
      ∙ same_run c ∙ sym (trailing_mask_l p 64 c (omega (arith, length-chunk i n d room)) some)

-- ---- a search that looks far

stays : (b : Bool) → (b ≡ true → ⊥) → not b ≡ true
stays true h = absurd (h refl)
stays false h = refl

pub far_found : (a b n : ℕ) (s d : List ℕ) → s ≡ d → n < length s → ((k : ℕ) → k < n → is_either a b (get_or s k 0) ≡ true → ⊥) → is_either a b (get_or s n 0) ≡ true → prefix_len (is_neither a b) d ≡ n
far_found a b n s d e l before here =
    ap (prefix_len (is_neither a b)) (sym e) ∙ prefix_len_is (is_neither a b) s n 0 (omega arith) (λ k below. stays (is_either a b (get_or s k 0)) (before k below)) (λ _. ap not here)

pub far_missed : (a b : ℕ) (s d : List ℕ) → s ≡ d → ((k : ℕ) → k < length s → is_either a b (get_or s k 0) ≡ true → ⊥) → prefix_len (is_neither a b) d ≡ length d
far_missed a b s d e before =
    ap (prefix_len (is_neither a b)) (sym e) ∙ prefix_len_is (is_neither a b) s (length s) 0 (omega arith) (λ k below. stays (is_either a b (get_or s k 0)) (before k below)) (λ over. absurd (omega arith)) ∙ ap length e
