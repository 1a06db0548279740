-- The mask of the bytes that pass a test, computed lane by lane.
use Rattle.std.proofs.Common.{◌≡◌, ℕ, zero, suc, ◌+◌, ◌*◌, ◌%◌, ◌/◌, ◌^◌, ◌<◌, ◌≤◌, ltb, Bool, true, false, not, ◌&&◌, cond, eqb, T, List, [], ◌∷◌, map, length, take, drop, ◌⊎◌, inl, inr, refl, sym, ap, ap₂, ◌∙◌, subst, arith, w8, Fits, not-suc-le-zero}
use Rattle.std.proofs.lemmas.Simd.{mask_l-mod, length-chunk, trailing_mask_l}
use Rattle.std.proofs.lemmas.List.{length-map, drop-drop}
use Rattle.std.proofs.Math.Nat.{pow-succ', div-div-eq-div-mul, div-one, zero-div}
use Rattle.std.proofs.lemmas.Bool.{cases_order}
use Rattle.std.specs.List.{prefix_len}
use lib.Bits.{bit_or}
use lib.Count.{count_trailing_zeros}
use lib.Lanes.{zip2, mask_l, top, chunk, Each1}

-- ---- lanes

abbrev pub hit : ℕ → ℕ → ℕ
hit a b = cond (eqb a b) 255 0

abbrev pub below : ℕ → ℕ → ℕ
below a b = cond (ltb a b) 255 0

zip2-map : (f g : ℕ → ℕ) (xs : List ℕ) → zip2 bit_or (map f xs) (map g xs) ≡ map (λ x. bit_or (f x) (g x)) xs
zip2-map f g [] = refl
zip2-map f g (x ∷ xs) = ap (λ r. bit_or (f x) (g x) ∷ r) (zip2-map f g xs)

pub either : (f g : ℕ → ℕ) (v : List ℕ) {a b : List ℕ} → a ≡ map f v → b ≡ map g v → zip2 bit_or a b ≡ map (λ x. bit_or (f x) (g x)) v
either f g v p q = ap₂ (zip2 bit_or) p q ∙ zip2-map f g v

-- a fact of each number below n, by computation
abbrev pub upto : (ℕ → Bool) → ℕ → Bool
upto p zero = true
upto p (suc n) = p n && upto p n

both : (a b : Bool) → T (a && b) → T a × T b
both true b h = (tt, h)
both false b h = absurd h

at_or_below : (p : ℕ → Bool) (i n : ℕ) → T (p n) → (i < n → T (p i)) → i < suc n → (i ≡ n) ⊎ ((i < n) ⊎ (n < i)) → T (p i)
at_or_below p i n here less lt (inl e) = subst (λ x. T (p x)) (sym e) here
at_or_below p i n here less lt (inr (inl l)) = less l
at_or_below p i n here less lt (inr (inr g)) = let never : ⊥ = omega arith in absurd never

upto_sound : (p : ℕ → Bool) (n : ℕ) → T (upto p n) → (i : ℕ) → i < n → T (p i)
upto_sound p zero h i lt = absurd (not-suc-le-zero lt)
upto_sound p (suc n) h i lt =
    let parts = both (p n) (upto p n) h in
    at_or_below p i n parts.0 (upto_sound p n parts.1 i) lt (cases_order i n)

abbrev pub same : Bool → Bool → Bool
same a b = cond a b (not b)

same_is : (a b : Bool) → T (same a b) → a ≡ b
same_is true true h = refl
same_is false false h = refl
same_is true false h = absurd h
same_is false true h = absurd h

each_byte : (f : ℕ → ℕ) (p : ℕ → Bool) → T (upto (λ x. same (top 7 (f x)) (p x)) 256) → (v : List ℕ) → Each1 (Fits w8) v → map (top 7) (map f v) ≡ map p v
each_byte f p all [] fits = refl
each_byte f p all (x ∷ xs) fits = ap₂ (λ a b. a ∷ b) (same_is _ _ (upto_sound (λ y. same (top 7 (f y)) (p y)) 256 all x fits.0.fits)) (each_byte f p all xs fits.1)

-- a mask that is computed lane by lane is that of a test which agrees at each byte
pub masked : (f : ℕ → ℕ) (p : ℕ → Bool) (v z : List ℕ) → length v ≤ 64 → Each1 (Fits w8) v → z ≡ map f v → T (upto (λ x. same (top 7 (f x)) (p x)) 256)
    → mask_l (map (top 7) z) % 2 ^ 64 ≡ mask_l (map p v)
masked f p v z short fits e all =
    ap (λ l. mask_l l % 2 ^ 64) (ap (map (top 7)) e ∙ each_byte f p all v fits) ∙ mask_l-mod (map p v) 64 (omega (arith, length-map v p))

-- ---- the first lane that passes

first_step : (b : Bool) (n l m : ℕ) → 0 < cond b 1 0 + 2 * m → (0 < m → n < l) → cond (not b) (1 + n) 0 < suc l
first_step true n l m some ih = omega arith
first_step false n l m some ih = let lower = ih (omega arith) in omega arith

first_inside : (p : ℕ → Bool) (xs : List ℕ) → 0 < mask_l (map p xs) → prefix_len (λ x. not (p x)) xs < length xs
first_inside p [] some = let never : ⊥ = omega arith in absurd never
first_inside p (x ∷ xs) some = first_step (p x) _ (length xs) (mask_l (map p xs)) some (first_inside p xs)

-- where a bit of the mask of a load is set, the lowest is of a byte of the text
pub stop_within : (p : ℕ → Bool) (d : List ℕ) (i n : ℕ) → i + n ≤ length d → n ≤ 64 → 0 < mask_l (map p (chunk i n d)) → i + count_trailing_zeros 64 (mask_l (map p (chunk i n d))) < length d
stop_within p d i n room short some =
    let long = length-chunk i n d room in
    omega (arith, long, trailing_mask_l p 64 (chunk i n d) (omega (arith, long)) some, first_inside p (chunk i n d) some)

pub twice_not : (b : Bool) → b ≡ not (not b)
twice_not true = refl
twice_not false = refl

-- ---- the lanes after some

halved : (b : Bool) (m : ℕ) → (cond b 1 0 + 2 * m) / 2 ≡ m
halved true m = omega arith
halved false m = omega arith

one_less : (b : Bool) (m k : ℕ) → (cond b 1 0 + 2 * m) / 2 ^ suc k ≡ m / 2 ^ k
one_less b m k =
    ap (λ d. (cond b 1 0 + 2 * m) / d) (pow-succ' 2 k) ∙ sym (div-div-eq-div-mul (cond b 1 0 + 2 * m) 2 (2 ^ k)) ∙ ap (λ x. x / 2 ^ k) (halved b m)

one_ahead : (k n : ℕ) → suc k + n ≡ suc (k + n)
one_ahead k n = omega arith

none_ahead : (n : ℕ) → 0 + n ≡ n
none_ahead n = omega arith

none_taken : (n : ℕ) → take {A = ℕ} n [] ≡ []
none_taken zero = refl
none_taken (suc n) = refl

masked_behind : (p : ℕ → Bool) (xs : List ℕ) (k n : ℕ) → mask_l (map p (take (k + n) xs)) / 2 ^ k ≡ mask_l (map p (take n (drop k xs)))
masked_behind p xs zero n = ap (λ m. mask_l (map p (take m xs)) / 1) (none_ahead n) ∙ div-one (mask_l (map p (take n xs)))
masked_behind p [] (suc k) n =
    ap (λ l. mask_l (map p l) / 2 ^ suc k) (none_taken (suc k + n)) ∙ zero-div (2 ^ suc k) ∙ sym (ap (λ l. mask_l (map p l)) (none_taken n))
masked_behind p (x ∷ xs) (suc k) n =
    ap (λ m. mask_l (map p (take m (x ∷ xs))) / 2 ^ suc k) (one_ahead k n) ∙ one_less (p x) (mask_l (map p (take (k + n) xs))) k ∙ masked_behind p xs k n

-- a mask without its lowest bits is that of a load further on
pub mask_behind : (p : ℕ → Bool) (d : List ℕ) (i k n from size : ℕ) → k + n ≡ size → i + k ≡ from → mask_l (map p (chunk i size d)) / 2 ^ k ≡ mask_l (map p (chunk from n d))
mask_behind p d i k n from size whole there =
    ap (λ s. mask_l (map p (take s (drop i d))) / 2 ^ k) (sym whole) ∙ masked_behind p (drop i d) k n
    ∙ ap (λ l. mask_l (map p (take n l))) (drop-drop k i d ∙ ap (λ a. drop a d) there)
