-- Bytes of one, two and three that are characters.
use Rattle.std.proofs.Common.{◌≡◌, ℕ, Bool, true, false, suc, ◌+◌, ◌-◌, ◌*◌, ◌/◌, ◌≤◌, ◌<◌, List, [], ◌∷◌, length, take, drop, refl, sym, ap, ◌∙◌, subst, arith}
use Rattle.std.proofs.Math.ListN.{get_or}
use Rattle.std.proofs.Math.Seq.{drop-cons}
use Rattle.std.proofs.Math.Utf8.{encode, next, low_scalar}
use Rattle.std.proofs.Math.Dec.{ltb}
use Rattle.std.proofs.lemmas.Bool.{le-ltb, lt-ltb, ltb-true, ltb-false}
use Rattle.std.proofs.lemmas.List.{get_or-take, get_or-drop, get_or_past, length-take}
use Rattle.std.proofs.lemmas.Str.{IsUtf8-encode, IsUtf8-from_ascii, encode_ascii}
use Rattle.std.specs.Str.{IsUtf8}

two : (c : ℕ) → 128 ≤ c → c < 2048 → encode c ≡ (192 + c / 64) ∷ next c ∷ []
unfolding encode
two c l h = rw (le-ltb c 128 l, lt-ltb c 2048 h) refl

three : (c : ℕ) → 2048 ≤ c → c < 65536 → encode c ≡ (224 + c / 4096) ∷ next (c / 64) ∷ next c ∷ []
unfolding encode
three c l h = rw (le-ltb c 128 (omega arith), le-ltb c 2048 l, lt-ltb c 65536 h) refl

-- a character is text
char : (l : List ℕ) (c : ℕ) → c < 55296 → l ≡ encode c → IsUtf8 l
char l c h e = subst IsUtf8 (sym e) (IsUtf8-encode c (low_scalar c h))

-- the byte k offsets on, and what follows it
step : (bs : List ℕ) (at k : ℕ) → at + k < length bs → drop (at + k) bs ≡ get_or bs (at + k) 0 ∷ drop (at + (k + 1)) bs
step bs at k h = let e : suc (at + k) ≡ at + (k + 1) = omega arith in drop-cons bs (at + k) 0 h ∙ ap (λ (n : ℕ). get_or bs (at + k) 0 ∷ drop n bs) e

first : (bs : List ℕ) (at : ℕ) → at < length bs → drop at bs ≡ get_or bs at 0 ∷ drop (at + 1) bs
first bs at h = let e : suc at ≡ at + 1 = omega arith in drop-cons bs at 0 h ∙ ap (λ (n : ℕ). get_or bs at 0 ∷ drop n bs) e

pub of_one : (bs : List ℕ) (at : ℕ) → at < length bs → get_or bs at 0 < 128 → IsUtf8 (take 1 (drop at bs))
of_one bs at l h = let x = get_or bs at 0 in char _ x (omega arith) (ap (take 1) (first bs at l) ∙ sym (encode_ascii x h))

pub of_two : (bs : List ℕ) (at : ℕ) → at + 1 < length bs → (194 ≤ get_or bs at 0) × (get_or bs at 0 < 224) → (128 ≤ get_or bs (at + 1) 0) × (get_or bs (at + 1) 0 < 192) → IsUtf8 (take 2 (drop at bs))
of_two bs at l h f =
    let x = get_or bs at 0 in
    let y = get_or bs (at + 1) 0 in
    let c = (x - 192) * 64 + (y - 128) in
    let p : x ≡ 192 + c / 64 = omega arith in
    let q : y ≡ next c = omega arith in
    char _ c (omega arith) (ap (take 2) (first bs at (omega arith) ∙ ap (λ l'. x ∷ l') (step bs at 1 l)) ∙ (λ k. p k ∷ q k ∷ []) ∙ sym (two c (omega arith) (omega arith)))

pub of_three : (bs : List ℕ) (at : ℕ) → at + 2 < length bs → (225 ≤ get_or bs at 0) × (get_or bs at 0 < 237) → (128 ≤ get_or bs (at + 1) 0) × (get_or bs (at + 1) 0 < 192) → (128 ≤ get_or bs (at + 2) 0) × (get_or bs (at + 2) 0 < 192) → IsUtf8 (take 3 (drop at bs))
of_three bs at l h f g =
    let x = get_or bs at 0 in
    let y = get_or bs (at + 1) 0 in
    let z = get_or bs (at + 2) 0 in
    let c = (x - 224) * 4096 + (y - 128) * 64 + (z - 128) in
    let p : x ≡ 224 + c / 4096 = omega arith in
    let q : y ≡ next (c / 64) = omega arith in
    let r : z ≡ next c = omega arith in
    char _ c (omega arith) (ap (take 3) (first bs at (omega arith) ∙ ap (λ l'. x ∷ l') (step bs at 1 (omega arith) ∙ ap (λ l'. y ∷ l') (step bs at 2 l))) ∙ (λ k. p k ∷ q k ∷ r k ∷ []) ∙ sym (three c (omega arith) (omega arith)))

-- bytes of ASCII in a row are text
low : (bs : List ℕ) (at n i : ℕ) (b : Bool) → ltb i n ≡ b → ((k : ℕ) → at ≤ k → k < at + n → get_or bs k 0 < 128) → get_or (take n (drop at bs)) i 0 < 128
low bs at n i true e h = let l = ltb-true i n e in rw (get_or-take n (drop at bs) i 0 l, get_or-drop at bs i 0) (h (at + i) (omega arith) (omega (arith, l)))
low bs at n i false e h = let l = ltb-false i n e in rw (get_or_past (take n (drop at bs)) i 0 (omega (arith, l, length-take n (drop at bs)))) (omega arith)

pub of_ascii : (bs : List ℕ) (at n : ℕ) → ((k : ℕ) → at ≤ k → k < at + n → get_or bs k 0 < 128) → IsUtf8 (take n (drop at bs))
of_ascii bs at n h = IsUtf8-from_ascii (take n (drop at bs)) (λ i. low bs at n i (ltb i n) refl h)
