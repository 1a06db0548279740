-- The numbers of records.
use Rattle.std.proofs.Common.{◌≡◌, ℕ, ◌+◌, ◌*◌, ◌/◌, ◌%◌, List, [], ◌∷◌, Option, Some, None, refl, sym, ap, ◌∙◌, arith}
use Rattle.std.proofs.lemmas.Nat.{div-mul-add, mod-mul-add}
use Rattle.mmdb_query.specs.Keys.{digit_of, radix_of, IsKeyFrom, IsKey}

-- digits that are the same are of the same offset
digit_same : (a b : Option ℕ) → digit_of a ≡ digit_of b → a ≡ b
digit_same None None e = refl
digit_same None (Some b) e = absurd (omega (arith, e))
digit_same (Some a) None e = absurd (omega (arith, e))
digit_same (Some a) (Some b) e = ap Some (omega (arith, e))

keys_same : (sections : List (List ℕ)) (m n : ℕ) (some others : List (Option ℕ)) (key : ℕ) → IsKeyFrom m sections some key → IsKeyFrom n sections others key → (m ≡ n) × (some ≡ others)
keys_same [] m n [] [] key a b = (sym a ∙ b, refl)
keys_same [] m n [] (o ∷ os) key a b = absurd b
keys_same [] m n (o ∷ os) others key a b = absurd a
keys_same (s ∷ sections) m n [] others key a b = absurd a
keys_same (s ∷ sections) m n (o ∷ os) [] key a b = absurd b
keys_same (s ∷ sections) m n (o ∷ os) (p ∷ ps) key a b =
    let r = radix_of s in
    let (number, rest) = keys_same sections (m * r + digit_of o) (n * r + digit_of p) os ps key a.1 b.1 in
    let front : m ≡ n = sym (div-mul-add m r (digit_of o) a.0) ∙ (ap (λ k. k / r) number ∙ div-mul-add n r (digit_of p) b.0) in
    let digit : digit_of o ≡ digit_of p = sym (mod-mul-add m r (digit_of o) a.0) ∙ (ap (λ k. k % r) number ∙ mod-mul-add n r (digit_of p) b.0) in
    (front, ap (λ q. q ∷ os) (digit_same o p digit) ∙ ap (λ qs. p ∷ qs) rest)

-- No other records have the same number.
pub one_key : (s : List (List ℕ)) (some others : List (Option ℕ)) (key : ℕ) → IsKey s some key → IsKey s others key → some ≡ others
one_key [] [] [] key a b = refl
one_key [] [] (p ∷ ps) key a b = absurd b
one_key [] (o ∷ os) others key a b = absurd a
one_key (s ∷ sections) [] others key a b = absurd a
one_key (s ∷ sections) (o ∷ os) [] key a b = absurd b
one_key (s ∷ sections) (o ∷ os) (p ∷ ps) key a b =
    let (digit, rest) = keys_same sections (digit_of o) (digit_of p) os ps key a b in
    ap (λ q. q ∷ os) (digit_same o p digit) ∙ ap (λ qs. p ∷ qs) rest
