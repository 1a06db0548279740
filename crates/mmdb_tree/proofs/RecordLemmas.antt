-- The numbers of a node, from loads of four bytes.
use Rattle.std.proofs.Common.{◌≡◌, ℕ, ◌+◌, ◌*◌, ◌/◌, ◌%◌, ◌^◌, ◌<◌, List, Bool, get_or, true, false, ap, arith, ◌∙◌, sym, subst, refl}
use Rattle.mmdb_tree.specs.Tree.{three_bytes, four_bytes, child_24, child_28, child_32, child}
use mir.Val.{bool_byte}

-- the bytes of a load
abbrev AreBytes : List ℕ → ℕ → Type 0
AreBytes bytes at = (k : ℕ) → k < 4 → get_or bytes (at + k) 0 < 256

module _ (bytes : List ℕ) (at : ℕ) (fit : AreBytes bytes at) where
  byte : (k place : ℕ) → k < 4 → place ≡ at + k → get_or bytes place 0 < 256
  byte k place h e = let P : ℕ → Type 0 = λ p. get_or bytes p 0 < 256 in subst P (sym e) (fit k h)

  without_last : four_bytes bytes at / 256 ≡ three_bytes bytes at
  without_last =
      let two : get_or bytes (at + 1 + 1) 0 ≡ get_or bytes (at + 2) 0 = ap (λ (p : ℕ). get_or bytes p 0) (omega arith) in
      let last = byte 3 (at + 1 + 2) (omega arith) (omega arith) in
      omega arith

  last_of : four_bytes bytes at % 256 ≡ get_or bytes (at + 3) 0
  last_of =
      let three : get_or bytes (at + 1 + 2) 0 ≡ get_or bytes (at + 3) 0 = ap (λ (p : ℕ). get_or bytes p 0) (omega arith) in
      let last = byte 3 (at + 1 + 2) (omega arith) (omega arith) in
      omega arith

  low_bits : four_bytes bytes at % 268435456 ≡ 2 ^ 24 * (get_or bytes at 0 % 16) + three_bytes bytes (at + 1)
  low_bits =
      let b = byte 1 (at + 1) (omega arith) (omega arith) in
      let c = byte 2 (at + 1 + 1) (omega arith) (omega arith) in
      let d = byte 3 (at + 1 + 2) (omega arith) (omega arith) in
      omega arith

pub record-24 : (bytes : List ℕ) (at place word : ℕ) (right : Bool) → place ≡ at + bool_byte right * 3 → word ≡ four_bytes bytes place → AreBytes bytes place → word / 256 ≡ child_24 bytes at right
record-24 bytes at place word true e is fit = ap (λ (n : ℕ). n / 256) is ∙ without_last bytes place fit ∙ ap (three_bytes bytes) e
record-24 bytes at place word false e is fit = let same : place ≡ at = omega arith in ap (λ (n : ℕ). n / 256) is ∙ without_last bytes place fit ∙ ap (three_bytes bytes) same

pub record-28 : (bytes : List ℕ) (at place word middle high number : ℕ) (right : Bool) → place ≡ at + bool_byte right * 4 → word ≡ four_bytes bytes place → AreBytes bytes place → middle ≡ get_or bytes (at + 3) 0 → (right ≡ true → high ≡ middle % 16) → (right ≡ false → high ≡ middle / 16)
    → number ≡ word / 256 + high * 16777216 → number ≡ child_28 bytes at right
record-28 bytes at place word middle high number true e is fit m on off sum =
    let low : word / 256 ≡ three_bytes bytes (at + 4) = ap (λ (n : ℕ). n / 256) is ∙ without_last bytes place fit ∙ ap (three_bytes bytes) e in
    let top : high ≡ get_or bytes (at + 3) 0 % 16 = on refl ∙ ap (λ (n : ℕ). n % 16) m in
    omega (arith, sum, low, top)
record-28 bytes at place word middle high number false e is fit m on off sum =
    let same : place ≡ at = omega arith in
    let low : word / 256 ≡ three_bytes bytes at = ap (λ (n : ℕ). n / 256) is ∙ without_last bytes place fit ∙ ap (three_bytes bytes) same in
    let top : high ≡ get_or bytes (at + 3) 0 / 16 = off refl ∙ ap (λ (n : ℕ). n / 16) m in
    omega (arith, sum, low, top)

pub record-32 : (bytes : List ℕ) (at place word : ℕ) (right : Bool) → place ≡ at + bool_byte right * 4 → word ≡ four_bytes bytes place → word ≡ child_32 bytes at right
record-32 bytes at place word true e is = is ∙ ap (four_bytes bytes) e
record-32 bytes at place word false e is = let same : place ≡ at = omega arith in is ∙ ap (four_bytes bytes) same

pub left-28 : (bytes : List ℕ) (at word : ℕ) → word ≡ four_bytes bytes at → AreBytes bytes at → word / 256 + word % 256 / 16 * 16777216 ≡ child_28 bytes at false
left-28 bytes at word is fit =
    let high : word / 256 ≡ three_bytes bytes at = ap (λ (n : ℕ). n / 256) is ∙ without_last bytes at fit in
    let low : word % 256 ≡ get_or bytes (at + 3) 0 = ap (λ (n : ℕ). n % 256) is ∙ last_of bytes at fit in
    let parts : word % 256 / 16 ≡ get_or bytes (at + 3) 0 / 16 = ap (λ (n : ℕ). n / 16) low in
    omega arith

pub right-28 : (bytes : List ℕ) (at word : ℕ) → word ≡ four_bytes bytes (at + 3) → AreBytes bytes (at + 3) → word % 268435456 ≡ child_28 bytes at true
right-28 bytes at word is fit =
    let next : at + 3 + 1 ≡ at + 4 = omega arith in
    ap (λ (n : ℕ). n % 268435456) is ∙ low_bits bytes (at + 3) fit ∙ ap (λ (p : ℕ). 2 ^ 24 * (get_or bytes (at + 3) 0 % 16) + three_bytes bytes p) next

pub child-24 : (bytes : List ℕ) (size node : ℕ) (right : Bool) → size ≡ 24 → child bytes size node right ≡ child_24 bytes (node * 6) right
unfolding child
child-24 bytes size node right e = rw e refl

pub child-28 : (bytes : List ℕ) (size node : ℕ) (right : Bool) → size ≡ 28 → child bytes size node right ≡ child_28 bytes (node * 7) right
unfolding child
child-28 bytes size node right e = rw e refl

pub child-32 : (bytes : List ℕ) (size node : ℕ) (right : Bool) → size ≡ 32 → child bytes size node right ≡ child_32 bytes (node * 8) right
unfolding child
child-32 bytes size node right e = rw e refl
