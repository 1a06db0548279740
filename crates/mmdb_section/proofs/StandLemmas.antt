-- Bytes, wherever they are.
use Rattle.std.proofs.Common.{◌≡◌, ℕ, ◌+◌, leb, cond, true, List, [], ◌∷◌, ◌++◌, length, take, drop, Option, Some, Result, Ok, Err, IfOk, OnOk, refl, ap, sym, ◌∙◌, subst, arith, append_assoc, length-append}
use Rattle.std.specs.Result.{is_ok}
use Rattle.std.specs.List.{slice_get}
use Rattle.std.proofs.lemmas.Bool.Decides.{nat_tests}
use Rattle.std.proofs.Math.Seq.{take-append_seam, drop-append_seam}
use Rattle.mmdb_format.specs.Header.{◌>>=◌, big_endian, bytes_at, number_at}
use Rattle.mmdb_section.specs.Working.{Appends, Stands}

-- what was put after others
pub put : {E : Type 0} (r : Result (Unit {0}) E) (P : List ℕ → Type 0) (old xs new : List ℕ) → new ≡ cond (is_ok r) (old ++ xs) old → P xs → OnOk r (Appends P old new)
put (Ok x) P old xs new is h = record { more = xs; grown = is; is = h }
put (Err e) P old xs new is h = tt

-- what was put after no bytes
pub alone : (P : List ℕ → Type 0) (old new : List ℕ) → old ≡ [] → Appends P old new → P new
alone P old new none a = subst P (sym (a.grown ∙ ap (λ (xs : List ℕ). xs ++ a.more) none)) a.is

-- two of them, one after the other
pub both : (P Q R : List ℕ → Type 0) (old mid new : List ℕ) → ((xs ys : List ℕ) → P xs → Q ys → R (xs ++ ys)) → Appends P old mid → Appends Q mid new → Appends R old new
both P Q R old mid new f a b = record { more = a.more ++ b.more; grown = b.grown ∙ ap (λ (xs : List ℕ). xs ++ b.more) a.grown ∙ append_assoc old a.more b.more; is = f a.more b.more a.is b.is }

pub both_put : {E : Type 0} (r : Result (Unit {0}) E) (P Q R : List ℕ → Type 0) (old mid new : List ℕ) → ((xs ys : List ℕ) → P xs → Q ys → R (xs ++ ys)) → Appends P old mid → OnOk r (Appends Q mid new) → OnOk r (Appends R old new)
both_put (Ok x) P Q R old mid new f a b = both P Q R old mid new f a b
both_put (Err e) P Q R old mid new f a b = tt

pub weaker_put : {E : Type 0} (r : Result (Unit {0}) E) (P Q : List ℕ → Type 0) (old new : List ℕ) → ((xs : List ℕ) → P xs → Q xs) → OnOk r (Appends P old new) → OnOk r (Appends Q old new)
weaker_put (Ok x) P Q old new f a = record { more = a.more; grown = a.grown; is = f a.more a.is }
weaker_put (Err e) P Q old new f a = tt

-- what was put, with a number that the call answers
pub weaker_if : {E : Type 0} (r : Result ℕ E) (P Q : ℕ → List ℕ → Type 0) (old new : List ℕ) → ((n : ℕ) (xs : List ℕ) → P n xs → Q n xs) → IfOk r (λ n. Appends (P n) old new) → IfOk r (λ n. Appends (Q n) old new)
weaker_if (Ok n) P Q old new f a = record { more = a.more; grown = a.grown; is = f n a.more a.is }
weaker_if (Err e) P Q old new f a = tt

pub both_if : {E : Type 0} (r : Result ℕ E) (P : List ℕ → Type 0) (Q R : ℕ → List ℕ → Type 0) (old mid new : List ℕ) → ((n : ℕ) (xs ys : List ℕ) → P xs → Q n ys → R n (xs ++ ys)) → Appends P old mid → IfOk r (λ n. Appends (Q n) mid new) → IfOk r (λ n. Appends (R n) old new)
both_if (Ok n) P Q R old mid new f a b = both P (Q n) (R n) old mid new (f n) a b
both_if (Err e) P Q R old mid new f a b = tt

-- ---- the first and the second of two

module _ (P : List ℕ → ℕ → ℕ → Type 0) (a b : List ℕ) where
  joined : (before behind : List ℕ) → before ++ (a ++ (b ++ behind)) ≡ before ++ ((a ++ b) ++ behind)
  joined before behind = ap (λ (xs : List ℕ). before ++ xs) (sym (append_assoc a b behind))

  pub first_of : Stands P a → (before behind : List ℕ) → P (before ++ ((a ++ b) ++ behind)) (length before) (length before + length a)
  first_of st before behind = subst (λ (s : List ℕ). P s (length before) (length before + length a)) (joined before behind) (st before (b ++ behind))

  pub second_of : Stands P b → (before behind : List ℕ) → P (before ++ ((a ++ b) ++ behind)) (length before + length a) (length before + length (a ++ b))
  second_of st before behind =
      let whole : (before ++ a) ++ (b ++ behind) ≡ before ++ ((a ++ b) ++ behind) = append_assoc before a (b ++ behind) ∙ joined before behind in
      let from : length (before ++ a) ≡ length before + length a = length-append before a in
      let sum = length-append a b in
      let to : length (before ++ a) + length b ≡ length before + length (a ++ b) = omega arith in
      subst (λ (s : List ℕ). P s (length before + length a) (length before + length (a ++ b))) whole
      (subst (λ (n : ℕ). P ((before ++ a) ++ (b ++ behind)) n (length before + length (a ++ b))) from
      (subst (λ (n : ℕ). P ((before ++ a) ++ (b ++ behind)) (length (before ++ a)) n) to (st (before ++ a) behind)))

-- ---- single bytes, bytes and numbers

pub bytes_here : (xs : List ℕ) → Stands (λ s p q. bytes_at s p (length xs) ≡ Some xs) xs
unfolding bytes_at
bytes_here xs before behind =
    let room : leb (length before + length xs) (length (before ++ (xs ++ behind))) ≡ true = (let e = length-append before (xs ++ behind) in let f = length-append xs behind in grind (arith, nat_tests)) in
    let cut : take (length xs) (drop (length before) (before ++ (xs ++ behind))) ≡ xs = ap (take (length xs)) (drop-append_seam before (xs ++ behind)) ∙ take-append_seam xs behind in
    rw (room, cut) refl

pub number_here : (xs : List ℕ) → Stands (λ s p q. number_at s p (length xs) ≡ Some (big_endian xs)) xs
unfolding number_at
number_here xs before behind = ap (λ (o : Option (List ℕ)). o >>= λ bytes. Some (big_endian bytes)) (bytes_here xs before behind)

get_behind : (before ys : List ℕ) (c : ℕ) → slice_get (before ++ c ∷ ys) (length before) ≡ Some c
get_behind [] ys c = refl
get_behind (x ∷ before) ys c = get_behind before ys c

-- the first byte, and the second
pub byte_here : (c : ℕ) (xs : List ℕ) → Stands (λ s p q. slice_get s p ≡ Some c) (c ∷ xs)
byte_here c xs before behind = get_behind before (xs ++ behind) c

pub byte_after : (c d : ℕ) (xs : List ℕ) → Stands (λ s p q. slice_get s (p + 1) ≡ Some d) (c ∷ d ∷ xs)
byte_after c d xs before behind =
    let whole : (before ++ c ∷ []) ++ (d ∷ (xs ++ behind)) ≡ before ++ (c ∷ d ∷ (xs ++ behind)) = append_assoc before (c ∷ []) (d ∷ (xs ++ behind)) in
    let from : length (before ++ c ∷ []) ≡ length before + 1 = length-append before (c ∷ []) in
    subst (λ (s : List ℕ). slice_get s (length before + 1) ≡ Some d) whole
    (subst (λ (n : ℕ). slice_get ((before ++ c ∷ []) ++ (d ∷ (xs ++ behind))) n ≡ Some d) from (get_behind (before ++ c ∷ []) (xs ++ behind) d))

-- the number in the bytes after the first one
pub number_after : (c : ℕ) (xs : List ℕ) → Stands (λ s p q. number_at s (p + 1) (length xs) ≡ Some (big_endian xs)) (c ∷ xs)
number_after c xs before behind = second_of (λ s p q. number_at s p (length xs) ≡ Some (big_endian xs)) (c ∷ []) xs (number_here xs) before behind
