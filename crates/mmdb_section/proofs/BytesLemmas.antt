-- Which bytes are put.
use Rattle.std.proofs.Common.{◌≡◌, ℕ, zero, suc, ◌+◌, ◌-◌, ◌*◌, ◌/◌, ◌%◌, ◌<◌, ◌≤◌, cond, List, [], ◌∷◌, ◌++◌, length, take, drop, get_or, Result, Ok, Err, OnOk, refl, ap, sym, ◌∙◌, arith, append_assoc, append-nil}
use Rattle.std.specs.Result.{is_ok}
use Rattle.std.proofs.lemmas.List.{take_all}
use Rattle.std.proofs.lemmas.Bool.{lt-ltb, le-ltb}
use Rattle.mmdb_section.specs.declared.value.SectionPart.{SectionPart}
use Rattle.mmdb_section.specs.Bytes.{control_bytes, size_bytes, pointer_bytes, significant_of, part_bytes, parts_bytes, pairs_bytes}

-- ---- bytes that are put after others

pub these_put : {E : Type 0} (r : Result (Unit {0}) E) (old xs ys new : List ℕ) → new ≡ cond (is_ok r) (old ++ xs) old → xs ≡ ys → OnOk r (new ≡ old ++ ys)
these_put (Ok x) old xs ys new is same = is ∙ ap (λ (zs : List ℕ). old ++ zs) same
these_put (Err e) old xs ys new is same = tt

pub then_put : {E : Type 0} (r : Result (Unit {0}) E) (old mid new xs ys : List ℕ) → mid ≡ old ++ xs → OnOk r (new ≡ mid ++ ys) → OnOk r (new ≡ old ++ (xs ++ ys))
then_put (Ok x) old mid new xs ys first second = second ∙ ap (λ (zs : List ℕ). zs ++ ys) first ∙ append_assoc old xs ys
then_put (Err e) old mid new xs ys first second = tt

pub same_put : {E : Type 0} (r : Result (Unit {0}) E) (old new xs ys : List ℕ) → OnOk r (new ≡ old ++ xs) → xs ≡ ys → OnOk r (new ≡ old ++ ys)
same_put (Ok x) old new xs ys put same = put ∙ ap (λ (zs : List ℕ). old ++ zs) same
same_put (Err e) old new xs ys put same = tt

-- ---- headers and pointers

pub short_control : (kind low : ℕ) → kind < 8 → ((kind * 32 + low) ∷ []) ≡ control_bytes kind low
short_control kind low h = let t = lt-ltb kind 8 h in rw t refl

pub extended_control : (kind low : ℕ) → 8 ≤ kind → (low ∷ (kind - 7) ∷ []) ≡ control_bytes kind low
extended_control kind low h = let t = le-ltb kind 8 h in rw t refl

pub own_size : (size : ℕ) → size < 29 → [] ≡ size_bytes size
own_size size a = let t = lt-ltb size 29 a in rw t refl

pub one_size : (size : ℕ) → 29 ≤ size → size < 285 → ((size - 29) ∷ []) ≡ size_bytes size
one_size size a b = let t = le-ltb size 29 a in let u = lt-ltb size 285 b in rw (t, u) refl

pub two_size : (size : ℕ) → 285 ≤ size → size < 65821 → (((size - 285) / 256) ∷ ((size - 285) % 256) ∷ []) ≡ size_bytes size
two_size size a b = let s = le-ltb size 29 (omega arith) in let t = le-ltb size 285 a in let u = lt-ltb size 65821 b in rw (s, t, u) refl

pub three_size : (size : ℕ) → 65821 ≤ size → (((size - 65821) / 65536) ∷ ((size - 65821) / 256 % 256) ∷ ((size - 65821) % 256) ∷ []) ≡ size_bytes size
three_size size a = let s = le-ltb size 29 (omega arith) in let t = le-ltb size 285 (omega arith) in let u = le-ltb size 65821 a in rw (s, t, u) refl

pub one_pointer : (n : ℕ) → n < 2048 → ((32 + n / 256) ∷ (n % 256) ∷ []) ≡ pointer_bytes n
unfolding pointer_bytes
one_pointer n a = let t = lt-ltb n 2048 a in rw t refl

pub two_pointer : (n : ℕ) → 2048 ≤ n → n < 526336 → ((40 + (n - 2048) / 65536) ∷ ((n - 2048) / 256 % 256) ∷ ((n - 2048) % 256) ∷ []) ≡ pointer_bytes n
unfolding pointer_bytes
two_pointer n a b = let t = le-ltb n 2048 a in let u = lt-ltb n 526336 b in rw (t, u) refl

pub three_pointer : (n : ℕ) → 526336 ≤ n → n < 134744064 → ((48 + (n - 526336) / 16777216) ∷ ((n - 526336) / 65536 % 256) ∷ ((n - 526336) / 256 % 256) ∷ ((n - 526336) % 256) ∷ []) ≡ pointer_bytes n
unfolding pointer_bytes
three_pointer n a b = let s = le-ltb n 2048 (omega arith) in let t = le-ltb n 526336 a in let u = lt-ltb n 134744064 b in rw (s, t, u) refl

pub four_pointer : (n : ℕ) → 134744064 ≤ n → (56 ∷ (n / 16777216) ∷ (n / 65536 % 256) ∷ (n / 256 % 256) ∷ (n % 256) ∷ []) ≡ pointer_bytes n
unfolding pointer_bytes
four_pointer n a = let s = le-ltb n 2048 (omega arith) in let t = le-ltb n 526336 (omega arith) in let u = le-ltb n 134744064 a in rw (s, t, u) refl

-- ---- the bytes of a number without the zeros before it

pub a_zero : (xs ys : List ℕ) → 1 ≤ length xs → ys ≡ significant_of (take (length xs - 1) (drop 1 xs)) → get_or xs 0 0 ≡ 0 → ys ≡ significant_of xs
unfolding significant_of
a_zero [] ys some rest first = absurd (omega arith)
a_zero (zero ∷ xs) ys some rest first = rest ∙ ap significant_of (take_all (length (zero ∷ xs) - 1) xs (omega arith))
a_zero (suc n ∷ xs) ys some rest first = absurd (omega arith)

pub no_zero : (xs : List ℕ) → 1 ≤ length xs → ¬ (get_or xs 0 0 ≡ 0) → xs ≡ significant_of xs
unfolding significant_of
no_zero [] some first = absurd (omega arith)
no_zero (zero ∷ xs) some first = absurd (first refl)
no_zero (suc n ∷ xs) some first = refl

pub no_bytes : (xs : List ℕ) → length xs < 1 → xs ≡ significant_of xs
unfolding significant_of
no_bytes [] none = refl
no_bytes (x ∷ xs) none = absurd (omega arith)

-- ---- parts

pub parts_end : (parts : List SectionPart) (part : SectionPart) → parts_bytes (parts ++ part ∷ []) ≡ parts_bytes parts ++ part_bytes part
unfolding parts_bytes
parts_end [] part = append-nil (part_bytes part)
parts_end (p ∷ ps) part = ap (λ (xs : List ℕ). part_bytes p ++ xs) (parts_end ps part) ∙ sym (append_assoc (part_bytes p) (parts_bytes ps) (part_bytes part))

pub pairs_end : (pairs : List (SectionPart × SectionPart)) (p : SectionPart × SectionPart) → pairs_bytes (pairs ++ p ∷ []) ≡ pairs_bytes pairs ++ (part_bytes p.0 ++ part_bytes p.1)
unfolding pairs_bytes
pairs_end [] p = ap (λ (xs : List ℕ). part_bytes p.0 ++ xs) (append-nil (part_bytes p.1))
pairs_end (q ∷ qs) p =
    let a : List ℕ = part_bytes q.0 in
    let b : List ℕ = part_bytes q.1 in
    let c : List ℕ = part_bytes p.0 ++ part_bytes p.1 in
    ap (λ (xs : List ℕ). a ++ (b ++ xs)) (pairs_end qs p) ∙ ap (λ (xs : List ℕ). a ++ xs) (sym (append_assoc b (pairs_bytes qs) c)) ∙ sym (append_assoc a (b ++ pairs_bytes qs) c)

pub no_parts_put : (xs : List ℕ) → xs ≡ xs ++ parts_bytes []
unfolding parts_bytes
no_parts_put xs = sym (append-nil xs)

pub no_pairs_put : (xs : List ℕ) → xs ≡ xs ++ pairs_bytes []
unfolding pairs_bytes
no_pairs_put xs = sym (append-nil xs)

pub part_put : (parts : List SectionPart) (p : SectionPart) (more : List SectionPart) (old mid new : List ℕ) → more ≡ parts ++ p ∷ [] → mid ≡ old ++ parts_bytes parts → new ≡ mid ++ part_bytes p → new ≡ old ++ parts_bytes more
part_put parts p more old mid new is first second =
    second ∙ ap (λ (xs : List ℕ). xs ++ part_bytes p) first ∙ append_assoc old (parts_bytes parts) (part_bytes p)
    ∙ ap (λ (xs : List ℕ). old ++ xs) (sym (parts_end parts p)) ∙ ap (λ (ps : List SectionPart). old ++ parts_bytes ps) (sym is)

pub pair_put : (pairs : List (SectionPart × SectionPart)) (p : SectionPart × SectionPart) (more : List (SectionPart × SectionPart)) (old mid key new : List ℕ) → more ≡ pairs ++ p ∷ []
    → mid ≡ old ++ pairs_bytes pairs → key ≡ mid ++ part_bytes p.0 → new ≡ key ++ part_bytes p.1 → new ≡ old ++ pairs_bytes more
pair_put pairs p more old mid key new is first second third =
    third ∙ ap (λ (xs : List ℕ). xs ++ part_bytes p.1) second ∙ append_assoc mid (part_bytes p.0) (part_bytes p.1)
    ∙ ap (λ (xs : List ℕ). xs ++ (part_bytes p.0 ++ part_bytes p.1)) first ∙ append_assoc old (pairs_bytes pairs) (part_bytes p.0 ++ part_bytes p.1)
    ∙ ap (λ (xs : List ℕ). old ++ xs) (sym (pairs_end pairs p)) ∙ ap (λ (ps : List (SectionPart × SectionPart)). old ++ pairs_bytes ps) (sym is)
