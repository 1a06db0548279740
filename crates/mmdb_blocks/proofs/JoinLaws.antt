-- What a joiner keeps, as blocks are joined, settle and wait.
use Rattle.std.proofs.Common.{◌≡◌, ℕ, suc, ◌+◌, ◌-◌, ◌*◌, ◌%◌, ◌^◌, ◌<◌, ◌≤◌, ◌⊎◌, ◌↔◌, List, [], ◌∷◌, ◌++◌, length, refl, ap, arith, sym, ◌∙◌, inl, inr, append_assoc}
use Rattle.std.proofs.lemmas.List.{append-nil}
use Rattle.std.proofs.lemmas.Nat.{pow_pos}
use Rattle.std.proofs.lemmas.Bool.{cases_lt}
use Rattle.std.specs.List.{AllByRecursion}
use Rattle.mmdb_blocks.specs.declared.block.Block.{Block}
use Rattle.mmdb_blocks.specs.Blocks.{size, end, IsBlock, IsWithin, IsIn, SameAddresses, AscendsFrom, whole, AreHalves, HasNoHalves, IsJoined}
use Rattle.mmdb_blocks.specs.Joining.{IsSealed, IsJoining, IsAfter, DeepensFrom, IsReady}
use Rattle.mmdb_blocks.specs.Working.{AtLast, IsAtEnd, IsNoHalf, TakesHalf, IsPending}
use Rattle.mmdb_blocks.proofs.NumberLaws.{right-half-level, doubled}
use Rattle.mmdb_blocks.proofs.UniqueLaws.{level}

-- ---- the end of a list

pub at-end : (P : Block → Type 0) (front : List Block) (b : Block) → P b → AtLast P (front ++ b ∷ [])
at-end P [] b h = h
at-end P (x ∷ []) b h = h
at-end P (x ∷ y ∷ front) b h = at-end P (y ∷ front) b h

pub from-end : (P : Block → Type 0) (front : List Block) (b : Block) → AtLast P (front ++ b ∷ []) → P b
from-end P [] b h = h
from-end P (x ∷ []) b h = h
from-end P (x ∷ y ∷ front) b h = from-end P (y ∷ front) b h

pub at-last-append : (P : Block → Type 0) (xs : List Block) (y : Block) (ys : List Block) → AtLast P (y ∷ ys) → AtLast P (xs ++ y ∷ ys)
at-last-append P [] y ys h = h
at-last-append P (x ∷ []) y ys h = h
at-last-append P (x ∷ z ∷ xs) y ys h = at-last-append P (z ∷ xs) y ys h

-- ---- a list with another end

pub in-tail : (a : ℕ) (front xs ys : List Block) → (IsIn a xs → IsIn a ys) → IsIn a (front ++ xs) → IsIn a (front ++ ys)
in-tail a [] xs ys f h = f h
in-tail a (b ∷ front) xs ys f (inl h) = inl h
in-tail a (b ∷ front) xs ys f (inr h) = inr (in-tail a front xs ys f h)

pub ascends-tail : (s : ℕ) (front xs ys : List Block) → ((t : ℕ) → AscendsFrom t xs → AscendsFrom t ys) → AscendsFrom s (front ++ xs) → AscendsFrom s (front ++ ys)
ascends-tail s [] xs ys f h = f s h
ascends-tail s (b ∷ front) xs ys f h = (h.0, ascends-tail (end b) front xs ys f h.1)

pub each-tail : (P : Block → Type 0) (front xs ys : List Block) → (AllByRecursion P xs → AllByRecursion P ys) → AllByRecursion P (front ++ xs) → AllByRecursion P (front ++ ys)
each-tail P [] xs ys f h = f h
each-tail P (b ∷ front) xs ys f h = (h.0, each-tail P front xs ys f h.1)

pub each-back : (P : Block → Type 0) (front xs : List Block) → AllByRecursion P (front ++ xs) → AllByRecursion P xs
each-back P [] xs h = h
each-back P (b ∷ front) xs h = each-back P front xs h.1

pub each-front : (P : Block → Type 0) (front xs : List Block) → AllByRecursion P (front ++ xs) → AllByRecursion P front
each-front P [] xs h = tt
each-front P (b ∷ front) xs h = (h.0, each-front P front xs h.1)

pub each-append : (P : Block → Type 0) (xs ys : List Block) → AllByRecursion P xs → AllByRecursion P ys → AllByRecursion P (xs ++ ys)
each-append P [] ys h g = g
each-append P (x ∷ xs) ys h g = (h.0, each-append P xs ys h.1 g)

pub apart-front : (xs ys : List Block) → HasNoHalves (xs ++ ys) → HasNoHalves xs
apart-front [] ys h = tt
apart-front (x ∷ []) ys h = (tt, tt)
apart-front (x ∷ z ∷ xs) ys h = (h.0, apart-front (z ∷ xs) ys h.1)

-- ---- one block more at the end

start-before : (c : Block) (bs : List Block) (u : Block) → AscendsFrom (end c) bs → AtLast (λ last. end last ≤ u.first) (c ∷ bs) → c.first ≤ u.first
start-before c [] u asc h = omega (arith, h, pow_pos (level c))
start-before c (d ∷ bs) u asc h = omega (arith, asc.0, start-before d bs u asc.1 h, pow_pos (level c))

pub ascends-more : (s : ℕ) (bs : List Block) (u : Block) → AscendsFrom s bs → s ≤ u.first → AtLast (λ last. end last ≤ u.first) bs → AscendsFrom s (bs ++ u ∷ [])
ascends-more s [] u asc from h = (from, tt)
ascends-more s (b ∷ []) u asc from h = (asc.0, (h, tt))
ascends-more s (b ∷ c ∷ bs) u asc from h =
    (asc.0, ascends-more (end b) (c ∷ bs) u asc.1 (omega (arith, asc.1.0, start-before c bs u asc.1.1 h)) h)

pub apart-more : (bs : List Block) (u : Block) → HasNoHalves bs → AtLast (λ last. IsNoHalf last u) bs → HasNoHalves (bs ++ u ∷ [])
apart-more [] u h apart = (tt, tt)
apart-more (b ∷ []) u h apart = (apart, (tt, tt))
apart-more (b ∷ c ∷ bs) u h apart = (h.0, apart-more (c ∷ bs) u h.1 apart)

pub deepens-more : (s : ℕ) (bs : List Block) (u : Block) → DeepensFrom s bs → s ≤ u.prefix → AtLast (λ last. last.prefix < u.prefix) bs → DeepensFrom s (bs ++ u ∷ [])
deepens-more s [] u h from last = (from, tt)
deepens-more s (b ∷ []) u h from last = (h.0, (last, tt))
deepens-more s (b ∷ c ∷ bs) u h from last = (h.0, deepens-more (suc b.prefix) (c ∷ bs) u h.1 (deep c bs (suc b.prefix) u h.1 last) last)
  where
    deep : (c : Block) (bs : List Block) (t : ℕ) (u : Block) → DeepensFrom t (c ∷ bs) → AtLast (λ last. last.prefix < u.prefix) (c ∷ bs) → t ≤ u.prefix
    deep c [] t u h last = omega (arith, h.0, last)
    deep c (d ∷ bs) t u h last = omega (arith, h.0, deep d bs (suc c.prefix) u h.1 last)

pub deepens-front : (s : ℕ) (xs ys : List Block) → DeepensFrom s (xs ++ ys) → DeepensFrom s xs
deepens-front s [] ys h = tt
deepens-front s (x ∷ xs) ys h = (h.0, deepens-front (suc x.prefix) xs ys h.1)

-- no more wait than there are prefixes
pub few : (s : ℕ) (bs : List Block) → s ≤ 129 → AllByRecursion IsBlock bs → DeepensFrom s bs → length bs + s ≤ 129
few s [] le each deep = omega arith
few s (b ∷ bs) le each deep = omega (arith, few (suc b.prefix) bs (omega (arith, each.0.prefix)) each.1 deep.1, deep.0)

-- ---- what waits

pub ready-front : (front : List Block) (last : Block) → IsReady (front ++ last ∷ []) → IsReady front
ready-front front last h = record { each = each-front IsBlock front (last ∷ []) h.each; deepens = deepens-front 0 front (last ∷ []) h.deepens }

pub ready-last : (front : List Block) (last : Block) → IsReady (front ++ last ∷ []) → IsBlock last
ready-last front last h = (each-back IsBlock front (last ∷ []) h.each).0

pub ready-more : (bs : List Block) (u : Block) → IsReady bs → IsBlock u → AtLast (λ last. last.prefix < u.prefix) bs → IsReady (bs ++ u ∷ [])
ready-more bs u h is_block last = record {
  each = each-append IsBlock bs (u ∷ []) h.each (is_block, tt);
  deepens = deepens-more 0 bs u h.deepens (omega arith) last;
}

pub ready-one : (u : Block) → IsBlock u → IsReady (u ∷ [])
ready-one u is_block = record { each = (is_block, tt); deepens = (omega arith, tt) }

pub room : (bs : List Block) (u : Block) → IsReady bs → IsBlock u → AtLast (λ last. last.prefix < u.prefix) bs → length bs < 129
room bs u h is_block last =
    omega (arith, one-more bs u, few 0 (bs ++ u ∷ []) (omega arith) (ready-more bs u h is_block last).each (ready-more bs u h is_block last).deepens)
  where
    one-more : (bs : List Block) (u : Block) → length (bs ++ u ∷ []) ≡ length bs + 1
    one-more [] u = refl
    one-more (b ∷ bs) u = omega (arith, one-more bs u)

-- ---- halves

-- a larger block has twice the addresses
pub whole-size : (left right : Block) → IsBlock left → AreHalves left right → size (whole left) ≡ 2 * size left
whole-size left right is_block h =
    let up : 128 - (left.prefix - 1) ≡ suc (128 - left.prefix) = omega (arith, h.is_half, is_block.prefix) in
    ap (λ (k : ℕ). 2 ^ k) up ∙ doubled (128 - left.prefix)

pub whole-block : (left right : Block) → IsBlock left → AreHalves left right → IsBlock (whole left)
whole-block left right is_block h = record { prefix = omega (arith, is_block.prefix); first = is_block.first; aligned = h.aligned }

-- the halves have the addresses of the whole
pub whole-covers : (left right : Block) (a : ℕ) → IsBlock left → AreHalves left right → IsIn a (left ∷ right ∷ []) ↔ IsIn a (whole left ∷ [])
whole-covers left right a is_block h =
    let twice : size (whole left) ≡ 2 * size left = whole-size left right is_block h in
    let same : size right ≡ size left = ap (λ (k : ℕ). 2 ^ (128 - k)) (sym h.prefix) in (
      (λ i. forth i twice same),
      (λ i. back i twice same),
    )
  where
    forth : IsIn a (left ∷ right ∷ []) → size (whole left) ≡ 2 * size left → size right ≡ size left → IsIn a (whole left ∷ [])
    forth (inl w) twice same = inl (w.0, omega (arith, w.1, twice))
    forth (inr (inl w)) twice same = inl (omega (arith, w.0, h.next), omega (arith, w.1, h.next, twice, same))
    forth (inr (inr e)) twice same = absurd e

    back : IsIn a (whole left ∷ []) → size (whole left) ≡ 2 * size left → size right ≡ size left → IsIn a (left ∷ right ∷ [])
    back (inl w) twice same = elim (cases_lt a (end left)) [
      | inl lt ↦ inl (w.0, lt)
      | inr le ↦ inr (inl (omega (arith, le, h.next), omega (arith, w.1, h.next, twice, same)))
    ]
    back (inr e) twice same = absurd e

-- a block that is no half of one at least as large is none of whatever begins there
pub never-half : (l u larger : Block) → IsBlock l → IsBlock u → (l.prefix < u.prefix → ⊥) → IsNoHalf l u → larger.first ≡ u.first → IsNoHalf l larger
never-half l u larger l_block u_block wide apart same h =
    let up : 128 - (l.prefix - 1) ≡ suc (level l) = omega (arith, h.is_half, l_block.prefix) in
    let left : l.first % 2 ^ suc (level l) ≡ 0 = ap (λ (k : ℕ). l.first % 2 ^ k) (sym up) ∙ h.aligned in
    let next : u.first ≡ l.first + 2 ^ level l = sym same ∙ h.next in
    let right : (l.first + 2 ^ level l) % 2 ^ level u ≡ 0 = ap (λ (k : ℕ). k % 2 ^ level u) (sym next) ∙ u_block.aligned in
    let small : level u ≤ level l = right-half-level l.first (level l) (level u) left right in
    let prefix : l.prefix ≡ u.prefix = elim (cases_lt l.prefix u.prefix) [ inl lt ↦ absurd (wide lt) | inr le ↦ omega (arith, le, small, l_block.prefix, u_block.prefix) ] in
    apart (record { prefix = prefix; is_half = h.is_half; aligned = h.aligned; next = next })

pub never-halves : (bs : List Block) (u larger : Block) → AllByRecursion IsBlock bs → IsBlock u → AtLast (λ last. IsNoHalf last u) bs
    → (AtLast (λ last. last.prefix < u.prefix) bs → ⊥) → larger.first ≡ u.first → AtLast (λ last. IsNoHalf last larger) bs
never-halves [] u larger each u_block apart wide same = tt
never-halves (b ∷ []) u larger each u_block apart wide same = never-half b u larger each.0 u_block wide apart same
never-halves (b ∷ c ∷ bs) u larger each u_block apart wide same = never-halves (c ∷ bs) u larger each.1 u_block apart wide same

-- ---- the steps of a joiner

-- the waiting block and its other half become the larger one
seal-climb : (handed front : List Block) (left u : Block) → IsSealed handed ((front ++ left ∷ []) ++ u ∷ []) → IsSealed handed (front ++ whole left ∷ [])
seal-climb handed [] left u h = h
seal-climb handed (w ∷ front) left u h = h

pub climb : (pushed handed front : List Block) (left u : Block) → IsBlock left → AreHalves left u → IsPending pushed handed (front ++ left ∷ []) u → IsPending pushed handed front (whole left)
climb pushed handed front left u is_block halves h =
    let two : (front ++ left ∷ []) ++ u ∷ [] ≡ front ++ left ∷ u ∷ [] = append_assoc front (left ∷ []) (u ∷ []) in
    let from : List Block = (front ++ left ∷ []) ++ u ∷ [] in
    let forth : (a : ℕ) → IsIn a (handed ++ ((front ++ left ∷ []) ++ u ∷ [])) → IsIn a (handed ++ (front ++ whole left ∷ [])) =
    rw two (λ a. in-tail a handed _ _ (in-tail a front _ _ (whole-covers left u a is_block halves).0)) in
    let back : (a : ℕ) → IsIn a (handed ++ (front ++ whole left ∷ [])) → IsIn a (handed ++ ((front ++ left ∷ []) ++ u ∷ [])) =
    rw two (λ a. in-tail a handed _ _ (in-tail a front _ _ (whole-covers left u a is_block halves).1)) in
    let apart : HasNoHalves ((handed ++ front) ++ left ∷ []) = rw (append_assoc handed front (left ∷ [])) h.apart in
    let two_each : AllByRecursion IsBlock (handed ++ (front ++ left ∷ u ∷ [])) = rw (← two) h.each in
    let two_ascends : AscendsFrom 0 (handed ++ (front ++ left ∷ u ∷ [])) = rw (← two) h.ascends in
    record {
      covers = λ a. ((λ x. forth a ((h.covers a).0 x)), (λ x. (h.covers a).1 (back a x)));
      each = each-tail IsBlock handed _ _ (each-tail IsBlock front _ _ (λ e. (whole-block left u is_block halves, tt))) two_each;
      ascends = ascends-tail 0 handed _ _ (λ s. ascends-tail s front _ _ (λ t asc. (asc.0, tt))) two_ascends;
      apart = apart-front (handed ++ front) (left ∷ []) apart;
      sealed = seal-climb handed front left u h.sealed;
    }

-- the block waits with the others
apart-kept : (handed waiting : List Block) (u : Block) → HasNoHalves (handed ++ waiting) → IsSealed handed (waiting ++ u ∷ []) → AtLast (λ last. IsNoHalf last u) waiting → HasNoHalves (handed ++ (waiting ++ u ∷ []))
apart-kept handed [] u h sealed apart = sealed u refl
apart-kept handed (w ∷ waiting) u h sealed apart =
    rw (← append_assoc handed (w ∷ waiting) (u ∷ [])) (apart-more (handed ++ w ∷ waiting) u h (at-last-append (λ last. IsNoHalf last u) handed w waiting apart))

pub keep : (pushed handed waiting : List Block) (u : Block) → IsPending pushed handed waiting u → AtLast (λ last. IsNoHalf last u) waiting → IsJoining pushed handed (waiting ++ u ∷ [])
keep pushed handed waiting u h apart = record {
  joined = record { covers = h.covers; each = h.each; ascends = h.ascends; apart = apart-kept handed waiting u h.apart h.sealed apart };
  sealed = h.sealed;
}

-- or it waits alone, and they are settled
seal-settled : (handed waiting : List Block) (u : Block) → AllByRecursion IsBlock waiting → IsBlock u → HasNoHalves (handed ++ waiting) → AtLast (λ last. IsNoHalf last u) waiting
    → (AtLast (λ last. last.prefix < u.prefix) waiting → ⊥) → IsSealed (handed ++ waiting) (u ∷ [])
seal-settled handed [] u each u_block h apart wide = absurd (wide tt)
seal-settled handed (w ∷ waiting) u each u_block h apart wide = λ larger same.
    apart-more (handed ++ w ∷ waiting) larger h (at-last-append (λ last. IsNoHalf last larger) handed w waiting (never-halves (w ∷ waiting) u larger each u_block apart wide same))

pub settle : (pushed handed waiting : List Block) (u : Block) → AllByRecursion IsBlock waiting → IsBlock u → IsPending pushed handed waiting u → AtLast (λ last. IsNoHalf last u) waiting
    → (AtLast (λ last. last.prefix < u.prefix) waiting → ⊥) → IsJoining pushed (handed ++ waiting) (u ∷ [])
settle pushed handed waiting u each u_block h apart wide =
    let kept : IsJoined pushed (handed ++ (waiting ++ u ∷ [])) = (keep pushed handed waiting u h apart).joined in record {
      joined = rw (append_assoc handed waiting (u ∷ [])) kept;
      sealed = seal-settled handed waiting u each u_block h.apart apart wide;
    }

-- the block is pushed
seal-pushed : (handed waiting : List Block) (u : Block) → IsSealed handed waiting → IsSealed handed (waiting ++ u ∷ [])
seal-pushed handed [] u h = rw h (λ larger same. (tt, tt))
seal-pushed handed (w ∷ waiting) u h = h

ascends-pushed : (handed waiting : List Block) (u : Block) → IsSealed handed waiting → AscendsFrom 0 (handed ++ waiting) → AtLast (λ last. end last ≤ u.first) waiting → AscendsFrom 0 (handed ++ (waiting ++ u ∷ []))
ascends-pushed handed [] u sealed h after = rw sealed (omega arith, tt)
ascends-pushed handed (w ∷ waiting) u sealed h after =
    rw (← append_assoc handed (w ∷ waiting) (u ∷ [])) (ascends-more 0 (handed ++ w ∷ waiting) u h (omega arith) (at-last-append (λ last. end last ≤ u.first) handed w waiting after))

-- the addresses of two lists are those of the one and the other
pub in-append : (a : ℕ) (xs ys : List Block) → IsIn a (xs ++ ys) ↔ (IsIn a xs ⊎ IsIn a ys)
in-append a xs ys = ((λ h. forth a xs h), (λ h. back a xs h))
  where
    forth : (a : ℕ) (xs : List Block) → IsIn a (xs ++ ys) → IsIn a xs ⊎ IsIn a ys
    forth a [] h = inr h
    forth a (x ∷ xs) (inl h) = inl (inl h)
    forth a (x ∷ xs) (inr h) = elim (forth a xs h) [ inl i ↦ inl (inr i) | inr i ↦ inr i ]

    back : (a : ℕ) (xs : List Block) → (IsIn a xs ⊎ IsIn a ys) → IsIn a (xs ++ ys)
    back a [] (inl h) = absurd h
    back a [] (inr h) = h
    back a (x ∷ xs) (inl (inl h)) = inl h
    back a (x ∷ xs) (inl (inr h)) = inr (back a xs (inl h))
    back a (x ∷ xs) (inr h) = inr (back a xs (inr h))

-- the same addresses, with one block more
more-covers : (pushed joined : List Block) (u : Block) → SameAddresses pushed joined → SameAddresses (pushed ++ u ∷ []) (joined ++ u ∷ [])
more-covers pushed joined u same a = (
  (λ h. (in-append a joined (u ∷ [])).1 (elim ((in-append a pushed (u ∷ [])).0 h) [ inl i ↦ inl ((same a).0 i) | inr i ↦ inr i ])),
  (λ h. (in-append a pushed (u ∷ [])).1 (elim ((in-append a joined (u ∷ [])).0 h) [ inl i ↦ inl ((same a).1 i) | inr i ↦ inr i ])),
)

pub pend : (pushed handed waiting : List Block) (u : Block) → IsJoining pushed handed waiting → IsBlock u → AtLast (λ last. end last ≤ u.first) waiting → IsPending (pushed ++ u ∷ []) handed waiting u
pend pushed handed waiting u h is_block after = record {
  covers = rw (← append_assoc handed waiting (u ∷ [])) (more-covers pushed (handed ++ waiting) u h.joined.covers);
  each = rw (← append_assoc handed waiting (u ∷ [])) (each-append IsBlock (handed ++ waiting) (u ∷ []) h.joined.each (is_block, tt));
  ascends = ascends-pushed handed waiting u h.sealed h.joined.ascends after;
  apart = h.joined.apart;
  sealed = seal-pushed handed waiting u h.sealed;
}

-- ---- the order of what is pushed

-- all addresses of an ascending list are before the end of its last block
before-end : (a s : ℕ) (bs : List Block) (u : Block) → AscendsFrom s bs → AtLast (λ last. end last ≤ u.first) bs → IsIn a bs → a < u.first
before-end a s [] u asc after h = absurd h
before-end a s (b ∷ []) u asc after (inl h) = omega (arith, h.1, after)
before-end a s (b ∷ []) u asc after (inr h) = absurd h
before-end a s (b ∷ c ∷ bs) u asc after (inl h) = omega (arith, h.1, asc.1.0, before-end c.first (end b) (c ∷ bs) u asc.1 after (inl (omega arith, omega (arith, pow_pos (level c)))))
before-end a s (b ∷ c ∷ bs) u asc after (inr h) = before-end a (end b) (c ∷ bs) u asc.1 after h

-- and that end is after an address of it
end-before : (bs : List Block) (u : Block) → IsAfter bs u → AtLast (λ last. end last ≤ u.first) bs
end-before [] u h = tt
end-before (b ∷ []) u h =
    let last : IsWithin (b.first + (2 ^ level b - 1)) b = (omega arith, omega (arith, pow_pos (level b))) in
    omega (arith, h (b.first + (2 ^ level b - 1)) (inl last), pow_pos (level b))
end-before (b ∷ c ∷ bs) u h = end-before (c ∷ bs) u (λ a i. h a (inr i))

pub after-pushed : (pushed handed waiting : List Block) (u : Block) → IsJoining pushed handed waiting → AtLast (λ last. end last ≤ u.first) waiting → IsAfter pushed u
after-pushed pushed handed [] u h after a i = absurd (none-before ((h.joined.covers a).0 i))
  where
    none-before : IsIn a (handed ++ []) → ⊥
    none-before = rw h.sealed (λ x. x)
after-pushed pushed handed (w ∷ waiting) u h after a i =
    before-end a 0 (handed ++ w ∷ waiting) u h.joined.ascends (at-last-append (λ last. end last ≤ u.first) handed w waiting after) ((h.joined.covers a).0 i)

pub pushed-after : (pushed handed waiting : List Block) (u : Block) → IsJoining pushed handed waiting → IsAfter pushed u → AtLast (λ last. end last ≤ u.first) waiting
pushed-after pushed handed waiting u h after =
    end-before waiting u (λ a i. after a ((h.joined.covers a).1 ((in-append a handed waiting).1 (inr i))))

pub nothing-joined : IsJoining [] [] []
nothing-joined = record {
  joined = record { covers = λ a. ((λ x. x), (λ x. x)); each = tt; ascends = tt; apart = tt };
  sealed = refl;
}

-- ---- the last waiting block taken as a left half

pub takes-last : (old new : List Block) (right larger : Block) → IsReady old → (t : TakesHalf old new right larger) → IsReady (new ++ t.left ∷ [])
takes-last old new right larger ready t = rw (← t.old_is) ready

pub takes-ready : (old new : List Block) (right larger : Block) → IsReady old → TakesHalf old new right larger → IsReady new
takes-ready old new right larger ready t = ready-front new t.left (takes-last old new right larger ready t)

pub takes-block : (old new : List Block) (right larger : Block) → IsReady old → TakesHalf old new right larger → IsBlock larger
takes-block old new right larger ready t = rw t.larger_is (whole-block t.left right (ready-last new t.left (takes-last old new right larger ready t)) t.halves)

pub takes-smaller : (old new : List Block) (right larger : Block) → TakesHalf old new right larger → larger.prefix < right.prefix
takes-smaller old new right larger t =
    let e : larger.prefix ≡ t.left.prefix - 1 = ap (λ (b : Block). b.prefix) t.larger_is in
    omega (arith, e, t.halves.prefix, t.halves.is_half)

pub takes-pending : (pushed handed old new : List Block) (right larger : Block) → IsReady old → TakesHalf old new right larger → IsPending pushed handed old right → IsPending pushed handed new larger
takes-pending pushed handed old new right larger ready t h =
    let before : IsPending pushed handed (new ++ t.left ∷ []) right = rw (← t.old_is) h in
    rw t.larger_is (climb pushed handed new t.left right (ready-last new t.left (takes-last old new right larger ready t)) t.halves before)

-- ---- what holds of the last block

pub at-end-of : (P : Block → Type 0) (xs : List Block) (b : Block) → IsAtEnd b xs → P b → AtLast P xs
at-end-of P xs b e h = rw e.1 (at-end P e.0 b h)

pub from-end-of : (P : Block → Type 0) (xs : List Block) (b : Block) → IsAtEnd b xs → AtLast P xs → P b
from-end-of P xs b e h =
    let last : AtLast P (e.0 ++ b ∷ []) = rw (← e.1) h in
    from-end P e.0 b last

pub at-end-same : (P : Block → Type 0) (xs ys : List Block) (b : Block) → ys ≡ xs → IsAtEnd b ys → P b → AtLast P xs
at-end-same P xs ys b same e h = rw (← same) (at-end-of P ys b e h)

-- ---- the block is added, where the lists are known by equations

pub room-of : (xs ys : List Block) (u : Block) → ys ≡ xs → IsReady xs → IsBlock u → AtLast (λ last. last.prefix < u.prefix) ys → length ys < 129
room-of xs ys u same ready is_block last =
    let ready_ys : IsReady ys = rw same ready in
    room ys u ready_ys is_block last

pub ready-alone : (xs zs : List Block) (u : Block) → xs ≡ [] → zs ≡ xs ++ u ∷ [] → IsBlock u → IsReady zs
ready-alone xs zs u none made is_block = rw made (rw none (ready-one u is_block))

pub ready-after : (ws ds xs zs : List Block) (u : Block) → ds ≡ ws → xs ≡ ws → zs ≡ xs ++ u ∷ [] → IsReady ws → IsBlock u → AtLast (λ last. last.prefix < u.prefix) ds → IsReady zs
ready-after ws ds xs zs u same kept made ready is_block last =
    let last_ws : AtLast (λ last. last.prefix < u.prefix) ws = rw (← same) last in
    rw made (rw kept (ready-more ws u ready is_block last_ws))

pub joins-alone : (pushed handed ws ds xs ss zs : List Block) (u : Block) → ds ≡ ws → xs ≡ [] → ss ≡ ws → zs ≡ xs ++ u ∷ []
    → IsReady ws → IsBlock u → IsPending pushed handed ws u → AtLast (λ last. IsNoHalf last u) ws → (AtLast (λ last. last.prefix < u.prefix) ds → ⊥) → IsJoining pushed (handed ++ ss) zs
joins-alone pushed handed ws ds xs ss zs u same none given made ready is_block h apart wide =
    let wide_ws : AtLast (λ last. last.prefix < u.prefix) ws → ⊥ = rw (← same) wide in
    rw made (rw none (rw given (settle pushed handed ws u ready.each is_block h apart wide_ws)))

pub joins-after : (pushed handed ws xs ss zs : List Block) (u : Block) → xs ≡ ws → ss ≡ [] → zs ≡ xs ++ u ∷ []
    → IsPending pushed handed ws u → AtLast (λ last. IsNoHalf last u) ws → IsJoining pushed (handed ++ ss) zs
joins-after pushed handed ws xs ss zs u kept none made h apart =
    let joining : IsJoining pushed handed (ws ++ u ∷ []) = keep pushed handed ws u h apart in
    rw made (rw kept (rw none (rw (append-nil handed) joining)))

-- ---- the block is pushed, where the lists are known by equations

pub pend-of : (pushed handed ws vs ds : List Block) (u : Block) → vs ≡ ws → ds ≡ vs → IsJoining pushed handed ws → IsBlock u → AtLast (λ last. end last ≤ u.first) ds → IsPending (pushed ++ u ∷ []) handed vs u
pend-of pushed handed ws vs ds u seen same h is_block last =
    let h_vs : IsJoining pushed handed vs = rw seen h in
    let last_vs : AtLast (λ last. end last ≤ u.first) vs = rw (← same) last in
    pend pushed handed vs u h_vs is_block last_vs

pub after-pushed-of : (pushed handed ws ds : List Block) (u : Block) → ds ≡ ws → IsJoining pushed handed ws → AtLast (λ last. end last ≤ u.first) ds → IsAfter pushed u
after-pushed-of pushed handed ws ds u same h last =
    let last_ws : AtLast (λ last. end last ≤ u.first) ws = rw (← same) last in
    after-pushed pushed handed ws u h last_ws

pub pushed-after-of : (pushed handed ws ds : List Block) (u : Block) → ds ≡ ws → IsJoining pushed handed ws → IsAfter pushed u → AtLast (λ last. end last ≤ u.first) ds
pushed-after-of pushed handed ws ds u same h after = rw same (pushed-after pushed handed ws u h after)
