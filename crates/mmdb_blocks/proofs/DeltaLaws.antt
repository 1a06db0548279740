-- What ascending lists of blocks have that others have not.
use Rattle.std.proofs.Common.{◌≡◌, ℕ, ◌+◌, ◌<◌, ◌≤◌, ◌⊎◌, ◌↔◌, List, [], ◌∷◌, ◌++◌, length, get_or, take, ap, arith, sym, inl, inr, subst}
use Rattle.std.proofs.lemmas.Nat.{pow_pos}
use Rattle.std.proofs.lemmas.List.{take_more}
use Rattle.mmdb_blocks.specs.declared.block.Block.{Block}
use Rattle.mmdb_blocks.specs.Blocks.{end, AscendsFrom}
use Rattle.mmdb_blocks.specs.Deltas.{IsListedIn}
use Rattle.mmdb_blocks.specs.Working.{Starts}
use Rattle.mmdb_blocks.proofs.UniqueLaws.{level}
use Rattle.mmdb_blocks.proofs.RangeLaws.{either-map}

ascends-lower : (s t : ℕ) (xs : List Block) → t ≤ s → AscendsFrom s xs → AscendsFrom t xs
ascends-lower s t [] le h = tt
ascends-lower s t (x ∷ xs) le h = (omega (arith, h.0, le), h.1)

pub ascends-behind : (x : Block) (behind rest : List Block) → rest ≡ x ∷ behind → AscendsFrom 0 rest → AscendsFrom 0 behind
ascends-behind x behind rest e h = ascends-lower (end x) 0 behind (omega arith) (subst (λ (ys : List Block). AscendsFrom 0 ys) e h).1

listed-from : (s : ℕ) (x : Block) (xs : List Block) → AscendsFrom s xs → IsListedIn x xs → s ≤ x.first
listed-from s x [] asc h = absurd h
listed-from s x (y ∷ ys) asc (inl e) = omega (arith, asc.0, ap (λ (b : Block). b.first) e)
listed-from s x (y ∷ ys) asc (inr h) = omega (arith, asc.0, listed-from (end y) x ys asc.1 h, pow_pos (level y))

behind-of : (from : ℕ) (b x : Block) (behind : List Block) → from ≤ b.first → x.first < from → IsListedIn b (x ∷ behind) → IsListedIn b behind
behind-of from b x behind le lt (inl e) = absurd (omega (arith, ap (λ (y : Block). y.first) e))
behind-of from b x behind le lt (inr h) = h

pub same-behind : (from : ℕ) (b x : Block) (behind rest others : List Block) → from ≤ b.first → rest ≡ x ∷ behind → x.first < from → (IsListedIn b rest ↔ IsListedIn b others) → IsListedIn b behind ↔ IsListedIn b others
same-behind from b x behind rest others le e lt same =
    let P : List Block → Type 0 = λ ys. IsListedIn b ys ↔ IsListedIn b others in
    let here : IsListedIn b (x ∷ behind) ↔ IsListedIn b others = subst P e same in
    ((λ h. here.0 (inr h)), (λ h. behind-of from b x behind le lt (here.1 h)))

-- a block that begins where the first one does, or before, is the first one if it is any
pub begins-listed : (x first : Block) (rest others : List Block) → others ≡ first ∷ rest → AscendsFrom 0 others → Starts x.first others → (x ≡ first) ↔ IsListedIn x others
begins-listed x first rest others e asc starts = rw e (forth, back)
  where
    ascends : AscendsFrom 0 (first ∷ rest)
    ascends = subst (λ (ys : List Block). AscendsFrom 0 ys) e asc

    after : Starts x.first (first ∷ rest)
    after = subst (λ (ys : List Block). Starts x.first ys) e starts

    forth : x ≡ first → IsListedIn x (first ∷ rest)
    forth s = inl s

    back : IsListedIn x (first ∷ rest) → x ≡ first
    back (inl s) = s
    back (inr h) = absurd (omega (arith, after, listed-from (end first) x rest ascends.1 h, pow_pos (level first)))

pub listed-more : (x : Block) (xs : List Block) (y : Block) → IsListedIn x (xs ++ y ∷ []) ↔ (IsListedIn x xs ⊎ (x ≡ y))
listed-more x xs y = (forth xs, back xs)
  where
    forth : (xs : List Block) → IsListedIn x (xs ++ y ∷ []) → IsListedIn x xs ⊎ (x ≡ y)
    forth [] (inl e) = inr e
    forth [] (inr h) = absurd h
    forth (z ∷ zs) (inl e) = inl (inl e)
    forth (z ∷ zs) (inr h) = either-map (λ i. inr i) (λ e. e) (forth zs h)

    back : (xs : List Block) → IsListedIn x xs ⊎ (x ≡ y) → IsListedIn x (xs ++ y ∷ [])
    back [] (inl h) = absurd h
    back [] (inr e) = inl e
    back (z ∷ zs) (inl (inl e)) = inl e
    back (z ∷ zs) (inl (inr h)) = inr (back zs (inl h))
    back (z ∷ zs) (inr e) = inr (back zs (inr e))

pub listed-taken : (x : Block) (xs : List Block) (i : ℕ) (d : Block) → i < length xs → IsListedIn x (take (i + 1) xs) ↔ (IsListedIn x (take i xs) ⊎ (x ≡ get_or xs i d))
listed-taken x xs i d h = let P : List Block → Type 0 = λ ys. IsListedIn x ys ↔ (IsListedIn x (take i xs) ⊎ (x ≡ get_or xs i d)) in
    subst P (sym (take_more xs i d h)) (listed-more x (take i xs) (get_or xs i d))

pub kept-more : {L X R : Type 0} (x b : Block) (others : List Block) → L ↔ (X × ¬ IsListedIn x others) → (R ↔ IsListedIn b others)
    → (L ⊎ ((x ≡ b) × ¬ R)) ↔ ((X ⊎ (x ≡ b)) × ¬ IsListedIn x others)
kept-more {L} {X} {R} x b others left same = (to, (λ h. back h.0 h.1))
  where
    of-left : X × ¬ IsListedIn x others → (X ⊎ (x ≡ b)) × ¬ IsListedIn x others
    of-left h = (inl h.0, h.1)

    to : (L ⊎ ((x ≡ b) × ¬ R)) → ((X ⊎ (x ≡ b)) × ¬ IsListedIn x others)
    to (inl l) = of-left (left.0 l)
    to (inr h) = (inr h.0, λ u. h.1 (same.1 (subst (λ (y : Block). IsListedIn y others) h.0 u)))

    back : (X ⊎ (x ≡ b)) → ¬ IsListedIn x others → (L ⊎ ((x ≡ b) × ¬ R))
    back (inl i) none = inl (left.1 (i, none))
    back (inr e) none = inr (e, λ r. none (subst (λ (y : Block). IsListedIn y others) (sym e) (same.0 r)))
