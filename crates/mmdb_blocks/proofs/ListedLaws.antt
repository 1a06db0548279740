-- What a joiner hands out, as blocks are taken.
use Rattle.std.proofs.Common.{◌≡◌, ℕ, ◌+◌, ◌<◌, ◌≤◌, ◌⊎◌, ◌↔◌, List, [], ◌∷◌, ◌++◌, arith, inl, inr, sym, subst}
use Rattle.std.proofs.lemmas.Bool.{cases_lt}
use Rattle.mmdb_blocks.specs.declared.block.Block.{Block}
use Rattle.mmdb_blocks.specs.Blocks.{end, IsWithin, IsIn, IsJoined}
use Rattle.mmdb_blocks.specs.Joining.{IsJoining}
use Rattle.mmdb_blocks.specs.Working.{IsKept, Takes}
use Rattle.mmdb_blocks.proofs.JoinLaws.{in-append}
use Rattle.mmdb_blocks.proofs.RangeLaws.{either-map, either-assoc, both-ways}

-- what is joined is joined of itself
pub joined-of-itself : (pushed joined : List Block) → IsJoined pushed joined → IsJoined joined joined
joined-of-itself pushed joined h = record { covers = λ a. ((λ i. i), (λ i. i)); each = h.each; ascends = h.ascends; apart = h.apart }

pub in-one : (a : ℕ) (b : Block) → IsIn a (b ∷ []) ↔ IsWithin a b
in-one a b = (to, λ h. inl h)
  where
    to : IsIn a (b ∷ []) → IsWithin a b
    to (inl h) = h
    to (inr h) = absurd h

pub in-more : (a : ℕ) (bs : List Block) (b : Block) → IsIn a (bs ++ b ∷ []) ↔ (IsIn a bs ⊎ IsWithin a b)
in-more a bs b = (
  (λ h. either-map (λ g. g) (in-one a b).0 ((in-append a bs (b ∷ [])).0 h)),
  (λ h. (in-append a bs (b ∷ [])).1 (either-map (λ g. g) (in-one a b).1 h)),
)

-- a block is taken
pub takes-block : (handed waiting newly later : List Block) (b : Block) → IsJoining ((handed ++ waiting) ++ b ∷ []) newly later → Takes handed waiting newly later (λ a. IsWithin a b)
takes-block handed waiting newly later b h = record {
  kept = record { joined = joined-of-itself ((handed ++ waiting) ++ b ∷ []) (newly ++ later) h.joined; sealed = h.sealed };
  covers = λ a. both-ways ((λ i. (h.joined.covers a).1 i), (λ i. (h.joined.covers a).0 i)) (in-more a (handed ++ waiting) b);
}

-- nothing is taken
pub takes-none : (handed waiting : List Block) (none : ℕ → Type 0) → ((a : ℕ) → none a → ⊥) → IsKept handed waiting → Takes handed waiting handed waiting none
takes-none handed waiting none never h = record { kept = h; covers = λ a. ((λ i. inl i), back a) }
  where
    back : (a : ℕ) → (IsIn a (handed ++ waiting) ⊎ none a) → IsIn a (handed ++ waiting)
    back a (inl i) = i
    back a (inr n) = absurd (never a n)

-- one thing is taken after another
pub takes-both : (h0 w0 h1 w1 h2 w2 : List Block) (P Q R : ℕ → Type 0)
    → Takes h0 w0 h1 w1 P → Takes h1 w1 h2 w2 Q → ((a : ℕ) → (P a ⊎ Q a) ↔ R a) → Takes h0 w0 h2 w2 R
takes-both h0 w0 h1 w1 h2 w2 P Q R p q same = record {
  kept = q.kept;
  covers = λ a. both-ways (q.covers a) (both-ways ((λ i. either-map (p.covers a).0 (λ x. x) i), (λ i. either-map (p.covers a).1 (λ x. x) i)) (either-assoc (same a)));
}

-- ---- a range, block by block

pub block-range : (a : ℕ) (b : Block) (last : ℕ) → last + 1 ≡ end b → ((b.first ≤ a) × (a ≤ last)) ↔ IsWithin a b
block-range a b last e = ((λ h. (h.0, omega (arith, h.1, e))), (λ h. (h.0, omega (arith, h.1, e))))

pub next-block : (a first from next : ℕ) (b : Block) → b.first ≡ from → end b ≡ next → first ≤ from → from ≤ next
    → (((first ≤ a) × (a < from)) ⊎ IsWithin a b) ↔ ((first ≤ a) × (a < next))
next-block a first from next b begins ends low high = (to, back)
  where
    to : ((first ≤ a) × (a < from)) ⊎ IsWithin a b → (first ≤ a) × (a < next)
    to (inl h) = (h.0, omega (arith, h.1, high))
    to (inr h) = (omega (arith, h.0, begins, low), omega (arith, h.1, ends))

    back : (first ≤ a) × (a < next) → ((first ≤ a) × (a < from)) ⊎ IsWithin a b
    back h = elim (cases_lt a from) [
      | inl lt ↦ inl (h.0, lt)
      | inr ge ↦ inr (omega (arith, ge, begins), omega (arith, h.1, ends))
    ]

-- ---- the blocks of ranges

pub start-kept : (blocks waiting : List Block) → blocks ≡ [] → waiting ≡ [] → IsJoining [] [] waiting → IsKept blocks waiting
start-kept blocks waiting no_blocks none h =
    let h' : IsJoining [] [] [] = subst (λ (w : List Block). IsJoining [] [] w) none h in
    subst (λ (b : List Block). IsKept b waiting) (sym no_blocks) (subst (λ (w : List Block). IsKept [] w) (sym none) h')

-- all that was pushed is joined
pub finished : (first waiting blocks later settled : List Block) (has : ℕ → Type 0) → first ≡ [] → waiting ≡ [] → Takes first waiting blocks later has
    → IsJoined (blocks ++ later) (blocks ++ settled) → (a : ℕ) → IsIn a (blocks ++ settled) ↔ has a
finished first waiting blocks later settled has no_blocks none t j a = both-ways ((j.covers a).1, (j.covers a).0) (both-ways (taken.covers a) (to, λ h. inr h))
  where
    taken : Takes [] [] blocks later has
    taken = subst (λ (b : List Block). Takes b [] blocks later has) no_blocks (subst (λ (w : List Block). Takes first w blocks later has) none t)

    to : (IsIn a [] ⊎ has a) → has a
    to (inl h) = absurd h
    to (inr h) = h
