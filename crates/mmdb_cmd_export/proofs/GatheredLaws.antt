-- The addresses of a list.
use Rattle.std.proofs.Common.{◌≡◌, ℕ, ◌<◌, ◌≤◌, ◌^◌, ◌⊎◌, ◌↔◌, List, [], ◌∷◌, ◌++◌, arith, inl, inr, sym, subst, Result, Ok, Err, IfOk}
use Rattle.mmdb_blocks.specs.declared.block.Block.{Block}
use Rattle.mmdb_blocks.specs.declared.ranges.BlockRange.{BlockRange}
use Rattle.mmdb_blocks.specs.Blocks.{IsWithin, IsIn}
use Rattle.mmdb_blocks.specs.Ranges.{IsAmong, IsListed}
use Rattle.mmdb_query.specs.declared.addresses.Addresses.{Addresses as Chosen}
use Rattle.mmdb_cmd_export.specs.Gathered.{IsMapped}

-- ---- blocks, as ranges

pub none_in : (ranges : List BlockRange) (address : ℕ) → ranges ≡ [] → IsAmong address ranges ↔ IsIn address []
none_in ranges address none = ((λ among. subst (IsAmong address) none among), (λ nowhere. absurd nowhere))

in_more : (address : ℕ) (blocks : List Block) (block : Block) → IsIn address blocks ⊎ IsWithin address block → IsIn address (blocks ++ block ∷ [])
in_more address [] block (inl nowhere) = absurd nowhere
in_more address [] block (inr within) = inl within
in_more address (first ∷ blocks) block (inl (inl within)) = inl within
in_more address (first ∷ blocks) block (inl (inr others)) = inr (in_more address blocks block (inl others))
in_more address (first ∷ blocks) block (inr within) = inr (in_more address blocks block (inr within))

in_either : (address : ℕ) (blocks : List Block) (block : Block) → IsIn address (blocks ++ block ∷ []) → IsIn address blocks ⊎ IsWithin address block
in_either address [] block (inl within) = inr within
in_either address [] block (inr nowhere) = absurd nowhere
in_either address (first ∷ blocks) block (inl within) = inl (inl within)
in_either address (first ∷ blocks) block (inr others) = later (in_either address blocks block others)
  where
    later : IsIn address blocks ⊎ IsWithin address block → IsIn address (first ∷ blocks) ⊎ IsWithin address block
    later (inl some) = inl (inr some)
    later (inr within) = inr within

-- one block more
pub one_more : (old new : List BlockRange) (blocks more : List Block) (block : Block) (address : ℕ)
    → more ≡ blocks ++ block ∷ [] → IsAmong address new ↔ (IsAmong address old ⊎ IsWithin address block)
    → IsAmong address old ↔ IsIn address blocks → IsAmong address new ↔ IsIn address more
one_more old new blocks more block address is added before = (
  (λ among. subst (IsIn address) (sym is) (in_more address blocks block (forth (added.0 among)))),
  (λ within. added.1 (back (in_either address blocks block (subst (IsIn address) is within)))),
)
  where
    forth : IsAmong address old ⊎ IsWithin address block → IsIn address blocks ⊎ IsWithin address block
    forth (inl among) = inl (before.0 among)
    forth (inr within) = inr within

    back : IsIn address blocks ⊎ IsWithin address block → IsAmong address old ⊎ IsWithin address block
    back (inl within) = inl (before.1 within)
    back (inr within) = inr within

-- ---- addresses of IPv4

-- what is left of addresses of IPv6 without those beyond IPv4
pub mapped_in : (chosen : Chosen) (nothing beyond : List BlockRange) (mapped : List Block) (address : ℕ) → address < 2 ^ 128
    → nothing ≡ [] → IsAmong address beyond ↔ (IsAmong address [] ⊎ ((4294967296 ≤ address) × (address ≤ 340282366920938463463374607431768211455)))
    → IsIn address mapped ↔ IsListed address chosen.ipv6 nothing beyond → IsIn address mapped ↔ IsMapped chosen address
mapped_in chosen nothing beyond mapped address small none far listed = ((λ within. to (listed.0 within)), (λ is. listed.1 (from is)))
  where
    among : IsAmong address chosen.ipv6 ⊎ IsAmong address nothing → IsAmong address chosen.ipv6
    among (inl there) = there
    among (inr nowhere) = absurd (subst (IsAmong address) none nowhere)

    to : IsListed address chosen.ipv6 nothing beyond → IsMapped chosen address
    to (there, near) = (among there, below (λ past. near (far.1 (inr (past, omega (arith, small))))))
      where
        below : (4294967296 ≤ address → ⊥) → address < 2 ^ 32
        below not_past = omega (arith, not_past)

    from : IsMapped chosen address → IsListed address chosen.ipv6 nothing beyond
    from (there, small) = (inl there, λ past. beyond_it (far.0 past))
      where
        beyond_it : IsAmong address [] ⊎ ((4294967296 ≤ address) × (address ≤ 340282366920938463463374607431768211455)) → ⊥
        beyond_it (inl nowhere) = absurd nowhere
        beyond_it (inr (past, _)) = absurd (omega (arith, past, small))

-- these, and those of others
pub with_others : (mapped also nothing : List BlockRange) (blocks : List Block) (all : List BlockRange) (address : ℕ) (P : Type 0)
    → nothing ≡ [] → IsAmong address mapped ↔ P → IsIn address blocks ↔ IsListed address mapped also nothing → IsAmong address all ↔ IsIn address blocks
    → IsAmong address all ↔ (P ⊎ IsAmong address also)
with_others mapped also nothing blocks all address P none is listed same = (
  (λ among. to (listed.0 (same.0 among))),
  (λ either. same.1 (listed.1 (from either, λ nowhere. absurd (subst (IsAmong address) none nowhere)))),
)
  where
    to : IsListed address mapped also nothing → P ⊎ IsAmong address also
    to (inl there, _) = inl (is.0 there)
    to (inr there, _) = inr there

    from : P ⊎ IsAmong address also → IsAmong address mapped ⊎ IsAmong address also
    from (inl p) = inl (is.1 p)
    from (inr there) = inr there

-- what is listed beside chosen addresses
pub listed_beside : (chosen also except more : List BlockRange) (blocks : List Block) (address : ℕ) (P : Type 0)
    → IsAmong address more ↔ (P ⊎ IsAmong address also) → IsIn address blocks ↔ IsListed address chosen more except
    → IsIn address blocks ↔ (((IsAmong address chosen ⊎ P) ⊎ IsAmong address also) × ¬ IsAmong address except)
listed_beside chosen also except more blocks address P is listed = ((λ within. to (listed.0 within)), (λ all. listed.1 (from all)))
  where
    forth : IsAmong address chosen ⊎ IsAmong address more → (IsAmong address chosen ⊎ P) ⊎ IsAmong address also
    forth (inl there) = inl (inl there)
    forth (inr there) = beside (is.0 there)
      where
        beside : P ⊎ IsAmong address also → (IsAmong address chosen ⊎ P) ⊎ IsAmong address also
        beside (inl p) = inl (inr p)
        beside (inr too) = inr too

    back : (IsAmong address chosen ⊎ P) ⊎ IsAmong address also → IsAmong address chosen ⊎ IsAmong address more
    back (inl (inl there)) = inl there
    back (inl (inr p)) = inr (is.1 (inl p))
    back (inr too) = inr (is.1 (inr too))

    to : IsListed address chosen more except → ((IsAmong address chosen ⊎ P) ⊎ IsAmong address also) × ¬ IsAmong address except
    to (there, kept) = (forth there, kept)

    from : ((IsAmong address chosen ⊎ P) ⊎ IsAmong address also) × ¬ IsAmong address except → IsListed address chosen more except
    from (there, kept) = (back there, kept)

-- ---- what is said on Ok

pub read_of : {X E : Type 0} {P Q : X → Type 0} (r : Result X E) → IfOk r P → ((x : X) → P x → Q x) → IfOk r Q
read_of (Ok x) holds says = says x holds
read_of (Err e) holds says = tt
