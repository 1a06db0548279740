-- Laws of walks.
use Rattle.std.proofs.Common.{◌≡◌, ℕ, ◌+◌, ◌-◌, ◌^◌, ◌*◌, ◌<◌, ◌≤◌, Bool, List, ◌∷◌, Option, length, refl, ap, arith, sym, ◌∙◌}
use Rattle.mmdb_blocks.specs.declared.block.Block.{Block}
use Rattle.mmdb_blocks.specs.Blocks.{end, size, IsBlock, IsWithin}
use Rattle.mmdb_compare.specs.declared.walk.Stand.{Stand}
use Rattle.mmdb_compare.specs.declared.walk.Stand.TheVariants.{Nowhere, AtNetwork, AtEnd}
use Rattle.mmdb_compare.specs.Coming.{Leaf, Coming, coming, passed, coming_from, answer_at}
use Rattle.mmdb_compare.specs.Coming.Leaf.{Network}
use Rattle.mmdb_compare.specs.Coming.Answer.{Record}
use Rattle.mmdb_compare.specs.Walks.{Standing, left_at, left_of, behind_at, behind_of, IsFromAt, IsFrom, IsBehindAt, IsBehind, IsTakenAt, IsTaken, steps_left, step_to_end, StandsAround, IsDone}
use Rattle.mmdb_compare.proofs.BlockLaws.{inside, one_block}
use Rattle.mmdb_compare.proofs.ComingLaws.{stays, goes, answer_inside}

-- what is left after a network that ends there is what comes after it
pub passed_behind : (stand : Stand) (at : ℕ) (block : Block) (offset : Option ℕ) (leaves : List Leaf) (u : Bool) → IsBehindAt stand at block → coming_from at (left_at stand block offset leaves u) ≡ coming_from at (behind_at stand leaves u)
passed_behind Nowhere at block offset leaves u h = refl
passed_behind AtNetwork at block offset leaves u h = goes at block offset leaves u h
passed_behind AtEnd at block offset leaves u h = absurd h

pub behind_is : (at : ℕ) (s : Standing) → IsBehind at s → coming_from at (left_of s) ≡ coming_from at (behind_of s)
behind_is at s h = passed_behind s.stand at s.block s.offset s.leaves s.is_unknown h

-- where no network has ended, all that comes is left
from_at_stays : (stand : Stand) (at : ℕ) (block : Block) (offset : Option ℕ) (leaves : List Leaf) (u : Bool) → IsFromAt stand at block leaves → coming_from at (left_at stand block offset leaves u) ≡ left_at stand block offset leaves u
from_at_stays Nowhere at block offset leaves u h = absurd h
from_at_stays AtNetwork at block offset leaves u h = stays at block offset leaves u h
from_at_stays AtEnd at block offset leaves u h = ap (λ (l : List Leaf). passed at l u) h ∙ ap (λ (l : List Leaf). coming l u) (sym h)

pub from_stays : (at : ℕ) (s : Standing) → IsFrom at s → coming_from at (left_of s) ≡ left_of s
from_stays at s h = from_at_stays s.stand at s.block s.offset s.leaves s.is_unknown h

-- each step takes a walk nearer to its end
nearer_at : (old new : Stand) (at : ℕ) (block after : Block) (offset : Option ℕ) (leaves left : List Leaf) (u v : Bool) → IsBehindAt old at block → left_at new after offset left v ≡ behind_at old leaves u → IsTakenAt new left → 2 * length left + step_to_end new < 2 * length leaves + step_to_end old
nearer_at old Nowhere at block after offset leaves left u v behind same taken = absurd taken
nearer_at AtEnd new at block after offset leaves left u v behind same taken = absurd behind
nearer_at Nowhere AtNetwork at block after offset leaves left u v behind same taken = let e : length (Network after offset ∷ left) ≡ length leaves = ap (λ (c : Coming). length c.leaves) same in omega (arith, e)
nearer_at AtNetwork AtNetwork at block after offset leaves left u v behind same taken = let e : length (Network after offset ∷ left) ≡ length leaves = ap (λ (c : Coming). length c.leaves) same in omega (arith, e)
nearer_at Nowhere AtEnd at block after offset leaves left u v behind same taken = let e : length left ≡ length leaves = ap (λ (c : Coming). length c.leaves) same in omega (arith, e)
nearer_at AtNetwork AtEnd at block after offset leaves left u v behind same taken = let e : length left ≡ length leaves = ap (λ (c : Coming). length c.leaves) same in omega (arith, e)

pub nearer : (at : ℕ) (old new : Standing) → IsBehind at old → IsTaken (behind_of old) new → steps_left new < steps_left old
nearer at old new h t = nearer_at old.stand new.stand at old.block new.block new.offset old.leaves new.leaves old.is_unknown new.is_unknown h t.left t.stands

-- at each address of a block there is a record
abbrev HasRecord : Coming → Block → Option ℕ → Type 0
HasRecord c block offset = (address : ℕ) → IsWithin address block → answer_at address c ≡ Record offset

-- in a block of which the network at hand has all, there is its record
around_at : (stand : Stand) (wide block : Block) (offset : Option ℕ) (leaves : List Leaf) (u : Bool) → stand ≡ AtNetwork → IsFromAt stand block.first wide leaves → wide.first ≤ block.first → wide.prefix ≤ block.prefix → IsBlock wide → IsBlock block → HasRecord (left_at stand wide offset leaves u) block offset
around_at Nowhere wide block offset leaves u e f first prefix w b address inn = absurd f
around_at AtEnd wide block offset leaves u e f first prefix w b address inn = cc
around_at AtNetwork wide block offset leaves u e f first prefix w b address inn = answer_inside address wide offset leaves u (omega (arith, first, inn.0)) (omega (arith, inside block wide b w prefix f, inn.1))

pub around : (s : Standing) (block : Block) (at : ℕ) → block.first ≡ at → IsFrom at s → StandsAround s block → IsBlock block → HasRecord (left_of s) block s.offset
around s block at begins f a b = around_at s.stand s.block block s.offset s.leaves s.is_unknown a.stands (rw begins f) a.first a.prefix a.is_block b

-- where it has no shorter prefix, nothing is left of the network after the block
done_at : (stand : Stand) (wide block : Block) (leaves : List Leaf) → stand ≡ AtNetwork → IsFromAt stand block.first wide leaves → wide.first ≤ block.first → wide.prefix ≡ block.prefix → IsBlock wide → IsBlock block → end wide ≤ end block
done_at Nowhere wide block leaves e f first prefix w b = absurd f
done_at AtEnd wide block leaves e f first prefix w b = cc
done_at AtNetwork wide block leaves e f first prefix w b =
    let same : wide.first ≡ block.first = one_block block wide block.first b w (sym prefix) refl first f in
    let sizes : size wide ≡ size block = ap (λ (p : ℕ). 2 ^ (128 - p)) prefix in
    omega (arith, same, sizes)

pub done : (s : Standing) (block : Block) (at : ℕ) → block.first ≡ at → IsFrom at s → StandsAround s block → IsBlock block → s.block.prefix ≡ block.prefix → IsDone s (end block)
done s block at begins f a b same = record { stands = a.stands; ends = done_at s.stand s.block block s.leaves a.stands (rw begins f) a.first same a.is_block b }
