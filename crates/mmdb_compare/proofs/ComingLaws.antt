-- Laws of what is still to come.
use Rattle.std.proofs.Common.{◌≡◌, ℕ, ◌<◌, ◌≤◌, inl, inr, Bool, false, List, [], ◌∷◌, Option, refl, ap, arith, sym, ◌∙◌}
use Rattle.std.proofs.lemmas.Bool.{cases_lt, lt-ltb}
use Rattle.std.proofs.Math.Dec.{ltb}
use Rattle.std.proofs.lemmas.Bool.Decides.{nat_tests}
use Rattle.mmdb_blocks.specs.declared.block.Block.{Block}
use Rattle.mmdb_blocks.specs.Blocks.{end}
use Rattle.mmdb_compare.specs.Coming.{Leaf, Coming, coming, passed, coming_from, answer_of, answer_at, between}
use Rattle.mmdb_compare.specs.Coming.Leaf.{Network, Unread}
use Rattle.mmdb_compare.specs.Coming.Answer.{Record}

-- a network that is not passed stays
pub stays : (at : ℕ) (block : Block) (offset : Option ℕ) (leaves : List Leaf) (u : Bool) → at < end block → passed at (Network block offset ∷ leaves) u ≡ coming (Network block offset ∷ leaves) u
stays at block offset leaves u h = rw (lt-ltb at (end block) h) refl

-- one that is passed goes
pub goes : (at : ℕ) (block : Block) (offset : Option ℕ) (leaves : List Leaf) (u : Bool) → end block ≤ at → passed at (Network block offset ∷ leaves) u ≡ passed at leaves false
goes at block offset leaves u h = let e : ltb at (end block) ≡ false = grind (arith, nat_tests) in rw e refl

-- what is left from an address on is left from a later one on
pub again : (a b : ℕ) (leaves : List Leaf) (u : Bool) → a ≤ b → coming_from b (passed a leaves u) ≡ passed b leaves u
again a b [] u le = refl
again a b (Unread ∷ leaves) u le = refl
again a b (Network block offset ∷ leaves) u le = elim (cases_lt a (end block)) [
  | inl lt ↦ ap (coming_from b) (stays a block offset leaves u lt)
  | inr ge ↦ ap (coming_from b) (goes a block offset leaves u ge) ∙ again a b leaves false le ∙ sym (goes b block offset leaves u (omega arith))
]

pub once_more : (a b : ℕ) (c : Coming) → a ≤ b → coming_from b (coming_from a c) ≡ coming_from b c
once_more a b c le = again a b c.leaves c.is_unknown le

-- from an address on the answers are those of what is left there
pub same_answer : (a b : ℕ) (c : Coming) → a ≤ b → answer_at b c ≡ answer_at b (coming_from a c)
same_answer a b c le = ap (λ (left : Coming). answer_of b left.leaves left.is_unknown) (sym (once_more a b c le))

-- in the first network that is left
pub answer_inside : (at : ℕ) (block : Block) (offset : Option ℕ) (leaves : List Leaf) (u : Bool) → block.first ≤ at → at < end block → answer_at at (coming (Network block offset ∷ leaves) u) ≡ Record offset
answer_inside at block offset leaves u le lt =
    let e : ltb at block.first ≡ false = grind (arith, nat_tests) in
    ap (λ (left : Coming). answer_of at left.leaves left.is_unknown) (stays at block offset leaves u lt) ∙ rw e refl

-- before it
pub answer_before : (at : ℕ) (block : Block) (offset : Option ℕ) (leaves : List Leaf) (u : Bool) → at < block.first → answer_at at (coming (Network block offset ∷ leaves) u) ≡ between u
answer_before at block offset leaves u lt =
    let before : at < end block = omega (arith, lt) in
    ap (λ (left : Coming). answer_of at left.leaves left.is_unknown) (stays at block offset leaves u before) ∙ rw (lt-ltb at block.first lt) refl
