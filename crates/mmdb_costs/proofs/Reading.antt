-- What can be read where a check found a value good, and what a decoder says of it.
use Rattle.std.proofs.Common.{◌≡◌, ◌≤◌, ◌<◌, ◌+◌, ℕ, List, Some, None, Bool, true, false, refl, sym, subst, arith, inl, inr, ◌∙◌}
use Rattle.std.proofs.lemmas.Bool.{false≢true, cases_lt}
use Rattle.mmdb_format.specs.Error.{MemoryApart}
use Rattle.mmdb_format.specs.declared.error.MaxMindDbError.{MaxMindDbError}
use Rattle.mmdb_format.specs.declared.error.MaxMindDbError.TheVariants.{InvalidDatabase, Io, Decoding, ResourceLimit, InvalidNetwork, InvalidInput, Memory}
use Rattle.mmdb_format.specs.Unfolding.{Tree, scalar, array, table, pointer, Trees, no_trees, tree, Pairs, no_pairs, pair, levels, trees_all_levels, pairs_all_levels, levels_without_key_pointers, key_levels, trees_levels, pairs_levels, has_texts, without_pointers}
use Rattle.mmdb_format.proofs.UnfoldingLaws.{one_tree}
use Rattle.mmdb_decode.specs.State.{State, decoded}
use Rattle.mmdb_decode.specs.Errors.{Fails, answer}
use Rattle.mmdb_decode.proofs.StepLaws.{state, answer_ok, answer_none}
use Rattle.mmdb_value.specs.AnyValue.{value_at}
use Rattle.mmdb_value.proofs.StandingLaws.{answer_is_whole_value}
use Rattle.mmdb_offsets.specs.OffsetSet.{holds, HasNoneFrom, IsNext}
use Rattle.mmdb_costs.specs.declared.cost.PartCost.{PartCost}
use Rattle.mmdb_costs.specs.Readable.{Fits, IsReadable, AreReadable, IsGoodAt}
use Rattle.mmdb_costs.specs.Working.{HasCost}

-- ---- levels

mutual
  fewer_levels : (t : Tree) → levels_without_key_pointers t ≤ levels t
  fewer_levels (scalar c) = omega arith
  fewer_levels (array ts) = let a = trees_fewer_levels ts in omega arith
  fewer_levels (table ps) = let a = pairs_fewer_levels ps in omega arith
  fewer_levels (pointer a t) = let b = fewer_levels t in omega arith

  fewer_key_levels : (t : Tree) → key_levels t ≤ levels t
  fewer_key_levels (scalar c) = omega arith
  fewer_key_levels (array ts) = let a = trees_fewer_levels ts in omega arith
  fewer_key_levels (table ps) = let a = pairs_fewer_levels ps in omega arith
  fewer_key_levels (pointer a t) = let b = fewer_levels t in omega arith

  trees_fewer_levels : (ts : Trees) → trees_levels ts ≤ trees_all_levels ts
  trees_fewer_levels no_trees = omega arith
  trees_fewer_levels (tree t ts) = let a = fewer_levels t in let b = trees_fewer_levels ts in omega arith

  pairs_fewer_levels : (ps : Pairs) → pairs_levels ps ≤ pairs_all_levels ps
  pairs_fewer_levels no_pairs = omega arith
  pairs_fewer_levels (pair k v ps) = let a = fewer_key_levels k in let b = fewer_levels v in let c = pairs_fewer_levels ps in omega arith

-- ---- one value

pub cost_fits : (s : List ℕ) (p : ℕ) (part : PartCost) → HasCost s p part → Fits s p
cost_fits s p part has =
    let v = has.values in
    let b = has.bytes in
    let w = has.within.values in
    let x = has.within.bytes in
    record { tree = has.tree; end = part.end; unfolds = has.unfolds; keyed = has.keyed; values = omega (arith, v, w); bytes = omega (arith, b, x) }

pub fits_readable : (s : List ℕ) (p : ℕ) → IsGoodAt s p → Fits s p → IsReadable s p
fits_readable s p (t, good) fits =
    let same : t ≡ fits.tree = (one_tree good.unfolds fits.unfolds).0 in
    let texts : has_texts fits.tree ≡ true = subst (λ (u : Tree). has_texts u ≡ true) same good.texts in
    let all : levels fits.tree ≤ 128 = subst (λ (u : Tree). levels u ≤ 128) same good.shallow in
    let fewer = fewer_levels fits.tree in
    (without_pointers fits.tree, (fits.tree, fits.end, record { unfolds = fits.unfolds; keyed = fits.keyed; texts = λ _. texts; levels = omega (arith, all, fewer) }, refl, fits.values, fits.bytes))

-- ---- what a decoder says

pub read_readable : (s : List ℕ) (p : ℕ) (σ τ : State) (v : Tree) → σ ≡ state s p 0 None → decoded true (value_at true) σ ≡ Some (v, τ) → IsReadable s p
read_readable s p σ τ v begins reads = (v, (answer_is_whole_value true s p v).0 (answer_ok true (value_at true) s p σ τ v begins reads))

not_read : (s : List ℕ) (p : ℕ) (σ : State) → σ ≡ state s p 0 None → decoded true (value_at true) σ ≡ None → ¬ IsReadable s p
not_read s p σ begins none readable =
    let some : answer true (value_at true) s p ≡ Some readable.0 = (answer_is_whole_value true s p readable.0).1 readable.1 in
    let nothing = answer_none true (value_at true) s p σ begins none in
    absurd (cc)

pub unread_apart : (s : List ℕ) (p : ℕ) (σ : State) (e : MaxMindDbError) → σ ≡ state s p 0 None → Fails false e (decoded true (value_at true) σ) → MemoryApart e (¬ IsReadable s p)
unread_apart s p σ Memory begins h = tt
unread_apart s p σ (InvalidDatabase m o) begins h = not_read s p σ begins h
unread_apart s p σ (Io e) begins h = not_read s p σ begins h
unread_apart s p σ (Decoding m o t) begins h = not_read s p σ begins h
unread_apart s p σ (ResourceLimit m o t) begins h = not_read s p σ begins h
unread_apart s p σ (InvalidNetwork e) begins h = not_read s p σ begins h
unread_apart s p σ (InvalidInput m) begins h = not_read s p σ begins h

-- ---- the offsets of a set

-- a value can be read at each offset of a set below one
abbrev pub AreReadableBelow : List ℕ → List Bool → ℕ → Type 0
AreReadableBelow s set n = (p : ℕ) → p < n → holds set p ≡ true → IsReadable s p

pub none_below : (s : List ℕ) (set : List Bool) → AreReadableBelow s set 0
none_below s set p below h = absurd (omega arith)

pub more_below : (s : List ℕ) (set : List Bool) (n p : ℕ) → AreReadableBelow s set n → IsNext set n p → IsReadable s p → AreReadableBelow s set (p + 1)
more_below s set n p all next one q below h = elim (cases_lt q n) [
  | inl before ↦ all q before h
  | inr after ↦ elim (cases_lt q p) [
    | inl between ↦ absurd (false≢true (sym (next.least q after between) ∙ h))
    | inr later ↦ let here : p ≡ q = omega (arith, later, below) in subst (IsReadable s) here one
  ]
]

pub all_readable : (s : List ℕ) (set : List Bool) (n : ℕ) → AreReadableBelow s set n → HasNoneFrom set n → AreReadable s set
all_readable s set n below none p h = elim (cases_lt p n) [
  | inl before ↦ below p before h
  | inr after ↦ absurd (false≢true (sym (none p after) ∙ h))
]

-- one that can't be read is one of all
pub not_all : (s : List ℕ) (set : List Bool) (p : ℕ) (e : MaxMindDbError) → holds set p ≡ true → MemoryApart e (¬ IsReadable s p) → MemoryApart e (¬ AreReadable s set)
not_all s set p Memory is h = tt
not_all s set p (InvalidDatabase m o) is h = λ all. h (all p is)
not_all s set p (Io e) is h = λ all. h (all p is)
not_all s set p (Decoding m o t) is h = λ all. h (all p is)
not_all s set p (ResourceLimit m o t) is h = λ all. h (all p is)
not_all s set p (InvalidNetwork e) is h = λ all. h (all p is)
not_all s set p (InvalidInput m) is h = λ all. h (all p is)
