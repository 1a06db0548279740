-- Tables that are made a level of the tree at a time.
use Rattle.std.proofs.Common.{◌≡◌, ℕ, suc, ◌+◌, ◌*◌, ◌/◌, ◌%◌, ◌^◌, ◌<◌, ◌≤◌, ◌==◌, Bool, true, false, List, [], ◌∷◌, ◌++◌, ◌≢◌, length, get_or, set, refl, ap, arith, sym, ◌∙◌, subst, inl, inr}
use Rattle.std.proofs.lemmas.Bool.{cases_lt}
use Rattle.std.proofs.lemmas.List.{length-set, get_or-set_same, get_or-set_other}
use Rattle.mmdb_net.specs.Bits.{bit_of, bits_of}
use Rattle.mmdb_net.proofs.BitLaws.{length-bits_of, bits_of-split}
use Rattle.mmdb_tree.specs.declared.table.Entry.{Entry}
use Rattle.mmdb_tree.specs.Tree.{SearchTree, step}
use Rattle.mmdb_tree.specs.Descents.{Descends}
use Rattle.mmdb_tree.proofs.DescentLemmas.{Descends-first, Descends-none, Descends-append}
use Rattle.mmdb_tree.specs.Working.{Follows, HasLevel}

-- ---- one bit more

-- below a node
pub Follows-node : (tree : SearchTree) (width : ℕ) (bit : Bool) (old new : Entry) → old.number < tree.node_count → new.number ≡ step tree old.number bit → new.taken ≡ width + 1 → Follows tree width bit old new
Follows-node tree width bit old new on number taken start bits long d =
    let within = d.walks.within in
    let all : old.taken ≡ width = elim (cases_lt old.taken (length bits)) [
      | inl short ↦ let off = d.ends short in absurd (omega (arith, off, on))
      | inr whole ↦ omega arith
    ] in
    let last = Descends-first tree old.number bit [] 0 (step tree old.number bit) on (Descends-none tree (step tree old.number bit) [] (inr refl)) in
    let both = Descends-append tree start bits (bit ∷ []) old.taken old.number 1 (step tree old.number bit) d last in
    let count : old.taken + 1 ≡ new.taken = omega arith in
    let P : ℕ → Type 0 = λ n. Descends tree start (bits ++ (bit ∷ [])) n (step tree old.number bit) in
    let Q : ℕ → Type 0 = λ n. Descends tree start (bits ++ (bit ∷ [])) new.taken n in
    subst Q (sym number) (subst P count both)

-- off the nodes
pub Follows-end : (tree : SearchTree) (width : ℕ) (bit : Bool) (old : Entry) → tree.node_count ≤ old.number → Follows tree width bit old old
Follows-end tree width bit old off start bits long d =
    let both = Descends-append tree start bits (bit ∷ []) old.taken old.number 0 old.number d (Descends-none tree old.number (bit ∷ []) (inl off)) in
    let count : old.taken + 0 ≡ old.taken = omega arith in
    let P : ℕ → Type 0 = λ n. Descends tree start (bits ++ (bit ∷ [])) n old.number in
    subst P count both

-- ---- strings of one bit more

bits_of-even : (width i : ℕ) → bits_of (width + 1) (2 * i) ≡ bits_of width i ++ (false ∷ [])
unfolding bits_of
bits_of-even width i =
    let half : 2 * i / 2 ^ 1 ≡ i = omega arith in
    let place : 2 * i / 2 ^ 0 % 2 ≡ 0 = omega arith in
    let bit : bit_of (2 * i) 0 ≡ false = ap (λ (x : ℕ). x == 1) place in
    bits_of-split width 1 (width + 1) (2 * i) refl ∙ (rw (half, bit) refl)

bits_of-odd : (width i : ℕ) → bits_of (width + 1) (2 * i + 1) ≡ bits_of width i ++ (true ∷ [])
unfolding bits_of
bits_of-odd width i =
    let half : (2 * i + 1) / 2 ^ 1 ≡ i = omega arith in
    let place : (2 * i + 1) / 2 ^ 0 % 2 ≡ 1 = omega arith in
    let bit : bit_of (2 * i + 1) 0 ≡ true = ap (λ (x : ℕ). x == 1) place in
    bits_of-split width 1 (width + 1) (2 * i + 1) refl ∙ (rw (half, bit) refl)

-- ---- a level that is made from its end back

-- The entries that are left are those of the level before. After their halves come those of strings of one bit more.
pub record IsSpread (tree : SearchTree) (width left : ℕ) (old_numbers old_depths numbers depths : List ℕ) : Type 0 where
  pub numbers_size : length numbers ≡ length old_numbers
  pub depths_size : length depths ≡ length old_depths
  pub numbers_ahead : (i : ℕ) → i < left → get_or numbers i 0 ≡ get_or old_numbers i 0
  pub depths_ahead : (i : ℕ) → i < left → get_or depths i 0 ≡ get_or old_depths i 0
  pub behind : (start i : ℕ) → HasLevel tree start width old_numbers old_depths → 2 * left ≤ i → i < 2 * 2 ^ width → Descends tree start (bits_of (width + 1) i) (get_or depths i 0) (get_or numbers i 0)

pub IsSpread-none : (tree : SearchTree) (width left : ℕ) (numbers depths : List ℕ) → left ≡ 2 ^ width → IsSpread tree width left numbers depths numbers depths
IsSpread-none tree width left numbers depths all = record {
  numbers_size = refl;
  depths_size = refl;
  numbers_ahead = λ i h. refl;
  depths_ahead = λ i h. refl;
  behind = λ start i is low high. absurd (omega (arith, all, low, high));
}

-- a string of the first two, or one after them
data Place (left i : ℕ) : Type 0 where
  Even : i ≡ 2 * left → Place left i
  Odd : i ≡ 2 * left + 1 → Place left i
  Behind : 2 * (left + 1) ≤ i → Place left i

place_of : (left i : ℕ) → 2 * left ≤ i → Place left i
place_of left i h = elim (cases_lt i (2 * left + 1)) [
  | inl even ↦ Even (omega arith)
  | inr past ↦ elim (cases_lt i (2 * left + 2)) [
    | inl odd ↦ Odd (omega arith)
    | inr behind ↦ Behind (omega arith)
  ]
]

-- two numbers more
module _ (left : ℕ) (xs : List ℕ) (lower upper : ℕ) where
  abbrev pub both_set : List ℕ
  both_set = set (set xs (2 * left) lower) (2 * left + 1) upper

  pub length-both : length both_set ≡ length xs
  length-both = length-set (set xs (2 * left) lower) (2 * left + 1) upper ∙ length-set xs (2 * left) lower

  pub both-even : 2 * left < length xs → get_or both_set (2 * left) 0 ≡ lower
  both-even inside = get_or-set_other (set xs (2 * left) lower) (2 * left + 1) (2 * left) upper 0 (λ e. absurd (omega (arith, e))) ∙ get_or-set_same xs (2 * left) lower 0 inside

  pub both-odd : 2 * left + 1 < length xs → get_or both_set (2 * left + 1) 0 ≡ upper
  both-odd inside = get_or-set_same (set xs (2 * left) lower) (2 * left + 1) upper 0 (omega (arith, length-set xs (2 * left) lower, inside))

  pub both-other : (i : ℕ) → i ≢ 2 * left → i ≢ 2 * left + 1 → get_or both_set i 0 ≡ get_or xs i 0
  both-other i even odd = get_or-set_other (set xs (2 * left) lower) (2 * left + 1) i upper 0 odd ∙ get_or-set_other xs (2 * left) i lower 0 even

module _ (tree : SearchTree) (width left : ℕ) (old_numbers old_depths numbers depths : List ℕ) (entry lower upper : Entry) (few : left < 2 ^ width) (numbers_room : 2 * 2 ^ width ≤ length old_numbers) (depths_room : 2 * 2 ^ width ≤ length old_depths)
    (number : entry.number ≡ get_or numbers left 0) (depth : entry.taken ≡ get_or depths left 0) (spread : IsSpread tree width (left + 1) old_numbers old_depths numbers depths) (low : Follows tree width false entry lower) (high : Follows tree width true entry upper) where
  abbrev next_numbers : List ℕ
  next_numbers = both_set left numbers lower.number upper.number

  abbrev next_depths : List ℕ
  next_depths = both_set left depths lower.taken upper.taken

  came : (start : ℕ) → HasLevel tree start width old_numbers old_depths → Descends tree start (bits_of width left) entry.taken entry.number
  came start is =
      let P : ℕ → Type 0 = λ t. Descends tree start (bits_of width left) t (get_or old_numbers left 0) in
      let Q : ℕ → Type 0 = λ n. Descends tree start (bits_of width left) entry.taken n in
      let same_number : get_or old_numbers left 0 ≡ entry.number = sym (number ∙ spread.numbers_ahead left (omega arith)) in
      let same_depth : get_or old_depths left 0 ≡ entry.taken = sym (depth ∙ spread.depths_ahead left (omega arith)) in
      subst Q same_number (subst P same_depth (is left few))

  -- what is after them in both lists
  behind_of : (start i : ℕ) → HasLevel tree start width old_numbers old_depths → i < 2 * 2 ^ width → Place left i → Descends tree start (bits_of (width + 1) i) (get_or next_depths i 0) (get_or next_numbers i 0)
  behind_of start i is within (Behind h) =
      let even : i ≢ 2 * left = λ e. absurd (omega (arith, e, h)) in
      let odd : i ≢ 2 * left + 1 = λ e. absurd (omega (arith, e, h)) in
      rw (both-other left numbers lower.number upper.number i even odd, both-other left depths lower.taken upper.taken i even odd) (spread.behind start i is h within)
  behind_of start i is within (Even h) =
      let sized = spread.numbers_size in
      let deep = spread.depths_size in
      let goes = low start (bits_of width left) (length-bits_of width left) (came start is) in
      let n = both-even left numbers lower.number upper.number (omega (arith, sized, numbers_room, few)) in
      let d = both-even left depths lower.taken upper.taken (omega (arith, deep, depths_room, few)) in
      let P : ℕ → Type 0 = λ k. Descends tree start (bits_of (width + 1) k) (get_or next_depths k 0) (get_or next_numbers k 0) in
      let here : P (2 * left) = rw (n, d, bits_of-even width left) goes in
      subst P (sym h) here
  behind_of start i is within (Odd h) =
      let sized = spread.numbers_size in
      let deep = spread.depths_size in
      let goes = high start (bits_of width left) (length-bits_of width left) (came start is) in
      let n = both-odd left numbers lower.number upper.number (omega (arith, sized, numbers_room, few)) in
      let d = both-odd left depths lower.taken upper.taken (omega (arith, deep, depths_room, few)) in
      let P : ℕ → Type 0 = λ k. Descends tree start (bits_of (width + 1) k) (get_or next_depths k 0) (get_or next_numbers k 0) in
      let here : P (2 * left + 1) = rw (n, d, bits_of-odd width left) goes in
      subst P (sym h) here

  -- two entries more
  pub IsSpread-both : IsSpread tree width left old_numbers old_depths next_numbers next_depths
  IsSpread-both =
      let sized = spread.numbers_size in
      let deep = spread.depths_size in
      record {
        numbers_size = length-both left numbers lower.number upper.number ∙ sized;
        depths_size = length-both left depths lower.taken upper.taken ∙ deep;
        numbers_ahead = λ i h. both-other left numbers lower.number upper.number i (λ e. absurd (omega (arith, e, h))) (λ e. absurd (omega (arith, e, h))) ∙ spread.numbers_ahead i (omega (arith, h));
        depths_ahead = λ i h. both-other left depths lower.taken upper.taken i (λ e. absurd (omega (arith, e, h))) (λ e. absurd (omega (arith, e, h))) ∙ spread.depths_ahead i (omega (arith, h));
        behind = λ start i is low high. behind_of start i is high (place_of left i low);
      }

-- all entries
pub HasLevel-next : (tree : SearchTree) (start width : ℕ) (old_numbers old_depths numbers depths : List ℕ) → IsSpread tree width 0 old_numbers old_depths numbers depths → HasLevel tree start width old_numbers old_depths → HasLevel tree start (width + 1) numbers depths
HasLevel-next tree start width old_numbers old_depths numbers depths spread is i h =
    let half : 2 ^ (width + 1) ≡ 2 * 2 ^ width = let e : width + 1 ≡ suc width = omega arith in rw e (omega arith) in
    spread.behind start i is (omega arith) (omega (arith, h, half))

-- ---- the first level

pub HasLevel-first : (tree : SearchTree) (start : ℕ) (numbers depths : List ℕ) → 0 < length numbers → 0 < length depths → HasLevel tree start 0 (set numbers 0 start) (set depths 0 0)
HasLevel-first tree start numbers depths some_number some_depth i h =
    let first : i ≡ 0 = omega (arith, h) in
    let number : get_or (set numbers 0 start) i 0 ≡ start = ap (λ (k : ℕ). get_or (set numbers 0 start) k 0) first ∙ get_or-set_same numbers 0 start 0 some_number in
    let depth : get_or (set depths 0 0) i 0 ≡ 0 = ap (λ (k : ℕ). get_or (set depths 0 0) k 0) first ∙ get_or-set_same depths 0 0 0 some_depth in
    let none : Descends tree start (bits_of 0 i) 0 start = Descends-none tree start (bits_of 0 i) (inr (length-bits_of 0 i)) in
    let P : ℕ → Type 0 = λ n. Descends tree start (bits_of 0 i) 0 n in
    let Q : ℕ → Type 0 = λ d. Descends tree start (bits_of 0 i) d (get_or (set numbers 0 start) i 0) in
    subst Q (sym depth) (subst P (sym number) none)
