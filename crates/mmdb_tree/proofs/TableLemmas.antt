-- The table of the first sixteen bits of addresses.
use Rattle.std.proofs.Common.{◌≡◌, ℕ, ◌+◌, ◌-◌, ◌/◌, ◌^◌, ◌<◌, ◌≤◌, Bool, List, get_or, arith, sym, subst, inl, inr}
use Rattle.std.proofs.lemmas.Bool.{cases_lt}
use Rattle.mmdb_net.specs.Bits.{bits_of}
use Rattle.mmdb_net.proofs.BitLaws.{length-bits_of, bits_of-split}
use Rattle.mmdb_tree.specs.Tree.{SearchTree}
use Rattle.mmdb_tree.specs.Descents.{Descends}
use Rattle.mmdb_tree.proofs.DescentLemmas.{Descends-same, Descends-none, Descends-append}
use Rattle.mmdb_tree.specs.Table.{IsFull}

module _ (tree : SearchTree) (start n rest : ℕ) (numbers depths : List ℕ) (full : IsFull tree start numbers depths) (below : n / 2 ^ rest < 65536) where
  abbrev number : ℕ
  number = get_or numbers (n / 2 ^ rest) 0

  abbrev depth : ℕ
  depth = get_or depths (n / 2 ^ rest) 0

  -- the entry that is read
  entry_descends : Descends tree start (bits_of 16 (n / 2 ^ rest)) depth number
  entry_descends = full.each (n / 2 ^ rest) below

  pub depth-le : depth ≤ 16
  depth-le = let within = entry_descends.walks.within in omega (arith, within, length-bits_of 16 (n / 2 ^ rest))

  -- on a node all sixteen bits are taken
  pub depth-on_node : number < tree.node_count → depth ≡ 16
  depth-on_node on =
      let few = depth-le in
      elim (cases_lt depth 16) [
        | inl short ↦ let off = entry_descends.ends (omega (arith, short, length-bits_of 16 (n / 2 ^ rest))) in absurd (omega (arith, off, on))
        | inr whole ↦ omega arith
      ]

  -- a walk of sixteen bits more than `rest` that begins from its entry
  pub Descends-entry : (width more ended : ℕ) → width ≡ 16 + rest → Descends tree number (bits_of rest n) more ended → Descends tree start (bits_of width n) (depth + more) ended
  Descends-entry width more ended wide walked = rw (bits_of-split 16 rest width n wide) (Descends-append tree start (bits_of 16 (n / 2 ^ rest)) (bits_of rest n) depth number more ended entry_descends walked)

  -- one that is on a node there
  pub Descends-on : (width more ended : ℕ) → width ≡ 16 + rest → number < tree.node_count → Descends tree number (bits_of rest n) more ended → Descends tree start (bits_of width n) (16 + more) ended
  Descends-on width more ended wide on walked =
      let P : ℕ → Type 0 = λ d. Descends tree start (bits_of width n) (d + more) ended in
      subst P (depth-on_node on) (Descends-entry width more ended wide walked)

  -- one that has left the nodes
  pub Descends-off : (width taken : ℕ) → width ≡ 16 + rest → tree.node_count ≤ number → taken ≡ depth → Descends tree start (bits_of width n) taken number
  Descends-off width taken wide off same =
      let P : ℕ → Type 0 = λ d. Descends tree start (bits_of width n) d number in
      subst P (omega (arith, same)) (Descends-entry width 0 number wide (Descends-none tree number (bits_of rest n) (inl off)))

pub IsFull-same : (tree seen : SearchTree) (start : ℕ) (numbers depths seen_numbers seen_depths : List ℕ) → seen ≡ tree → seen_numbers ≡ numbers → seen_depths ≡ depths → IsFull tree start numbers depths → IsFull seen start seen_numbers seen_depths
IsFull-same tree seen start numbers depths seen_numbers seen_depths same same_numbers same_depths full =
    let P : SearchTree → Type 0 = λ t. IsFull t start numbers depths in
    let Q : List ℕ → Type 0 = λ xs. IsFull seen start xs depths in
    let R : List ℕ → Type 0 = λ xs. IsFull seen start seen_numbers xs in
    subst R (sym same_depths) (subst Q (sym same_numbers) (subst P (sym same) full))

-- a walk from a table, where tree, table and bits go by other names
module _ (tree seen : SearchTree) (start : ℕ) (numbers depths seen_numbers seen_depths : List ℕ) (same : seen ≡ tree) (same_numbers : seen_numbers ≡ numbers) (same_depths : seen_depths ≡ depths) (full : IsFull tree start numbers depths) where
  pub walked-from : (bits named : List Bool) (taken number : ℕ) → bits ≡ named → ((s : ℕ) → IsFull seen s seen_numbers seen_depths → Descends seen s bits taken number) → Descends tree start named taken number
  walked-from bits named taken number is walk = Descends-same tree seen start named bits taken number same is (walk start (IsFull-same tree seen start numbers depths seen_numbers seen_depths same same_numbers same_depths full))

  pub read-from : (read taken : ℕ) → ((s : ℕ) → IsFull seen s seen_numbers seen_depths → read ≡ taken - 16) → read ≡ taken - 16
  read-from read taken past = past start (IsFull-same tree seen start numbers depths seen_numbers seen_depths same same_numbers same_depths full)

pub taken-le : (tree : SearchTree) (start width n taken number : ℕ) → Descends tree start (bits_of width n) taken number → taken ≤ width
taken-le tree start width n taken number d = let within = d.walks.within in omega (arith, within, length-bits_of width n)
