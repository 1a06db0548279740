use Rattle.std.proofs.Common.{ℕ, List, ◌≡◌, ◌++◌, take, drop, length, ap, sym, ◌∙◌, arith, subst}
use Rattle.std.proofs.Math.Seq.{take-append_seam}
use Rattle.mmdb_tree.specs.Nodes.{tree_in}
use Rattle.mmdb_tree.specs.Table.{IsFull}
use Rattle.mmdb_tree.proofs.nodes.Nodes.table.Goals as goal

-- what a vector of this many elements holds, once all of them were written over
abbrev over : ℕ → List ℕ → List ℕ → List ℕ
over len items old = take len (items ++ drop (length items) old)

over-is : (len : ℕ) (items old : List ℕ) → len ≡ length items → items ≡ over len items old
over-is len items old whole = sym (ap (λ (n : ℕ). take n (items ++ drop (length items) old)) whole ∙ take-append_seam items (drop (length items) old))

pub returns : goal.returns
returns c =
    let on = c.if-start-self.false in
    let full = c.fill_table.ensures in
    let tree = tree_in c.args.self.now in
    let numbers = c.in_ok-numbers.numbers in
    let depths = c.in_ok-depths.depths in
    let new = c.fill_table.new in
    let same_numbers = over-is numbers.len new.numbers numbers.items (let len = c.in_ok-numbers.ensures.len in omega (arith, len, full.numbers_size)) in
    let same_depths = over-is depths.len new.depths depths.items (let len = c.in_ok-depths.ensures.len in omega (arith, len, full.depths_size)) in
    let P : List ℕ → Type 0 = λ xs. IsFull tree c.args.start xs new.depths in
    let Q : List ℕ → Type 0 = λ xs. IsFull tree c.args.start (over numbers.len new.numbers numbers.items) xs in
    record {
      on_node = λ _. subst Q same_depths (subst P same_numbers full);
      off_nodes = λ off. absurd (omega (arith, on, off));
    }
