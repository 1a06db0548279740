use Rattle.std.proofs.Common.{◌≡◌, ℕ, Option, Some, IsTrue, nat_eq, ap, sym, ◌∙◌, arith, eq-eqb}
use Rattle.std.proofs.lemmas.Bool.Decides.{nat_tests}
use Rattle.mmdb_nodes.specs.declared.node.NodeRecord.{NodeRecord}
use Rattle.mmdb_nodes.specs.declared.node.NodeRecord.TheVariants.{Data}
use Rattle.mmdb_nodes.specs.Working.{leaf}
use Rattle.mmdb_nodes.proofs.LeadLemmas.{leaf_value}
use Rattle.mmdb_nodes.proofs.node.are_same_leaf.Goals as goal

equal_offsets : (one other : ℕ) (left right : NodeRecord) → left ≡ Data one → right ≡ Data other → (v : Option ℕ) × (left ≡ leaf v) × (right ≡ leaf v) → one ≡ other
equal_offsets one other left right l r (v, a, b) =
    let x : Some one ≡ v = leaf_value (Some one) v (sym l ∙ a) in
    let y : Some other ≡ v = leaf_value (Some other) v (sym r ∙ b) in
    let z : Some one ≡ Some other = x ∙ sym y in
    cc

same_number : (one other : ℕ) → IsTrue (nat_eq one other) → one ≡ other
same_number one other h = grind (arith, nat_tests)

pub returns-in-Data-Data : goal.returns-in-Data-Data
returns-in-Data-Data c =
    let a = c.in-Data-Data in (
      λ test. (Some a.one, a.is-0, a.is-1 ∙ ap Data (sym (same_number a.one a.other test))),
      λ both. eq-eqb a.one a.other (equal_offsets a.one a.other c.args.left c.args.right a.is-0 a.is-1 both),
    )
