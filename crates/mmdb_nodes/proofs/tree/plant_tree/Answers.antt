use Rattle.std.proofs.Common.{arith, ◌≡◌, inl, inr, ℕ, ◌<◌, ◌≤◌, ◌^◌, [], ap, sym, subst, ◌∙◌, length, None, List}
use Rattle.std.proofs.Math.Nat.{pow-le-pow_right}
use Rattle.std.proofs.lemmas.Result.{err_from_is_err_and}
use Rattle.std.specs.List.{AllByRecursion}
use Rattle.mmdb_nodes.specs.declared.entry.NodeEntry.{NodeEntry}
use Rattle.mmdb_nodes.specs.declared.entry.IpVersion.{IpVersion}
use Rattle.mmdb_nodes.specs.declared.node.Node.{Node as SpecNode}
use Rattle.mmdb_nodes.specs.declared.node.NodeRecord.{NodeRecord}
use Rattle.mmdb_nodes.specs.declared.node.NodeRecord.TheVariants.{Node}
use Rattle.mmdb_nodes.specs.Entries.{width}
use Rattle.mmdb_nodes.specs.Working.{Leads, IsBelow, IsSound, IsInside, HasNoTwins, IsForest, HasFewEnds, HasAsMany, NeedsTooMany}
use Rattle.mmdb_nodes.proofs.EntryLemmas.{all_inside, all_below}
use Rattle.mmdb_nodes.proofs.LeadLemmas.{cases_of, Keeps-refl}
use Rattle.mmdb_nodes.proofs.TreeLemmas.{width_fits, IsPlanted, node_tree, leaf_tree, whole_too_many}
use Rattle.mmdb_nodes.proofs.tree.plant_tree.Goals as goal

pub plant-requires-clause-inside : goal.plant-requires-clause-inside
plant-requires-clause-inside c =
    subst (λ (n : ℕ). AllByRecursion (IsInside 0 n) c.args.entries.now) (sym c.width.ensures) (all_inside c.args.version c.args.data_len c.args.entries.now c.requires.entries)

pub plant-requires-clause-room : goal.plant-requires-clause-room
plant-requires-clause-room c =
    let w = c.width.ensures in let f = width_fits c.args.version in
    let fits : c.width.result ≤ 128 = omega arith in
    let most : 2 ^ c.width.result ≤ 2 ^ 128 = pow-le-pow_right (omega arith) fits in
    omega arith

-- the clauses of what was planted after no nodes
planted : (version : IpVersion) (es : List NodeEntry) (data_len : ℕ) (nodes old : List SpecNode) (r : NodeRecord) (free : ℕ) → old ≡ [] → free ≡ width version
    → Leads (length old) nodes r 0 free None es → IsSound (length old) data_len nodes → IsBelow (length nodes) data_len r
    → ((n : ℕ) → r ≡ Node n → (n ≡ length old) × (n < length nodes)) → HasFewEnds (length old) nodes r free → HasNoTwins (length old) nodes → IsForest (length old) nodes
    → HasAsMany (length old) (length nodes) r 0 free None es → IsPlanted version es data_len nodes r
planted version es data_len nodes old r free none is leads sound below preorder few reduced forest many =
    let zero : length old ≡ 0 = ap length none in record {
      leads = subst (λ (n : ℕ). Leads n nodes r 0 (width version) None es) zero (subst (λ (k : ℕ). Leads (length old) nodes r 0 k None es) is leads);
      sound = subst (λ (n : ℕ). IsSound n data_len nodes) zero sound;
      below = below;
      preorder = λ n at. ((preorder n at).0 ∙ zero, (preorder n at).1);
      few = let f = subst (HasFewEnds (length old) nodes r) is few in let g = f.few nodes (Keeps-refl (length old) nodes) in omega arith;
      reduced = subst (λ (n : ℕ). HasNoTwins n nodes) zero reduced;
      forest = subst (λ (n : ℕ). IsForest n nodes) zero forest;
      many = subst (λ (n : ℕ). HasAsMany n (length nodes) r 0 (width version) None es) zero (subst (λ (k : ℕ). HasAsMany (length old) (length nodes) r 0 k None es) is many);
    }

pub returns-in_err-root-clause-too_large : goal.returns-in_err-root-clause-too_large
returns-in_err-root-clause-too_large c =
    let p = err_from_is_err_and c.from_residual.result c.from_residual.ensures.1 in
    let zero : length c.new-nodes.result.items ≡ 0 = ap length c.new-nodes.ensures.items in
    rw p.1 (λ is. whole_too_many c.args.version c.args.entries.now
    (subst (λ (n : ℕ). NeedsTooMany n 0 (width c.args.version) None c.args.entries.now) zero
    (subst (λ (k : ℕ). NeedsTooMany (length c.new-nodes.result.items) 0 k None c.args.entries.now) c.width.ensures (c.in_err-root.ensures.too_large (sym p.2 ∙ is)))))

pub returns-in-Node-clause-ok : goal.returns-in-Node-clause-ok
returns-in-Node-clause-ok c =
    let e = c.in_ok-root.ensures in
    let below = all_below c.args.version c.args.data_len c.args.entries.now c.requires.entries in
    node_tree c.args.version c.args.entries.now c.args.data_len c.plant.new.nodes.items c.in_ok-root.root
    (planted _ _ _ _ _ _ _ c.new-nodes.ensures.items c.width.ensures e.leads (e.sound c.args.data_len below tt) (e.below c.args.data_len below tt) e.preorder e.few e.reduced e.forest e.count)
    c.in-Node.field-0 c.in-Node.is

pub returns-in_ok-lone_node-in_default : goal.returns-in_ok-lone_node-in_default
returns-in_ok-lone_node-in_default c =
    let e = c.in_ok-root.ensures in
    let below = all_below c.args.version c.args.data_len c.args.entries.now c.requires.entries in
    let p = planted _ _ _ _ _ _ _ c.new-nodes.ensures.items c.width.ensures e.leads (e.sound c.args.data_len below tt) (e.below c.args.data_len below tt) e.preorder e.few e.reduced e.forest e.count in
    let one = c.in_ok-lone_node-in_default.ensures in
    elim (cases_of c.in_ok-root.root) [
      | inr node ↦ absurd (c.in_default.not-Node node.0 node.1)
      | inl value ↦ record { ok = leaf_tree c.args.version c.args.entries.now c.args.data_len c.plant.new.nodes.items c.in_ok-root.root p value.0 _ value.1 one; too_large = tt }
    ]
