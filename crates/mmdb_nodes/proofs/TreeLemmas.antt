-- The nodes of a whole tree.
use Rattle.std.proofs.Common.{arith, ◌≡◌, inl, inr, ℕ, ◌+◌, ◌<◌, ◌≤◌, ◌^◌, ◌∷◌, [], ap, sym, ◌∙◌, length, None, Option, List}
use Rattle.mmdb_net.specs.Bits.{bits_of}
use Rattle.mmdb_nodes.specs.declared.entry.NodeEntry.{NodeEntry}
use Rattle.mmdb_nodes.specs.declared.entry.IpVersion.{IpVersion}
use Rattle.mmdb_nodes.specs.declared.entry.IpVersion.TheVariants.{V4, V6}
use Rattle.mmdb_nodes.specs.declared.node.Node.{Node as SpecNode}
use Rattle.mmdb_nodes.specs.declared.node.NodeRecord.{NodeRecord}
use Rattle.mmdb_nodes.specs.declared.node.NodeRecord.TheVariants.{Node}
use Rattle.mmdb_nodes.specs.Entries.{width, offset_in}
use Rattle.mmdb_nodes.specs.Trees.{splits, nodes_for}
use Rattle.mmdb_nodes.specs.Working.{leaf, lead, ends, Leads, IsBelow, IsSound, HasNoTwins, IsForest, HasAsMany, NeedsTooMany, AreNodesOf}
use Rattle.mmdb_nodes.proofs.LeadLemmas.{lone_leads, lone_sound, Keeps-refl}
use Rattle.mmdb_nodes.proofs.CountLemmas.{lone_few}
use Rattle.mmdb_nodes.proofs.ForestLemmas.{lone_forest}
use Rattle.mmdb_nodes.proofs.SplitLemmas.{leaf_says, splits-none}

pub width_fits : (version : IpVersion) → width version ≤ 128
width_fits V4 = omega arith
width_fits V6 = omega arith

pub some_bits : (version : IpVersion) → 0 < width version
some_bits V4 = omega arith
some_bits V6 = omega arith

-- what was planted for all addresses
pub record IsPlanted (version : IpVersion) (es : List NodeEntry) (data_len : ℕ) (nodes : List SpecNode) (r : NodeRecord) : Type 0 where
  pub leads : Leads 0 nodes r 0 (width version) None es
  pub sound : IsSound 0 data_len nodes
  pub below : IsBelow (length nodes) data_len r
  pub preorder : (n : ℕ) → r ≡ Node n → (n ≡ 0) × (n < length nodes)
  pub few : ends nodes r (width version) ≤ 1 + length nodes
  pub reduced : HasNoTwins 0 nodes
  pub forest : IsForest 0 nodes
  pub many : HasAsMany 0 (length nodes) r 0 (width version) None es

module _ (version : IpVersion) (es : List NodeEntry) (data_len : ℕ) (nodes : List SpecNode) (r : NodeRecord) (p : IsPlanted version es data_len nodes r) where
  -- where the addresses differ
  pub node_tree : (n : ℕ) → r ≡ Node n → AreNodesOf version es data_len nodes
  node_tree n is =
      let first = p.preorder n is in
      let root : r ≡ Node 0 = is ∙ ap Node first.0 in
      let some : 0 < length nodes = (let l = first.1 in omega arith) in
      record {
        leads = λ a lt.
            let sum : 0 + a ≡ a = omega arith in
            sym (ap (λ (x : NodeRecord). lead nodes x (bits_of (width version) a)) root) ∙ p.leads.to nodes (Keeps-refl 0 nodes) a lt ∙ ap (λ (x : ℕ). leaf (offset_in es x)) sum;
        some = some;
        sound = p.sound;
        few = let e = ap (λ (x : NodeRecord). ends nodes x (width version)) root in let f = p.few in omega arith;
        reduced = inl p.reduced;
        forest = p.forest;
        count = let c = p.many.count in omega arith;
      }

  -- where all have the same
  pub leaf_tree : (v : Option ℕ) (lone : List SpecNode) → r ≡ leaf v → lone ≡ (record { left = r; right = r }) ∷ [] → AreNodesOf version es data_len lone
  leaf_tree v lone is one =
      let says : (a : ℕ) → a < 2 ^ width version → offset_in es (0 + a) ≡ v = leaf_says 0 nodes r v 0 (width version) None es p.leads is in
      let none : splits (offset_in es) 0 (width version) ≡ 0 = splits-none (offset_in es) v 0 (width version) says in
      let l : length lone ≡ 1 = ap length one in
      record {
        leads = λ a lt.
            let sum : 0 + a ≡ a = omega arith in
            lone_leads v r lone (width version) a is one (some_bits version) ∙ ap leaf (sym (says a lt) ∙ ap (offset_in es) sum);
        some = omega arith;
        sound = lone_sound (length nodes) data_len r v lone is one p.below;
        few = lone_few r v lone (width version) is one;
        forest = lone_forest v r lone is one;
        reduced = inr (v, one ∙ ap (λ (x : NodeRecord). (record { left = x; right = x }) ∷ []) is);
        count = omega arith;
      }

-- more nodes than records can name
pub whole_too_many : (version : IpVersion) (es : List NodeEntry) → NeedsTooMany 0 0 (width version) None es → 2 ^ 32 < nodes_for version es
whole_too_many version es n = let m = n.many in omega arith
