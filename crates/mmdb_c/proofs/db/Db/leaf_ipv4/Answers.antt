use Rattle.std.proofs.Common.{refl}
use Rattle.mmdb_tree.proofs.TableLemmas.{walked-from, taken-le}
use Rattle.mmdb_c.specs.Opened.{tree}
use Rattle.mmdb_c.proofs.db.Db.leaf_ipv4.Goals as goal

pub returns-clause-reached : goal.returns-clause-reached
returns-clause-reached c =
    walked-from (tree c.args.self.now.file.now c.args.self.now.facts) _ c.args.self.now.facts.ipv4_start c.args.self.now.ipv4_numbers.now c.args.self.now.ipv4_depths.now _ _ c.nodes-nodes.ensures.tree refl refl (c.args.self.now.opened.ipv4_full c.requires) _ _ c.descend_ipv4-descent.result.taken _ refl c.descend_ipv4-descent.ensures.reached

pub returns-clause-few : goal.returns-clause-few
returns-clause-few c = taken-le _ _ 32 _ _ _ (walked-from (tree c.args.self.now.file.now c.args.self.now.facts) _ c.args.self.now.facts.ipv4_start c.args.self.now.ipv4_numbers.now c.args.self.now.ipv4_depths.now _ _ c.nodes-nodes.ensures.tree refl refl (c.args.self.now.opened.ipv4_full c.requires) _ _ c.descend_ipv4-descent.result.taken _ refl c.descend_ipv4-descent.ensures.reached)
