use Rattle.std.proofs.Common.{ℕ, ◌+◌, ◌*◌, ap, ◌∙◌}
use Rattle.mmdb_tree.specs.Walked.{walked_by}
use Rattle.mmdb_reader.specs.Shown.{block_in}
use Rattle.mmdb_reader.proofs.FewLemmas.{few-stops}
use Rattle.mmdb_reader.proofs.reader.Reader.has_few_networks.Goals as goal

pub returns-clause-few : goal.returns-clause-few
returns-clause-few g c =
    let db = c.args.self.now in
    let range = c.in-Some.range in
    let walker = c.tree_walker-walker.result in
    let are = c.tree_walker-walker.ensures.are in
    c.stops_at_most.ensures
    ∙ few-stops db (walked_by walker) walker.width range.prefix range.address (3 * walker.nodes.node_count + 1) (block_in db c.args.network) c.tree_walker-walker.ensures.walks are.width c.in-Some.ensures.within c.in-Some.ensures.block (ap (λ (n : ℕ). 3 * n + 1) are.count)
