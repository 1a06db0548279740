use Rattle.std.proofs.Common.{◌∷◌, List, ap, sym, ◌∙◌}
use Rattle.mmdb_blocks.specs.declared.block.Block.{Block}
use Rattle.mmdb_reader.specs.Enumeration.{database_walked}
use Rattle.mmdb_compare.specs.Coming.{Leaf, coming}
use Rattle.mmdb_compare.specs.Coming.Leaf.{Unread}
use Rattle.mmdb_compare.specs.Walks.{Standing}
use Rattle.mmdb_compare.proofs.ListedLaws.{found_block, next_network, next_leaf}
use Rattle.mmdb_compare.proofs.walk.Walk.advance.Goals as goal

pub returns-in-Some-Ok-clause-step : goal.returns-in-Some-Ok-clause-step
returns-in-Some-Ok-clause-step g c =
    let steps = c.in-Some-Ok.ensures.steps in
    let n = c.numbered_network-network.ensures in
    let i = c.self.inside in
    let range : Block = record { first = i.range_first; prefix = i.range_prefix } in
    let of_now = ap (λ (s : Standing). coming s.leaves s.is_unknown) c.self.view_is in
    let item = rw c.in-Some-Ok.field-0-is at steps.0 in
    let asked = rw c.in-Some-Ok.field-0-is at steps.1.1 in
    let block = found_block (database_walked i.networks) _ range c.block_within-block.result _ _ _ _ _ asked n.is_width n.leaf n.masked n.within.0 n.fits n.kind c.block_within-block.ensures in
    record {
      left = rw c.offset-self-inside.ensures (next_network (database_walked i.networks) (database_walked c.next.new.self) range c.block_within-block.result _ _ _ _ _ i.is_unknown item steps.1.0 block ∙ of_now);
      stands = tt;
    }

pub returns-in-Some-Err-clause-step : goal.returns-in-Some-Err-clause-step
returns-in-Some-Err-clause-step g c =
    let steps = c.in-Some-Err.ensures.steps in
    let i = c.self.inside in
    let range : Block = record { first = i.range_first; prefix = i.range_prefix } in
    let of_now = ap (λ (s : Standing). s.leaves) c.self.view_is in
    let item = rw c.in-Some-Err.field-0-is at steps.0 in
    let first = next_leaf (database_walked i.networks) (database_walked c.next.new.self) range _ _ _ item steps.1.0 in
    let rest = ap (λ (s : Standing). s.leaves) c.give.ensures in
    let now = c.args.self.now in
    record {
      is_unknown = now.is_unknown;
      met = ap (λ (leaves : List Leaf). coming leaves now.is_unknown) (sym of_now ∙ first ∙ ap (λ (leaves : List Leaf). Unread ∷ leaves) (sym rest));
      stands = ap (λ (s : Standing). s.stand) c.give.ensures;
      unknown = ap (λ (s : Standing). s.is_unknown) c.give.ensures;
    }
