use Rattle.std.proofs.Common.{ltb, ltb-true, ltb-false, arith, rules}
use Rattle.std.proofs.lemmas.List.Sorted.{IsPartitionPoint-from_clause, IsPartitionedBy-ltb}
use Rattle.mmdb_nodes.specs.declared.entry.NodeEntry.{NodeEntry}
use Rattle.mmdb_nodes.specs.Working.{Precedes, Follows}
use Rattle.mmdb_nodes.proofs.EntryLemmas.{firsts_rise, all_front, all_back}
use Rattle.mmdb_nodes.proofs.entry.cut_at.Goals as goal

pub returns-clause-before : goal.returns-clause-before
returns-clause-before c =
    let es = c.args.entries.now in
    let parted = IsPartitionedBy-ltb (λ (e : NodeEntry). e.first) es c.args.middle (firsts_rise es c.requires) in
    let point = IsPartitionPoint-from_clause (λ (e : NodeEntry). ltb e.first c.args.middle) es _ c.partition_point.ensures.partitioned parted (λ a r q k. search rules) in
    all_front (Precedes c.args.middle) es c.partition_point.result c.partition_point.ensures.bound (λ k d h. ltb-true _ _ (point.0 k d (omega arith) h))

pub returns-clause-after : goal.returns-clause-after
returns-clause-after c =
    let es = c.args.entries.now in
    let parted = IsPartitionedBy-ltb (λ (e : NodeEntry). e.first) es c.args.middle (firsts_rise es c.requires) in
    let point = IsPartitionPoint-from_clause (λ (e : NodeEntry). ltb e.first c.args.middle) es _ c.partition_point.ensures.partitioned parted (λ a r q k. search rules) in
    all_back (Follows c.args.middle) es c.partition_point.result c.partition_point.ensures.bound (λ k d h lt. ltb-false _ _ (point.1 k d h lt))
