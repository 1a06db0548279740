use Rattle.std.proofs.Common.{rules}
use Rattle.std.proofs.lemmas.List.Sorted.{IsNonDecreasingBy-from_sort_by_key}
use Rattle.mmdb_blocks.specs.declared.ranges.BlockRange.{BlockRange}
use Rattle.mmdb_blocks.proofs.RangeLaws.{among-sorted, begins-sorted}
use Rattle.mmdb_blocks.proofs.ranges.sort.Goals as goal

pub returns-clause-same : goal.returns-clause-same
returns-clause-same c = among-sorted _ _ c.sort_unstable_by_key.ensures.permutation

pub returns-clause-begins : goal.returns-clause-begins
returns-clause-begins c = begins-sorted _ (IsNonDecreasingBy-from_sort_by_key (λ (r : BlockRange). r.first) _ c.sort_unstable_by_key.ensures.sorted (λ a r q k. search rules))
