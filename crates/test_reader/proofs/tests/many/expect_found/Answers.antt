use Rattle.std.proofs.Common.{arith}
use Rattle.test_reader.proofs.tests.many.expect_found.Goals as goal

pub lookup_found-answer-requires : goal.lookup_found-answer-requires
lookup_found-answer-requires c = record {
  found = c.find_leaves.ensures.found c.loop-at.at _ _ (let long = c.addresses_of-addresses.type_inv in let below = c.loop-at-test.true in omega (arith, long, below));
}
