use Rattle.mmdb_cmd_diff.proofs.comparison.compare.Goals as goal

pub compare_with-done-requires-clause-so_far : goal.compare_with-done-requires-clause-so_far
compare_with-done-requires-clause-so_far g c = c.in_ok-so_far.ensures.so_far c.args.together.now.left
