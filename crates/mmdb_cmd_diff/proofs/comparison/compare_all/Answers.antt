use Rattle.std.proofs.lemmas.Result.{on_ok_weaker}
use Rattle.mmdb_cmd_diff.specs.Walked.{both_of}
use Rattle.mmdb_cmd_diff.proofs.Gathering.{all-finished}
use Rattle.mmdb_cmd_diff.proofs.comparison.compare_all.Goals as goal

pub returns-clause-told : goal.returns-clause-told
returns-clause-told g c =
    let left = c.args.together.now.left in
    let next = c.take_all.new.so_far in
    let along = c.in_ok-take_all.ensures in
    on_ok_weaker c.finish.result
    (λ t. all-finished left c.args.so_far.now next _ _ _ along.same along.none (along.told c.requires.compared c.requires.so_far c.requires.few c.requires.at) t)
    (c.finish.ensures.told (both_of left) (along.so_far c.requires.compared c.requires.so_far c.requires.few c.requires.at).ready.changes)
