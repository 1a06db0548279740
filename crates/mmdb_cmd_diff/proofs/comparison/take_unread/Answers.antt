use Rattle.mmdb_cmd_diff.specs.Walked.{both_of}
use Rattle.mmdb_cmd_diff.proofs.Gathering.{both-ok, goes-reported}
use Rattle.mmdb_cmd_diff.proofs.comparison.take_unread.Goals as goal

pub returns-in-Some-clause-goes_on : goal.returns-in-Some-clause-goes_on
returns-in-Some-clause-goes_on g c left compared so =
    let on = c.in_ok-compare_waiting.ensures.goes_on left compared so in
    let reported = c.report_leaf-reported in
    both-ok reported.result _ _ _
    (λ told ready. goes-reported left c.args.so_far.now c.compare_waiting.new.so_far reported.new.so_far _ _ _ c.compare_waiting.ensures.same reported.ensures.same reported.ensures.waiting ready on told)
    (reported.ensures.told (both_of left) on.so_far.ready) (reported.ensures.ready (both_of left) on.so_far.ready)
