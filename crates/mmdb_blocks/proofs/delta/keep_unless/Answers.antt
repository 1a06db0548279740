use Rattle.std.proofs.lemmas.Bool.{false≢true}
use Rattle.mmdb_blocks.proofs.RangeLaws.{both-ways, either-right}
use Rattle.mmdb_blocks.proofs.DeltaLaws.{listed-more}
use Rattle.mmdb_blocks.proofs.delta.keep_unless.Goals as goal

pub returns-in_ok-push : goal.returns-in_ok-push
returns-in_ok-push c = λ x.
    rw c.in_ok-push.ensures.items
    (both-ways (listed-more x c.args.left.now.items c.args.block) (either-right ((λ e. (e, λ h. false≢true (c.if-not-begins_with.ensures.1 h))), (λ h. h.0))))
