use Rattle.std.proofs.Common.{ap, subst, refl}
use Rattle.mmdb_blocks.specs.Joining.{waiting_of, settled_of}
use Rattle.mmdb_blocks.specs.Lists.{listing_of, IsRefused}
use Rattle.mmdb_blocks.proofs.ListLaws.{change-fails, push-written, push-fails}
use Rattle.mmdb_blocks.proofs.list.List.push.Goals as goal

pub returns-in_err-change_to-clause-failed : goal.returns-in_err-change_to-clause-failed
returns-in_err-change_to-clause-failed g c =
    change-fails c.from_residual.result _ c.args.kind c.args.block (listing_of c.args.self.now) _ _ c.from_residual.ensures.1 c.in_err-change_to.ensures.failed

pub returns-in-Settled-clause-pushed : goal.returns-in-Settled-clause-pushed
returns-in-Settled-clause-pushed g c =
    push-written c.put_settled.result c.args.kind c.args.block (listing_of c.args.self.now) (listing_of c.change_to.new.self) (listing_of c.take.new.self) (listing_of c.put_settled.new.self) _ _ _
    (c.if-not-has.ensures.0 refl) c.in_ok-change_to.ensures.page c.in_ok-change_to.ensures.waiting c.in-Settled.ensures.0 c.in_ok-change_to.ensures.written c.put_settled.ensures.written c.put_settled.ensures.page
    c.put_settled.ensures.kind (ap (λ j. waiting_of j) c.put_settled.ensures.joiner) (ap (λ j. settled_of j) c.put_settled.ensures.joiner)

pub returns-in-Settled-clause-failed : goal.returns-in-Settled-clause-failed
returns-in-Settled-clause-failed g c =
    push-fails c.put_settled.result c.args.kind c.args.block (listing_of c.args.self.now) (listing_of c.change_to.new.self) (listing_of c.take.new.self) _ _ _
    c.in_ok-change_to.ensures.page c.in_ok-change_to.ensures.waiting c.in-Settled.ensures.0 c.in_ok-change_to.ensures.written c.put_settled.ensures.failed

pub returns-in-Not-clause-failed : goal.returns-in-Not-clause-failed
returns-in-Not-clause-failed g c = (
  subst (λ ws. IsRefused ws c.args.block) c.in_ok-change_to.ensures.waiting (c.in-Not.ensures.1 c.in_ok-change_to.ensures.kind),
  c.in_ok-change_to.ensures.written,
)
