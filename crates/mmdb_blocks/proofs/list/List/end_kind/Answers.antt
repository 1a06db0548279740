use Rattle.mmdb_blocks.specs.Joining.{waiting_of}
use Rattle.mmdb_blocks.specs.Lists.{page_of}
use Rattle.mmdb_blocks.proofs.ListLaws.{rest-fails}
use Rattle.mmdb_blocks.proofs.list.List.end_kind.Goals as goal

pub returns-in_err-put_settled-clause-failed : goal.returns-in_err-put_settled-clause-failed
returns-in_err-put_settled-clause-failed g c =
    rest-fails c.from_residual.result _ (page_of c.args.self.now) c.args.kind _ (waiting_of c.args.self.now.joiner) _ _ c.finish.ensures.handed c.from_residual.ensures.1 c.in_err-put_settled.ensures.failed
