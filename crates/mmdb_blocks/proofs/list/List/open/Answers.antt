use Rattle.mmdb_blocks.proofs.ListLaws.{open-breaks}
use Rattle.mmdb_blocks.specs.Lists.{page_of}
use Rattle.mmdb_blocks.proofs.list.List.open.Goals as goal

pub returns-in_err-text-clause-failed : goal.returns-in_err-text-clause-failed
returns-in_err-text-clause-failed g c = open-breaks (page_of c.args.self.now) c.args.kind _ _ c.from_residual-in_err-text.result c.if-self.false c.from_residual-in_err-text.ensures.1 c.in_ok-begin.ensures.written
