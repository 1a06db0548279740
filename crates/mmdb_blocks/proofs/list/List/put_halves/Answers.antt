use Rattle.mmdb_blocks.specs.Lists.{page_of, lower_half, upper_half}
use Rattle.mmdb_blocks.proofs.ListLaws.{halves-written, halves-failed, half-failed}
use Rattle.mmdb_blocks.proofs.list.List.put_halves.Goals as goal

pub returns-in_err-put_whole-clause-failed : goal.returns-in_err-put_whole-clause-failed
returns-in_err-put_whole-clause-failed g c =
    half-failed c.from_residual.result _ (page_of c.args.self.now) c.args.kind _ _ c.halves_of.result.0 (lower_half c.args.block) (upper_half c.args.block) c.halves_of.ensures.lower c.from_residual.ensures.1 c.in_err-put_whole.ensures.failed

pub returns-clause-written : goal.returns-clause-written
returns-clause-written g c =
    halves-written c.put_whole-2.result (page_of c.args.self.now) (page_of c.put_whole.new.self) c.args.kind _ _ _ c.halves_of.result.0 c.halves_of.result.1 (lower_half c.args.block) (upper_half c.args.block)
    c.halves_of.ensures.lower c.halves_of.ensures.upper c.in_ok-put_whole.ensures.page c.in_ok-put_whole.ensures.written c.put_whole-2.ensures.written

pub returns-clause-failed : goal.returns-clause-failed
returns-clause-failed g c =
    halves-failed c.put_whole-2.result (page_of c.args.self.now) (page_of c.put_whole.new.self) c.args.kind _ _ _ c.halves_of.result.0 c.halves_of.result.1 (lower_half c.args.block) (upper_half c.args.block)
    c.halves_of.ensures.lower c.halves_of.ensures.upper c.in_ok-put_whole.ensures.page c.in_ok-put_whole.ensures.written c.put_whole-2.ensures.failed
