use Rattle.mmdb_decode.specs.Skipping.{skip_at}
use Rattle.mmdb_decode.proofs.SkipLaws.{skip_read, skip_rejected}
use Rattle.mmdb_decode.proofs.decoder.Decoder.try_skip.Goals as goal

pub returns-in-Err : goal.returns-in-Err
returns-in-Err c = rw c.fail.ensures.same (skip_rejected skip_at c.args.self.now c.begin_budget.new.self c.pass.new.self c.begin_budget.ensures.begun c.in-Err.ensures.1 c.in-Err.ensures.0)

pub returns-in-Ok : goal.returns-in-Ok
returns-in-Ok c = skip_read skip_at c.args.self.now c.begin_budget.new.self c.pass.new.self c.begin_budget.ensures.begun c.in-Ok.ensures
