use Rattle.mmdb_cmd_diff.proofs.Liking.{alike-last}
use Rattle.mmdb_cmd_diff.proofs.differences.Pairs.keep_last.Goals as goal

pub returns-clause-kept : goal.returns-clause-kept
returns-clause-kept c all one =
    alike-last c.args.self.now.shown c.args.offsets c.args.self.now.kept c.keep_last.new.self c.keep_last.ensures.same c.keep_last.ensures.last all one
