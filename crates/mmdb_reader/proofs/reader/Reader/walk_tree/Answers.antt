use Rattle.std.proofs.Common.{refl}
use Rattle.mmdb_reader.specs.Stops.{walked_tree}
use Rattle.mmdb_reader.proofs.WholeLemmas.{whole_by}
use Rattle.mmdb_reader.proofs.reader.Reader.walk_tree.Goals as goal

pub returns-in-Whole-clause-ok : goal.returns-in-Whole-clause-ok
returns-in-Whole-clause-ok g c =
    let db = c.args.self.now in
    whole_by db (walked_tree db) c.in_ok-walked.set c.in_ok-walked.walked.taken c.in_ok-walked.walked.end c.in_ok-walked.ensures.verdict c.in-Whole.is refl
