use Rattle.mmdb_blocks.proofs.RangeLaws.{both-ways, among-append}
use Rattle.mmdb_blocks.proofs.listed.sorted.Goals as goal

pub returns-clause-same : goal.returns-clause-same
returns-clause-same c = λ a.
    let e = rw (c.in_ok-extend_from_slice.ensures.items, c.in_ok-ranges.ensures.items) at (c.sort.ensures.same a) in
    both-ways e (among-append a c.args.some.now c.args.others.now)
