use Rattle.std.proofs.Common.{◌≡◌, [], ◌++◌, ap}
use Rattle.mmdb_blocks.specs.Joining.{waiting_of, settled_of}
use Rattle.mmdb_blocks.specs.Ranges.{IsAmong}
use Rattle.mmdb_blocks.proofs.ListedLaws.{start-kept, finished, joined-of-itself}
use Rattle.mmdb_blocks.proofs.listed.blocks_of.Goals as goal

pub returns-clause-exact : goal.returns-clause-exact
returns-clause-exact c = λ a.
    let first = c.new-blocks.result.items in
    let waiting = waiting_of c.in_ok-joiner.joiner in
    let none : waiting ≡ [] = ap (λ p. p.0) c.in_ok-joiner.ensures.none in
    let taken = c.in_ok-push_ranges.ensures (start-kept first waiting c.new-blocks.ensures.items none c.in_ok-joiner.ensures.joining) in
    let blocks = c.push_ranges.new.blocks.items in
    let later = waiting_of c.push_ranges.new.joiner in
    rw (c.in_ok-extend_from_slice.ensures.items, c.settled.ensures.all)
    (finished first waiting blocks later (settled_of c.finish.new.self) (λ x. IsAmong x c.args.ranges.now) c.new-blocks.ensures.items none taken (c.finish.ensures.all (blocks ++ later) blocks taken.kept) a)

pub returns-clause-fewest : goal.returns-clause-fewest
returns-clause-fewest c =
    let first = c.new-blocks.result.items in
    let waiting = waiting_of c.in_ok-joiner.joiner in
    let none : waiting ≡ [] = ap (λ p. p.0) c.in_ok-joiner.ensures.none in
    let taken = c.in_ok-push_ranges.ensures (start-kept first waiting c.new-blocks.ensures.items none c.in_ok-joiner.ensures.joining) in
    let blocks = c.push_ranges.new.blocks.items in
    let later = waiting_of c.push_ranges.new.joiner in
    rw (c.in_ok-extend_from_slice.ensures.items, c.settled.ensures.all)
    (joined-of-itself (blocks ++ later) (blocks ++ settled_of c.finish.new.self) (c.finish.ensures.all (blocks ++ later) blocks taken.kept))
