use Rattle.std.proofs.Common.{rules, ◌<◌, ◌≤◌, length, drop, arith, sym, subst}
use Rattle.std.proofs.lemmas.List.{get_or_append_left, length-take-le}
use Rattle.std.specs.Prelude.{slice_index_or}
use Rattle.mmdb_reader.specs.Many.{IsFoundFor}
use Rattle.mmdb_cmd_enrich.proofs.leaves.Leaves.find.Goals as goal

pub returns : goal.returns
returns g c = λ i address leaf below.
    let addresses = c.args.addresses.now in
    let leaves = c.args.self.now.leaves in
    let found = c.find_leaves.new.leaves in
    let within : length addresses ≤ length leaves = search rules in
    let many : i < length found = let same = c.find_leaves.ensures.length in omega (arith, below, same, length-take-le (length addresses) leaves within) in
    subst (IsFoundFor c.args.reader.now (slice_index_or addresses i address)) (sym (get_or_append_left found (drop (length addresses) leaves) leaf i many)) (c.find_leaves.ensures.found i address leaf below)
