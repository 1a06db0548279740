use Rattle.std.proofs.Common.{◌≡◌, ◌<◌, ◌≤◌, length, get_or, take, arith, subst}
use Rattle.std.proofs.lemmas.List.{get_or-take, length-take-le}
use Rattle.std.specs.declared.net.ip_addr.IpAddr.{IpAddr}
use Rattle.mmdb_reader.specs.Many.{IsFoundFor}
use Rattle.mmdb_reader.proofs.reader.Reader.find_group.Goals as goal
use Rattle.mmdb_reader.proofs.reader.Reader.find_group.Goals.{then-addresses-lt-GROUP, else-addresses-lt-GROUP}

pub returns-clause-found : goal.returns-clause-found
returns-clause-found g c i a d h =
    let addresses = c.args.addresses.now in
    let count = c.if-addresses-lt-GROUP.count in
    let new = c.walk_group.new.leaves in
    let within : count ≤ length addresses = elim c.if-addresses-lt-GROUP.branch [
      | then-addresses-lt-GROUP w ↦ let is = w.count-is in omega (arith, is)
      | else-addresses-lt-GROUP w ↦ let is = w.count-is in let more = w.if-addresses-lt-GROUP.false in omega (arith, is, more)
    ] in
    let taken : length (take count addresses) ≡ count = length-take-le count addresses within in
    let below : i < length (take count addresses) = omega (arith, h, taken) in
    let P : IpAddr → Type 0 = λ x. IsFoundFor c.args.self.now x (get_or new i d) in
    subst P (get_or-take count addresses i a h) (c.walk_group.ensures i a d below)
