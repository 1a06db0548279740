use Rattle.std.proofs.Common.{◌≡◌, ℕ, ◌<◌, Bool, List, length, get_or, take, arith, sym, subst}
use Rattle.std.proofs.lemmas.List.{get_or-take, length-take-le}
use Rattle.std.specs.declared.net.ip_addr.IpAddr.{IpAddr}
use Rattle.mmdb_net.specs.Address.{bits_of_address}
use Rattle.mmdb_tree.specs.Tree.{SearchTree}
use Rattle.mmdb_tree.specs.Descents.{Walks, Descends}
use Rattle.mmdb_tree.specs.Nodes.{tree_in}
use Rattle.mmdb_c.specs.Opened.{tree}
use Rattle.mmdb_c.specs.Working.{IsIpOf}
use Rattle.mmdb_c.proofs.ManyLemmas.{some_ip, ipv4_bits-given, ipv6_bits-given}
use Rattle.mmdb_c.proofs.db.Db.walk_all.Goals as goal

pub returns : goal.returns
returns c i a d h =
    let addresses = c.args.addresses.now in
    let address = get_or addresses i a in
    let ips = c.ips_of.new.ips in
    let ip = get_or ips i some_ip in
    let was = get_or c.begin_all.new.leaves i d in
    let leaf = get_or c.go_on.new.leaves i d in
    let t = tree c.args.self.now.file.now c.args.self.now.facts in
    let is : IsIpOf address ip = c.ips_of.ensures i a some_ip h in
    let begun = c.begin_all.ensures i a d h in
    let n = length addresses in
    let few = c.requires in
    let long = c.ips_of.array_long in
    let taken = length-take-le n ips (omega (arith, few, long)) in
    let below : i < length (take n ips) = omega (arith, h, taken) in
    let one : get_or (take n ips) i some_ip ≡ ip = get_or-take n ips i some_ip h in
    let ends : (start : ℕ) → Walks t start (bits_of_address ip) was.taken was.number → Descends t start (bits_of_address ip) leaf.taken leaf.number = λ start w.
    let A : SearchTree → IpAddr → Type 0 = λ x y. Walks x start (bits_of_address y) was.taken was.number in
    let B : SearchTree → IpAddr → Type 0 = λ x y. Descends x start (bits_of_address y) leaf.taken leaf.number in
    let walked : A (tree_in c.nodes.result) (get_or (take n ips) i some_ip) = subst (λ x. A x (get_or (take n ips) i some_ip)) (sym c.nodes.ensures.tree) (subst (A t) (sym one) w) in
    subst (B t) one (subst (λ x. B x (get_or (take n ips) i some_ip)) c.nodes.ensures.tree (c.go_on.ensures i some_ip d start below walked)) in
    record {
      ipv4 = λ four on.
          let bits = ipv4_bits-given address ip is four in
          let P : List Bool → Type 0 = λ bs. Walks t c.args.self.now.facts.ipv4_start bs was.taken was.number in
          let Q : List Bool → Type 0 = λ bs. Descends t c.args.self.now.facts.ipv4_start bs leaf.taken leaf.number in
          subst Q bits (ends c.args.self.now.facts.ipv4_start (subst P (sym bits) (begun.ipv4 four on)));
      ipv6 = λ six on.
          let bits = ipv6_bits-given address ip is six in
          let P : List Bool → Type 0 = λ bs. Walks t 0 bs was.taken was.number in
          let Q : List Bool → Type 0 = λ bs. Descends t 0 bs leaf.taken leaf.number in
          subst Q bits (ends 0 (subst P (sym bits) (begun.ipv6 six on)));
    }
