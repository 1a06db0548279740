use Rattle.std.proofs.Common.{ℕ, ◌<◌, length, get_or, arith}
use Rattle.std.proofs.lemmas.List.{length-set}
use Rattle.std.specs.declared.net.ip_addr.IpAddr.{IpAddr}
use Rattle.mmdb_c.specs.declared.many.Address.{Address}
use Rattle.mmdb_c.specs.Working.{IsIpOf}
use Rattle.mmdb_c.proofs.ManyLemmas.{at_index, one_more}
use Rattle.mmdb_c.proofs.many.ips_of.Goals as goal

pub loop-i-preserved : goal.loop-i-preserved
loop-i-preserved c =
    let addresses = c.args.addresses.now in
    let ips = c.loop-i.ips in
    let i = c.loop-i.i in
    let next = c.ip_of.result in
    let long = c.loop-i.invariant.long in
    let few = c.requires in
    let inside : i < length addresses = c.loop-i-test.true in
    let within : i < length ips = omega (arith, inside, few, long) in
    let P : ℕ → IpAddr → Type 0 = λ j x. (a : Address) → IsIpOf (get_or addresses j a) x in
    record {
      long = omega (arith, length-set ips i next, long);
      done = one_more P ips i next within c.loop-i.invariant.done (at_index (λ a. IsIpOf a next) addresses i _ inside c.ip_of.ensures);
    }

pub returns : goal.returns
returns c i a d h = c.loop-i.invariant.done i d (let all = c.loop-i-test.false in omega (arith, h, all)) a
