use Rattle.std.proofs.Common.{ℕ, ◌<◌, List, length, get_or, slice_set, arith, refl, sym, subst}
use Rattle.std.proofs.lemmas.List.{length-set, get_or_default}
use Rattle.std.specs.declared.net.ip_addr.IpAddr.{IpAddr}
use Rattle.mmdb_tree.specs.declared.group.FoundLeaf.{FoundLeaf}
use Rattle.mmdb_tree.proofs.GroupLemmas.{set-done}
use Rattle.mmdb_reader.specs.File.{Database}
use Rattle.mmdb_reader.specs.Many.{IsFoundFor}
use Rattle.mmdb_reader.proofs.reader.Reader.find_each.Goals as goal

-- what was found for the address at an index
abbrev FoundAt : Database → List IpAddr → ℕ → FoundLeaf → Type 0
FoundAt db addresses j leaf = (a : IpAddr) → IsFoundFor db (get_or addresses j a) leaf

FoundAt-one : (db : Database) (addresses : List IpAddr) (j : ℕ) (a0 : IpAddr) (leaf : FoundLeaf) → j < length addresses → IsFoundFor db (get_or addresses j a0) leaf → FoundAt db addresses j leaf
FoundAt-one db addresses j a0 leaf inside found a = subst (λ x. IsFoundFor db x leaf) (get_or_default addresses j a0 a inside) found

pub loop-i-preserved : goal.loop-i-preserved
loop-i-preserved g c =
    let db = c.args.self.now in
    let i = c.loop-i.i in
    let long = c.loop-i.invariant.long in
    let inside : i < length c.args.addresses.now = c.loop-i-test.true in
    let within : i < length c.loop-i.leaves = omega (arith, inside, long) in
    let leaf = c.leaf.result in
    let addresses = c.args.addresses.now in
    record {
      long = omega (arith, length-set c.loop-i.leaves i leaf, long);
      found = λ j a d h. set-done (FoundAt db addresses) c.loop-i.leaves (slice_set c.loop-i.leaves i leaf) i leaf refl within (λ k e l b. c.loop-i.invariant.found k b e l)
          (FoundAt-one db addresses i _ leaf inside (subst (IsFoundFor db _) (sym c.leaf.ensures) c.walk_one.ensures.found)) j d h a;
    }

pub returns-clause-found : goal.returns-clause-found
returns-clause-found g c i a d h = c.loop-i.invariant.found i a d (let all = c.loop-i-test.false in omega (arith, h, all))
