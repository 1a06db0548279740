use Rattle.std.proofs.Common.{ℕ, ◌<◌, length, get_or, arith}
use Rattle.std.proofs.lemmas.List.{length-set}
use Rattle.mmdb_tree.specs.declared.group.FoundLeaf.{FoundLeaf}
use Rattle.mmdb_c.specs.declared.many.Address.{Address}
use Rattle.mmdb_c.specs.Working.{HasBegun}
use Rattle.mmdb_c.proofs.ManyLemmas.{at_index, one_more}
use Rattle.mmdb_c.proofs.db.Db.begin_all.Goals as goal

pub loop-i-preserved : goal.loop-i-preserved
loop-i-preserved c =
    let file = c.args.self.now.file.now in
    let facts = c.args.self.now.facts in
    let addresses = c.args.addresses.now in
    let leaves = c.loop-i.leaves in
    let i = c.loop-i.i in
    let next = c.begin.result in
    let long = c.loop-i.invariant.long in
    let few = c.requires in
    let inside : i < length addresses = c.loop-i-test.true in
    let within : i < length leaves = omega (arith, inside, few, long) in
    let P : ℕ → FoundLeaf → Type 0 = λ j x. (a : Address) → HasBegun file facts (get_or addresses j a) x in
    record {
      long = omega (arith, length-set leaves i next, long);
      done = one_more P leaves i next within c.loop-i.invariant.done (at_index (λ a. HasBegun file facts a next) addresses i _ inside c.begin.ensures);
    }

pub returns : goal.returns
returns c i a d h = c.loop-i.invariant.done i d (let all = c.loop-i-test.false in omega (arith, h, all)) a
