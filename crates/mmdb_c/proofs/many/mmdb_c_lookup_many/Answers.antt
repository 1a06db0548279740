use Rattle.std.proofs.Common.{ℕ, ◌<◌, length, get_or, arith}
use Rattle.std.proofs.lemmas.List.{length-set}
use Rattle.mmdb_c.specs.declared.db.Found.{Found}
use Rattle.mmdb_c.specs.declared.many.Address.{Address}
use Rattle.mmdb_c.specs.Many.{ReportsGiven}
use Rattle.mmdb_c.proofs.ManyLemmas.{at_index, one_more}
use Rattle.mmdb_c.proofs.many.mmdb_c_lookup_many.Goals as goal

pub found_for-requires : goal.found_for-requires
found_for-requires c = c.walk_all.ensures c.loop-i.i _ _ c.loop-i-test.true

pub loop-i-preserved : goal.loop-i-preserved
loop-i-preserved c =
    let file = c.args.db.now.file.now in
    let addresses = c.args.addresses.now in
    let found = c.loop-i.found in
    let i = c.loop-i.i in
    let next = c.found_for.result in
    let long = c.loop-i.invariant.long in
    let room = c.requires.room in
    let inside : i < length addresses = c.loop-i-test.true in
    let within : i < length found = omega (arith, inside, room, long) in
    let P : ℕ → Found → Type 0 = λ j x. (a : Address) → ReportsGiven file (get_or addresses j a) x in
    record {
      long = omega (arith, length-set found i next, long);
      done = one_more P found i next within c.loop-i.invariant.done (at_index (λ a. ReportsGiven file a next) addresses i _ inside c.found_for.ensures);
    }

pub returns-clause-reported : goal.returns-clause-reported
returns-clause-reported c i a d h = c.loop-i.invariant.done i d (let all = c.loop-i-test.false in omega (arith, h, all)) a
