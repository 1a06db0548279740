use Rattle.std.proofs.Common.{◌<◌, length, arith}
use Rattle.std.proofs.lemmas.List.{length-set}
use Rattle.mmdb_tree.proofs.GroupLemmas.{words-set}
use Rattle.mmdb_tree.proofs.group.first_words.Goals as goal

pub loop-i-preserved : goal.loop-i-preserved
loop-i-preserved c =
    let words = c.loop-i.words in
    let i = c.loop-i.i in
    let long = c.loop-i.invariant.long in
    let few = c.requires.few in
    let inside : i < length c.args.addresses.now = c.loop-i-test.true in
    let within : i < length words = omega (arith, inside, few, long) in
    record {
      long = omega (arith, length-set words i c.first_word.result, long);
      done = words-set c.args.addresses.now words i _ c.first_word.result within c.loop-i.invariant.done c.first_word.ensures;
    }

pub returns : goal.returns
returns c = record {
  words = λ i bits b.
      let below : i < c.loop-i.i = let all = c.loop-i-test.false in omega (arith, b.0, all) in
      c.loop-i.invariant.done i bits below b;
}
