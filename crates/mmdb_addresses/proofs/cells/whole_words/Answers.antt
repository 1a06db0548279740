use Rattle.std.proofs.Common.{rules, ◌≡◌, ◌-◌, [], length, take, sym, ◌∙◌, arith}
use Rattle.mmdb_addresses.proofs.WordsLaws.{words_are}
use Rattle.mmdb_addresses.proofs.cells.whole_words.Goals as goal

pub returns-then-ends_word : goal.returns-then-ends_word
returns-then-ends_word c =
    words_are c.args.text.now (length c.args.text.now - c.loop-cut.cut) (omega arith) c.loop-cut.invariant (λ some. sym c.ends_word.ensures ∙ c.if-ends_word.true)

pub returns : goal.returns
returns c = words_are c.args.text.now 0 (omega arith) (λ k from l. c.loop-cut.invariant k (omega arith) l) (λ some. absurd (omega arith))
