use Rattle.std.proofs.Common.{rules, ◌≡◌, drop}
use Rattle.json.specs.Word.{head}
use Rattle.mmdb_objects.proofs.ScanLaws.{option_word, has_true, has_false, has_null}
use Rattle.mmdb_objects.proofs.lexemes.word_end.Goals as goal

pub returns-then-byte-eq116-clause-word : goal.returns-then-byte-eq116-clause-word
returns-then-byte-eq116-clause-word c =
    let first : head (drop c.args.from c.args.text.now) ≡ 116 = search rules in
    option_word _ _ _ _ (λ end. has_true c.args.text.now c.args.from end first) c.literal_word_end.ensures.word

pub returns-then-byte-eq102-clause-word : goal.returns-then-byte-eq102-clause-word
returns-then-byte-eq102-clause-word c =
    let first : head (drop c.args.from c.args.text.now) ≡ 102 = search rules in
    option_word _ _ _ _ (λ end. has_false c.args.text.now c.args.from end first) c.literal_word_end-then-byte-eq102.ensures.word

pub returns-then-byte-eq110-clause-word : goal.returns-then-byte-eq110-clause-word
returns-then-byte-eq110-clause-word c =
    let first : head (drop c.args.from c.args.text.now) ≡ 110 = search rules in
    option_word _ _ _ _ (λ end. has_null c.args.text.now c.args.from end first) c.literal_word_end-then-byte-eq110.ensures.word
