use Rattle.std.proofs.Common.{rules, ◌≡◌, ◌++◌, ◌∷◌, [], sym, ap, ◌∙◌, append_assoc}
use Rattle.json.specs.Print.{escape_byte}
use Rattle.mmdb_json.proofs.strings.put_byte.Goals as goal

pub returns-then-letter-gt0-clause-put : goal.returns-then-letter-gt0-clause-put
unfolding escape_byte
returns-then-letter-gt0-clause-put c =
    let slash : c.push.new.self.items ≡ c.args.out.now.items ++ 92 ∷ [] = search rules in
    let letter : c.push-then-letter-gt0.new.self.items ≡ c.push.new.self.items ++ c.letter_of-letter.result ∷ [] = search rules in
    let is : escape_byte c.args.byte ≡ 92 ∷ c.letter_of-letter.result ∷ [] = search rules in
    letter
    ∙ ap (λ l. l ++ c.letter_of-letter.result ∷ []) slash
    ∙ append_assoc c.args.out.now.items (92 ∷ []) (c.letter_of-letter.result ∷ [])
    ∙ ap (λ l. c.args.out.now.items ++ l) (sym is)

pub returns-then-byte-lt32-clause-put : goal.returns-then-byte-lt32-clause-put
unfolding escape_byte
returns-then-byte-lt32-clause-put c = search rules

pub returns-clause-put : goal.returns-clause-put
unfolding escape_byte
returns-clause-put c = search rules
