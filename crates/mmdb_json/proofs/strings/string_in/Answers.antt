use Rattle.std.proofs.Common.{rules, ◌≡◌, ◌++◌, ◌∷◌, [], ap, ◌∙◌}
use Rattle.json.specs.Token.{string}
use Rattle.json.specs.Print.{print}
use Rattle.mmdb_json.proofs.Printing.{string_text}
use Rattle.mmdb_json.proofs.strings.string_in.Goals as goal

pub returns : goal.returns
returns c =
    let written : c.string.new.self.tokens ≡ c.new-writer.result.tokens ++ string c.args.text.now ∷ [] = search rules in
    c.into_inner.ensures.items
    ∙ ap (λ b. b ++ print c.string.new.self.tokens) (c.string.ensures.room.0 ∙ c.new-writer.ensures.before ∙ c.clear.ensures.items)
    ∙ ap print (written ∙ ap (λ ts. ts ++ string c.args.text.now ∷ []) c.new-writer.ensures.tokens)
    ∙ string_text c.args.text.now
