use Rattle.std.proofs.Common.{◌++◌, ◌∷◌, [], ap, ◌∙◌}
use Rattle.json.specs.Token.{string}
use Rattle.json.specs.Print.{print}
use Rattle.mmdb_json.proofs.ShownLaws.{on_ok}
use Rattle.mmdb_json.proofs.Printing.{string_text}
use Rattle.mmdb_json.proofs.strings.put_long.Goals as goal

pub returns-clause-put : goal.returns-clause-put
returns-clause-put c = on_ok c.string-written.result (λ e.
    c.into_inner.ensures.items
    ∙ ap (λ b. b ++ print c.string-written.new.self.tokens) (c.string-written.ensures.room.0 ∙ c.new-writer.ensures.before ∙ ap (λ v. v.items) c.replace.ensures.value)
    ∙ ap (λ ts. c.args.out.now.items ++ print ts) (e ∙ ap (λ ts. ts ++ string c.args.text.now ∷ []) c.new-writer.ensures.tokens)
    ∙ ap (λ l. c.args.out.now.items ++ l) (string_text c.args.text.now)) c.string-written.ensures.ok

pub returns-clause-behind : goal.returns-clause-behind
returns-clause-behind c = (
  print c.string-written.new.self.tokens,
  c.into_inner.ensures.items
      ∙ ap (λ b. b ++ print c.string-written.new.self.tokens) (c.string-written.ensures.room.0 ∙ c.new-writer.ensures.before ∙ ap (λ v. v.items) c.replace.ensures.value),
)
