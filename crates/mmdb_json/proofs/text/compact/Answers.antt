use Rattle.std.proofs.Common.{rules, ◌≡◌, [], ◌++◌, sym, ap, ◌∙◌, subst}
use Rattle.std.specs.Str.{IsUtf8}
use Rattle.json.specs.Lex.{tokens}
use Rattle.json.specs.Print.{print}
use Rattle.json.specs.Tree.{json_tokens}
use Rattle.mmdb_json.proofs.ReadingBack.{reads_back}
use Rattle.mmdb_json.proofs.text.compact.Goals as goal

pub returns : goal.returns
returns c =
    let (j, shown, wrote) = c.in_ok-write_value.ensures.shown in
    let given : c.write_value.new.out.tokens ≡ json_tokens j = wrote ∙ ap (λ ts. ts ++ json_tokens j) c.new-writer.ensures.tokens in
    let front : c.write_value.new.out.before ≡ [] = search rules in
    let text : c.into_inner.result.items ≡ print c.write_value.new.out.tokens = c.into_inner.ensures.items ∙ ap (λ xs. xs ++ print c.write_value.new.out.tokens) front in
    let read : tokens c.into_inner.result.items ≡ json_tokens j = ap tokens text ∙ c.into_inner.ensures.reads_back ∙ given in
    record {
      shown = j;
      shows = shown;
      text_is = text ∙ ap print given;
      tokens_are = read;
      reads_back = reads_back j c.into_inner.result.items read;
      utf8 = subst IsUtf8 (sym text) c.into_inner.ensures.utf8;
    }
