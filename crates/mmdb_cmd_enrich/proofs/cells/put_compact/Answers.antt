use Rattle.std.proofs.Common.{rules, ◌≡◌, [], ◌++◌, option_and_then, append-nil, sym, ap, ◌∙◌}
use Rattle.std.proofs.lemmas.Result.{on_ok_weaker}
use Rattle.json.specs.Json.{value, if_last, max_depth}
use Rattle.json.specs.Lex.{tokens}
use Rattle.json.specs.Print.{print}
use Rattle.json.specs.Tree.{json_tokens}
use Rattle.json.proofs.Printed.Trees.{value-json_tokens}
use Rattle.mmdb_cmd_enrich.proofs.cells.put_compact.Goals as goal

pub returns : goal.returns
returns c =
    let written = c.write_value-done.new.out.tokens in
    let front : c.write_value-done.new.out.before ≡ c.args.out.now.items = search rules in
    let put : c.into_inner.result.items ≡ c.args.out.now.items ++ print written = c.into_inner.ensures.items ∙ ap (λ xs. xs ++ print written) front in
    on_ok_weaker c.write_value-done.result (λ (shown, shows, wrote).
    let given : written ≡ json_tokens shown = wrote ∙ ap (λ ts. ts ++ json_tokens shown) c.new-writer.ensures.tokens in
    let read : tokens (print written) ≡ json_tokens shown = c.into_inner.ensures.reads_back ∙ given in (
      print written,
      record {
        shown = shown;
        shows = shows;
        text_is = ap print given;
        tokens_are = read;
        reads_back = λ shallow. ap (option_and_then (λ p. if_last p.0 p.1)) (ap (value max_depth) (read ∙ sym (append-nil (json_tokens shown))) ∙ value-json_tokens shown max_depth [] shallow);
        utf8 = c.into_inner.ensures.utf8;
      },
      put,
    ))
    c.write_value-done.ensures.shown
