use Rattle.std.proofs.Common.{◌≡◌, ◌++◌, ap, ◌∙◌}
use Rattle.json.specs.Layout.{pretty}
use Rattle.json.specs.Tree.{json_tokens}
use Rattle.mmdb_json.proofs.ReadingBack.{reads_back}
use Rattle.mmdb_json.proofs.text.pretty.Goals as goal

pub returns : goal.returns
returns c =
    let (j, shown, wrote) = c.in_ok-write_value.ensures.shown in
    let given : c.write_value.new.out ≡ json_tokens j = wrote ∙ ap (λ ts. ts ++ json_tokens j) c.new-writer.ensures in
    record {
      shown = j;
      shows = shown;
      text_is = c.into_inner.ensures.layout ∙ ap pretty given;
      tokens_are = c.into_inner.ensures.value ∙ given;
      reads_back = reads_back j c.into_inner.result.items (c.into_inner.ensures.value ∙ given);
      utf8 = c.into_inner.ensures.utf8;
    }
