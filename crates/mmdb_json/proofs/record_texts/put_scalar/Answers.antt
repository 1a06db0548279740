use Rattle.std.proofs.Common.{rules, ◌≡◌, sym, subst}
use Rattle.std.specs.Prelude.{Some}
use Rattle.mmdb_format.specs.Contents.{content_at}
use Rattle.mmdb_format.specs.Views.{content_view}
use Rattle.mmdb_json.specs.Appended.{AppendsText}
use Rattle.mmdb_json.proofs.Containers.{scalar_stands}
use Rattle.mmdb_json.proofs.record_texts.put_scalar.Goals as goal

pub returns-then-put_content : goal.returns-then-put_content
returns-then-put_content c =
    let is : content_at c.args.section.now c.args.header ≡ Some (content_view c.in_ok-content.content) = search rules in
    subst (λ end. AppendsText c.args.section.now c.args.offset end c.args.levels c.args.budget.now c.put_content.new.budget c.args.out.now c.put_content.new.out) (sym c.content_end.ensures)
    (scalar_stands c.args.section.now c.args.offset c.args.levels c.args.header (content_view c.in_ok-content.content) c.args.budget.now c.put_content.new.budget c.args.out.now c.put_content.new.out c.requires.header is c.requires.levels (c.put_content.ensures.written c.if-put_content.true) (c.put_content.ensures.charged c.if-put_content.true))
