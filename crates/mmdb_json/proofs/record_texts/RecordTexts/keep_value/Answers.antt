use Rattle.std.proofs.Common.{sym, ap, ◌∙◌, drop, subst}
use Rattle.mmdb_json.specs.Appended.{AppendsText}
use Rattle.mmdb_json.proofs.Keeping.{keeps_text, text_to_keep}
use Rattle.mmdb_json.proofs.record_texts.RecordTexts.keep_value.Goals as goal

pub invariant_of-self-2 : goal.invariant_of-self-2
invariant_of-self-2 c =
    let s = c.self.inside.section.now in
    let (old, end, long, many, a) = c.requires in
    let here = subst (λ l. AppendsText l c.args.offset end c.args.levels c.args.before c.args.budget.now old c.args.out.now) (sym c.self.view_is) a in
    keeps_text s c.self.inside.values c.self.inside.names c.put.new.self _ c.self.invariant c.put.ensures
    (text_to_keep s c.args.offset end c.args.levels c.args.before c.args.budget.now old c.args.out.now _ here (c.in-Some-copy_of.ensures ∙ c.in-Some.ensures.0 ∙ ap (λ n. drop n c.args.out.now.text) long) (c.in-Some.ensures.1 ∙ many) c.saturating_sub.ensures c.saturating_sub-2.ensures c.saturating_sub-3.ensures)
