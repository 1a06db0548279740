use Rattle.std.proofs.Common.{sym, ap, ◌∙◌, drop, refl, subst}
use Rattle.mmdb_json.specs.Appended.{AppendsOwnName}
use Rattle.mmdb_json.proofs.Keeping.{keeps_name, name_to_keep}
use Rattle.mmdb_json.proofs.record_texts.RecordTexts.keep_name.Goals as goal

pub invariant_of-self-2 : goal.invariant_of-self-2
invariant_of-self-2 c =
    let s = c.self.inside.section.now in
    let (old, end, long, many, a) = c.requires in
    let here = subst (λ l. AppendsOwnName l c.args.offset end c.args.before c.args.budget.now old c.args.out.now) (sym c.self.view_is) a in
    keeps_name s c.self.inside.values c.self.inside.names c.put.new.self _ c.self.invariant c.put.ensures
    (name_to_keep s c.args.offset end c.args.before c.args.budget.now old c.args.out.now _ here (c.in-Some-copy_of.ensures ∙ c.in-Some.ensures.0 ∙ ap (λ n. drop n c.args.out.now.text) long) (c.in-Some.ensures.1 ∙ many) refl refl c.saturating_sub.ensures)
