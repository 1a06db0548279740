use Rattle.std.proofs.Common.{inr, refl, subst, sym, ◌∙◌}
use Rattle.std.specs.declared.net.ip_addr.IpAddr.TheVariants.{V6}
use Rattle.mmdb_reader.specs.Found.{leaf_of}
use Rattle.mmdb_reader.specs.Lookup.{Answers, outcome_at}
use Rattle.mmdb_layout.proofs.asked.mapped_asked.Goals as goal

pub returns-in-Some : goal.returns-in-Some
returns-in-Some g c =
    let leaf = leaf_of c.in-Ok.found in
    let there = subst (λ o. Answers c.args.reader.now (V6 c.args.address) leaf (outcome_at o)) (sym c.offset.ensures ∙ c.in-Some.is) c.in-Ok.ensures.answered in
    inr (inr (c.requires, inr (inr (inr (leaf, c.in-Some.field-0, there))), refl))
