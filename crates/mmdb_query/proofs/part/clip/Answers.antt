use Rattle.std.proofs.Common.{None, refl, sym, subst}
use Rattle.mmdb_query.specs.Parts.{clipped, IsHanded}
use Rattle.mmdb_query.proofs.PartLaws.{deeper_shown}
use Rattle.mmdb_query.proofs.part.clip.Goals as goal

pub returns-in_err-range : goal.returns-in_err-range
returns-in_err-range g c =
    let had = g.A.Answer.had c.args.whole.now in
    subst (λ part. IsHanded (clipped c.args.range had) had part) (sym c.from_residual.ensures) (subst (λ r. IsHanded (clipped r had) had None) (sym c.in_err-range.was) refl)

pub returns-then-block-depth_of : goal.returns-then-block-depth_of
returns-then-block-depth_of g c =
    let had = g.A.Answer.had c.args.whole.now in
    subst (λ r. IsHanded (clipped r had) had None) (sym c.in_ok-range.was) (deeper_shown had c.in_ok-range.range c.args.block c.depth_of.result c.requires c.depth_of.ensures c.if-block-depth_of.true)

pub returns : goal.returns
returns g c =
    let had = g.A.Answer.had c.args.whole.now in
    subst (λ r. IsHanded (clipped r had) had c.clip_to.result) (sym c.in_ok-range.was) (c.clip_to.ensures had c.network.ensures)
