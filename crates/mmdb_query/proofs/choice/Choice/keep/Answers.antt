use Rattle.std.proofs.Common.{IfSome, subst}
use Rattle.mmdb_query.specs.Keys.{IsKey}
use Rattle.mmdb_query.proofs.KeptLaws.{more_said}
use Rattle.mmdb_query.proofs.choice.Choice.keep.Goals as goal

pub returns-in-Some-clause-fits : goal.returns-in-Some-clause-fits
returns-in-Some-clause-fits g c =
    let s = g.A.Answer.sections c.args.answer.now in
    let offsets = (g.A.Answer.had c.args.answer.now).offsets in
    record {
      said = more_said (g.C.Conditions.says c.args.self.now.conditions.now) s offsets c.args.self.now.kept c.put.new.self c.in-Some.key c.args.is_chosen
          (subst (λ k. IfSome k (IsKey s offsets)) c.in-Some.ensures.0 c.key.ensures) c.requires.says c.put.ensures c.requires.fits.said;
      any = c.requires.fits.any;
    }
