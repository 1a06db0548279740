use Rattle.std.proofs.Common.{sym, rules}
use Rattle.std.proofs.lemmas.Result.{err_from_is_err_and}
use mir.Val.{SFits}
use mir.Syntax.{w128}
use Rattle.std.proofs.lemmas.Int.{to_z-of_z}
use Rattle.mmdb_decode.proofs.StepLaws.{nothing_taken}
use Rattle.mmdb_decode.proofs.SmallLaws.{whole_none, whole_some}
use Rattle.mmdb_decode.proofs.decoder.Decoder.take_whole.Goals as goal

pub returns-in_err-number : goal.returns-in_err-number
returns-in_err-number c = let p = err_from_is_err_and c.from_residual.result c.from_residual.ensures.1 in rw (p.1, ← c.self.view_is) (nothing_taken _ _ (whole_none _ (sym c.in_err-number.ensures)))

pub returns : goal.returns
returns c =
    let fits : SFits w128 c.in_ok-number.number = search rules in
    rw (to_z-of_z w128 c.in_ok-number.number fits, ← c.self.view_is) (whole_some _ c.in_ok-number.number c.in_ok-number.next c.begun-self-inside.result c.begun-self-inside.ensures.value c.begun-self-inside.ensures.within (sym c.in_ok-number.ensures))
