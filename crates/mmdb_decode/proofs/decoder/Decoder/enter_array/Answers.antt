use Rattle.std.proofs.Common.{sym}
use Rattle.std.proofs.lemmas.Result.{err_from_is_err_and}
use Rattle.mmdb_decode.proofs.StepLaws.{nothing_taken, entered_none, entered_past, entered_at}
use Rattle.mmdb_decode.proofs.decoder.Decoder.enter_array.Goals as goal

pub returns-in_err-at : goal.returns-in_err-at
returns-in_err-at c = let p = err_from_is_err_and c.from_residual.result c.from_residual.ensures.1 in rw (p.1, ← c.self.view_is) (nothing_taken _ _ (entered_none _ (sym c.in_err-at.ensures.value)))

pub returns-in_err-budget : goal.returns-in_err-budget
returns-in_err-budget c = let p = err_from_is_err_and c.from_residual-in_err-budget.result c.from_residual-in_err-budget.ensures.1 in rw (p.1, ← c.self.view_is) (nothing_taken _ _ (entered_past _ c.in_ok-at.at (sym c.in_ok-at.ensures.value) (rw c.begun.ensures.value at (sym c.in_err-budget.ensures.value))))

pub returns : goal.returns
returns c = rw (← c.self.view_is) (entered_at _ c.in_ok-at.at c.in_ok-budget.budget (sym c.in_ok-at.ensures.value) (rw c.begun.ensures.value at (sym c.in_ok-budget.ensures.value)))
