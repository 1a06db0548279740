use Rattle.std.proofs.Common.{sym}
use Rattle.std.proofs.lemmas.Result.{err_from_is_err_and}
use Rattle.mmdb_decode.proofs.StepLaws.{nothing_taken}
use Rattle.mmdb_decode.proofs.LevelLaws.{pointer_deep, pointer_bad, pointer_good}
use Rattle.mmdb_decode.proofs.decoder.Decoder.follow.Goals as goal

pub returns-then-self-ge-MAX_LEVELS : goal.returns-then-self-ge-MAX_LEVELS
returns-then-self-ge-MAX_LEVELS c = rw (← c.self.view_is) (nothing_taken _ _ (pointer_deep _ c.args.header c.if-self-ge-MAX_LEVELS.true))

pub returns-in_err-pointer : goal.returns-in_err-pointer
returns-in_err-pointer c = let p = err_from_is_err_and c.from_residual.result c.from_residual.ensures.1 in rw (p.1, ← c.self.view_is) (nothing_taken _ _ (pointer_bad _ c.args.header c.if-self-ge-MAX_LEVELS.false (sym c.in_err-pointer.ensures)))

pub returns : goal.returns
returns c = rw (← c.self.view_is) (pointer_good _ c.args.header c.in_ok-pointer.pointer c.if-self-ge-MAX_LEVELS.false (sym c.in_ok-pointer.ensures))
