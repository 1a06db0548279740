use Rattle.std.proofs.Common.{sym}
use Rattle.std.proofs.lemmas.Result.{err_from_is_err_and}
use Rattle.mmdb_decode.proofs.LevelLaws.{parts_deep, parts_past, parts_in}
use Rattle.mmdb_decode.proofs.decoder.Decoder.descend.Goals as goal

pub returns-then-self-ge-MAX_LEVELS-clause-err : goal.returns-then-self-ge-MAX_LEVELS-clause-err
returns-then-self-ge-MAX_LEVELS-clause-err c = rw (← c.self.view_is) (parts_deep _ c.args.header c.args.count c.if-self-ge-MAX_LEVELS.true)

pub returns-in_err-self-inside-clause-err : goal.returns-in_err-self-inside-clause-err
returns-in_err-self-inside-clause-err c = let p = err_from_is_err_and c.from_residual.result c.from_residual.ensures.1 in rw (p.1, ← c.self.view_is) (parts_past _ c.args.header c.args.count c.if-self-ge-MAX_LEVELS.false (sym c.in_err-self-inside.ensures.value))

pub returns-clause-ok : goal.returns-clause-ok
returns-clause-ok c = rw (← c.self.view_is) (parts_in _ c.args.header c.args.count c.in_ok-self-inside.field-0 c.if-self-ge-MAX_LEVELS.false (sym c.in_ok-self-inside.ensures.value))
