use Rattle.std.proofs.Common.{◌≡◌, length, subst, arith}
use Rattle.mmdb_cmd_enrich.specs.Columns.{HasBreaks}
use Rattle.mmdb_cmd_enrich.proofs.BreakLaws.{one_break, breaks_done}
use Rattle.mmdb_cmd_enrich.proofs.ColumnLaws.{cut_twice}
use Rattle.mmdb_cmd_enrich.proofs.columns.breaks_in.Goals as goal

pub returns-then-len-rest : goal.returns-then-len-rest
returns-then-len-rest c =
    breaks_done c.args.rows c.args.row.now c.loop-passed.rest.now c.loop-passed.passed c.loop-passed.invariant (omega (arith, c.cell_length-len.ensures.length))

pub loop-passed-preserved : goal.loop-passed-preserved
loop-passed-preserved c =
    let rest = c.loop-passed.rest.now in
    one_break c.args.rows c.args.row.now rest _ c.loop-passed.passed c.cell_length-len.result c.loop-passed.invariant c.cell_length-len.ensures.length (omega arith) (cut_twice rest c.cell_length-len.result)

pub returns : goal.returns
returns c =
    let all : c.loop-passed.passed ≡ length c.args.row.now = omega arith in
    subst (HasBreaks c.args.rows c.args.row.now) all
    (breaks_done c.args.rows c.args.row.now c.loop-passed.rest.now c.loop-passed.passed c.loop-passed.invariant (omega (arith, c.loop-passed.invariant.short)))
