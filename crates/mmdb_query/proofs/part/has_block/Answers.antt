use Rattle.std.proofs.Common.{sym, arith}
use Rattle.std.proofs.lemmas.Bool.{leb-true, le-leb}
use Rattle.mmdb_query.proofs.PartLaws.{lacks_bits, tested_bits}
use Rattle.mmdb_query.proofs.part.has_block.Goals.{then-whole-part-via-then-whole-part, then-whole-part-via-else-whole-part+then-whole-part-2}
use Rattle.mmdb_query.proofs.part.has_block.Goals as goal

pub returns-then-whole-part : goal.returns-then-whole-part
returns-then-whole-part c = sym (lacks_bits c.args.whole c.args.part c.requires.whole c.requires.part (λ there.
    let short = there.0 in
    let low = there.1.0 in
    elim c.then-whole-part.branch [
      | then-whole-part-via-then-whole-part w ↦ omega (arith, short, w.if-whole-part.true)
      | then-whole-part-via-else-whole-part+then-whole-part-2 w ↦ omega (arith, low, w.if-whole-part-2.true)
    ]))

pub returns : goal.returns
returns c =
    let over = c.last.ensures in
    tested_bits c.args.whole c.args.part _ c.requires.whole c.requires.part (omega (arith, c.if-whole-part.false)) (omega (arith, c.if-whole-part-2.false))
    (λ yes. let below = leb-true c.args.part.first c.last.result yes in omega (arith, below, over))
    (λ below. le-leb c.args.part.first c.last.result (omega (arith, below, over)))
