use Rattle.std.proofs.Common.{◌++◌, ◌+◌, length, take, drop, le_refl, sym, subst, arith}
use Rattle.mmdb_filter.specs.Rows.{Goes}
use Rattle.mmdb_filter.specs.declared.rows.RowPosition.TheVariants as spec_position
use Rattle.mmdb_filter.proofs.RowLaws.{not_ended, goes_plain, goes_through}
use Rattle.mmdb_filter.proofs.rows.scan.Goals as goal

pub returns-in-Some-clause-goes : goal.returns-in-Some-clause-goes
returns-in-Some-clause-goes c =
    let found = c.in-Some.ensures in
    λ ys. subst (λ r. Goes r c.args.position (c.args.bytes.now ++ ys) (take (c.in-Some.at + 1) c.args.bytes.now) spec_position.Ended (drop (c.in-Some.at + 1) c.args.bytes.now ++ ys)) (sym c.in-Lines.is)
    (goes_through _ c.args.position c.in-Some.at c.args.bytes.now ys (not_ended c.args.position c.requires) found.0.high (λ k l. found.0.before k (omega arith) l) found.1)

pub returns-in-None-clause-goes : goal.returns-in-None-clause-goes
returns-in-None-clause-goes c =
    λ ys. subst (λ r. Goes r c.args.position (c.args.bytes.now ++ ys) (take (length c.args.bytes.now) c.args.bytes.now) c.args.position (drop (length c.args.bytes.now) c.args.bytes.now ++ ys)) (sym c.in-Lines.is)
    (goes_plain _ c.args.position (length c.args.bytes.now) c.args.bytes.now ys (not_ended c.args.position c.requires) (le_refl _) (λ k l. c.in-None.ensures k (omega arith) l))
