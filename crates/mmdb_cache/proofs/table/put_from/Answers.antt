use Rattle.std.proofs.Common.{sym, subst}
use Rattle.mmdb_cache.specs.Table.{IsKnownOr}
use Rattle.mmdb_cache.proofs.Keeping.{known_set}
use Rattle.mmdb_cache.proofs.table.put_from.Goals as goal

pub returns-then-is : goal.returns-then-is
returns-then-is g c = known_set c.args.put c.loop-place.moved c.args.kept.now c.loop-place.kept c.loop-place.place c.loop-place.invariant.moved c.loop-place.invariant.kept

pub loop-place-preserved : goal.loop-place-preserved
loop-place-preserved g c = record {
  kept = known_set c.args.put c.loop-place.moved c.args.kept.now c.loop-place.kept c.loop-place.place c.loop-place.invariant.moved c.loop-place.invariant.kept;
  moved = subst (IsKnownOr c.args.put c.args.kept.now) (sym c.index-kept-place.is) (c.loop-place.invariant.kept c.loop-place.place c.index-kept-place.result c.if-place-kept.false);
}
