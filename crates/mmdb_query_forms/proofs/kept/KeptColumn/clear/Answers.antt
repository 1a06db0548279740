use Rattle.std.proofs.Common.{List, length, arith, ap, ◌∙◌}
use Rattle.std.proofs.lemmas.List.{length-set}
use Rattle.mmdb_query_forms.specs.Kept.{Kept}
use Rattle.mmdb_query_forms.proofs.KeptLaws.{cache_cleared}
use Rattle.mmdb_query_forms.proofs.kept.KeptColumn.clear.Goals as goal

pub loop-place-preserved : goal.loop-place-preserved
loop-place-preserved c =
    let caches = c.loop-place.self-inside.caches.items in
    let i = c.loop-place.place in
    let many = c.loop-place.invariant.many in
    let view = ap (λ (l : List Kept). length l) c.self.view_is in
    record {
      many = length-set caches i c.clear.new.self ∙ many;
      kept = λ form path sections fits. cache_cleared form path sections caches i c.clear.new.self (c.loop-place.invariant.kept form path sections fits) (omega (arith, many, view)) c.clear.ensures;
    }
