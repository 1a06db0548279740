use Rattle.std.proofs.Common.{rules, ◌≡◌, ◌<◌, length, slice_index_or, refl, subst, sym}
use Rattle.mmdb_cmd_enrich.specs.Kept.{IsKept, IsKeptAt, AreKept}
use Rattle.mmdb_cmd_enrich.proofs.KeptLaws.{one_kept, place_set}
use Rattle.mmdb_cmd_enrich.proofs.cache.AddedCache.put.Goals as goal

pub returns : goal.returns
returns c = λ wanted kept add.
    let buckets = c.self.inside.buckets.items in
    let at = c.bucket_of-at.result in
    let old = c.index_mut.result.now in
    let new = c.put.new.self in
    let within : at < length buckets = search rules in
    let there : slice_index_or buckets at old ≡ old = search rules in
    let same : c.args.self.now ≡ buckets = search rules in
    place_set (IsKeptAt wanted) buckets at old new within there
    (λ o. (
      subst (IsKept wanted) (sym c.put.ensures.newer) (one_kept wanted c.args.by (record { by = c.args.by; outcome = c.args.outcome; cells = c.in-Ok.cells }) c.args.cells.now c.args.outcome refl c.in-Ok.ensures refl add),
      subst (IsKept wanted) (sym c.put.ensures.older) o.0,
    ))
    (subst (AreKept wanted) same kept)
