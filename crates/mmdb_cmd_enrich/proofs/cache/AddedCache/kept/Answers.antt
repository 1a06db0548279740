use Rattle.std.proofs.Common.{rules, ◌≡◌, ◌<◌, length, slice_index_or, sym, subst}
use Rattle.mmdb_cmd_enrich.specs.Kept.{IsKeptAt}
use Rattle.mmdb_cmd_enrich.specs.Wanted.{AddsOf}
use Rattle.mmdb_cmd_enrich.proofs.KeptLaws.{either_kept}
use Rattle.mmdb_cmd_enrich.proofs.cache.AddedCache.kept.Goals as goal

pub returns : goal.returns
returns c = λ wanted kept.
    let buckets = c.args.self.now in
    let bucket = c.index.result.now in
    let slot = c.slot_of-slot.result.now in
    let at = c.bucket_of.result in
    let within : at < length buckets = search rules in
    let there : slice_index_or buckets at bucket ≡ bucket = search rules in
    let here : slot.by ≡ c.args.by = search rules in
    subst (λ by. AddsOf wanted by c.as_slice.result.now slot.outcome) here
    (subst (λ text. AddsOf wanted slot.by text slot.outcome) (sym c.as_slice.ensures) (either_kept wanted bucket slot c.slot_of-slot.ensures (subst (IsKeptAt wanted) there (kept at bucket within))))
