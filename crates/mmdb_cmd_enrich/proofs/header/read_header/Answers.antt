use Rattle.std.proofs.Common.{rules, ◌≡◌, ◌≢◌, ◌<◌, ◌++◌, Some, IfSome, length, sym, ap, ◌∙◌, subst, arith}
use Rattle.mmdb_filter.specs.Rows.{row_from, rows_after}
use Rattle.mmdb_filter.specs.declared.rows.RowPosition.TheVariants.{Cell, Ended}
use Rattle.mmdb_cmd_enrich.proofs.HeaderLaws.{first_read}
use Rattle.mmdb_cmd_enrich.proofs.header.read_header.Goals.{else-ne-via-then-ne+else-len-gt-MOST_SEEN, else-ne-via-else-ne}
use Rattle.mmdb_cmd_enrich.proofs.header.read_header.Goals as goal

pub returns : goal.returns
returns g c =
    let rows = c.args.rows in
    let place = c.in_ok-place.place in
    let row = c.read_chunk.new.chunk.items in
    let old = g.I.Read.remaining c.args.input.now in
    let new = g.I.Read.remaining c.read_chunk.new.input in
    let (bytes, put, leads) = c.in_ok-place.ensures.leads in
    let same : row ≡ bytes = put ∙ ap (λ t. t ++ bytes) c.new-row.ensures.items in
    let few : place ≢ Ended → length row < 65539 =
    λ free. elim c.else-ne.branch [
      | else-ne-via-then-ne+else-len-gt-MOST_SEEN w ↦ omega arith
      | else-ne-via-else-ne w ↦ absurd (free (search rules))
    ] in
    subst (λ r. IfSome old (λ xs. (r ≡ row_from rows Cell xs) × (new ≡ Some (rows_after rows Cell xs)))) (sym same) (first_read rows place bytes old new leads (λ free. c.in_ok-place.ensures.end free (few free)))
