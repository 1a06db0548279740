use Rattle.std.proofs.Common.{◌≡◌, ◌≤◌, length, take, ap, ◌∙◌, subst, arith, length-take, length-append}
use Rattle.std.specs.Io.BufRead.{FillKeeps}
use Rattle.std.proofs.BufReadLemmas.{Consumes_shown, zero_unless_positive}
use Rattle.mmdb_filter.proofs.RowLaws.{leads_shown}
use Rattle.mmdb_filter.proofs.chunk.read_some.Goals as goal

pub returns-clause-leads : goal.returns-clause-leads
returns-clause-leads g c =
    let shown = c.in-Ok.shown.now in
    let room = c.min-room.result in
    let n = c.scan-len.result.0 in
    let within : n ≤ length (take room shown) = c.scan-len.ensures.within in
    let low : n ≤ room = omega (arith, length-take room shown) in
    let few : n ≤ length shown = omega (arith, length-take room shown) in
    let rested = c.fill_buf.follows.lender-at-none in
    let filled = subst (FillKeeps _ (g.R.Read.remaining rested) (g.R.BufRead.consumable_len rested)) c.in-Ok.is c.fill_buf.follows.holds-at-none in
    let moved = Consumes_shown (g.R.Read.remaining c.args.input.now) (g.R.Read.remaining rested) (g.R.Read.remaining c.consume.new.self) (g.R.BufRead.consumable_len rested) shown n few c.in-Ok.ensures.front c.in-Ok.ensures.end filled.0 filled.1 c.consume.ensures.bytes in
    (take n shown, c.in_ok-extend_from_slice.ensures.items, leads_shown c.args.rows c.args.position c.scan-len.result.1 (g.R.Read.remaining c.args.input.now) (g.R.Read.remaining c.consume.new.self) shown room n low c.in-Ok.ensures.front moved.0 c.scan-len.ensures.goes)

pub returns-clause-end : goal.returns-clause-end
returns-clause-end g c = λ free same.
    let shown = c.in-Ok.shown.now in
    let room = c.min-room.result in
    let n = c.scan-len.result.0 in
    let within : n ≤ length (take room shown) = c.scan-len.ensures.within in
    let few : n ≤ length shown = omega (arith, length-take room shown) in
    let rested = c.fill_buf.follows.lender-at-none in
    let filled = subst (FillKeeps _ (g.R.Read.remaining rested) (g.R.BufRead.consumable_len rested)) c.in-Ok.is c.fill_buf.follows.holds-at-none in
    let moved = Consumes_shown (g.R.Read.remaining c.args.input.now) (g.R.Read.remaining rested) (g.R.Read.remaining c.consume.new.self) (g.R.BufRead.consumable_len rested) shown n few c.in-Ok.ensures.front c.in-Ok.ensures.end filled.0 filled.1 c.consume.ensures.bytes in
    let put = ap length c.in_ok-extend_from_slice.ensures.items ∙ length-append c.args.chunk.now.items (take n shown) in
    let none : n ≡ 0 = omega (arith, put, length-take n shown) in
    let nothing : length (take room shown) ≡ 0 = zero_unless_positive (length (take room shown)) n c.scan-len.ensures.some none in
    let empty : length shown ≡ 0 = omega (arith, nothing, length-take room shown) in
    moved.1 empty
