use Rattle.std.proofs.Common.{◌≡◌, ◌+◌, ◌∷◌, drop, map, is_some, sym, ap, ◌∙◌, subst, arith}
use Rattle.std.proofs.lemmas.List.{drop_more, drop_all}
use Rattle.mmdb_cmd_enrich.specs.Cells.{IsCell}
use Rattle.mmdb_cmd_enrich.proofs.CellLaws.{CellsWay, one_cell, cells_done}
use Rattle.mmdb_cmd_enrich.proofs.cells.put_cells.Goals as goal

pub loop-at-preserved : goal.loop-at-preserved
loop-at-preserved g c =
    let paths = c.args.paths.now in
    let i = c.loop-at.at in
    let field = c.index-paths-at.result in
    let reads = g.A.ReadAlong.reads c.args.found.now in
    let all = map (λ path. path.items) paths in
    let left = map (λ path. path.items) (drop (i + 1) paths) in
    let here : drop i paths ≡ field ∷ drop (i + 1) paths = drop_more paths i field (omega arith) ∙ ap (λ y. y ∷ drop (i + 1) paths) (sym c.index-paths-at.is) in
    let path = c.as_slice.ensures.value in
    let (cell, is, put, one) = c.in_ok-is_read.ensures in
    let way = subst (λ l. CellsWay c.args.rows reads all (map (λ path. path.items) l) c.args.out.now.items c.loop-at.out.items c.loop-at.are_read) here c.loop-at.invariant in
    one_cell c.args.rows reads all left field.items c.args.out.now.items c.loop-at.out.items c.put_cell.new.out.items cell c.loop-at.are_read c.in_ok-is_read.is_read way (subst (λ p. IsCell c.args.rows (reads p) cell) path is) put (one ∙ ap (λ p. is_some (reads p)) path)

pub returns : goal.returns
returns g c =
    let paths = c.args.paths.now in
    let reads = g.A.ReadAlong.reads c.args.found.now in
    let all = map (λ path. path.items) paths in
    let none = drop_all c.loop-at.at paths (omega arith) in
    cells_done c.args.rows reads all c.args.out.now.items c.loop-at.out.items c.loop-at.are_read (subst (λ l. CellsWay c.args.rows reads all (map (λ path. path.items) l) c.args.out.now.items c.loop-at.out.items c.loop-at.are_read) none c.loop-at.invariant)
