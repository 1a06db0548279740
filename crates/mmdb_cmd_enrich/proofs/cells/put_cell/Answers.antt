use Rattle.std.proofs.Common.{rules, ◌≡◌, [], ◌∷◌, ◌++◌}
use Rattle.std.proofs.lemmas.Result.{IfOk-weaker}
use Rattle.mmdb_cmd_enrich.specs.Columns.{delimiter_of}
use Rattle.mmdb_cmd_enrich.proofs.CellLaws.{behind_both}
use Rattle.mmdb_cmd_enrich.proofs.cells.put_cell.Goals as goal

pub returns : goal.returns
returns g c = IfOk-weaker c.put_read.result _ _
    (λ addition puts.
    let here = delimiter_of c.args.rows ∷ [] in
    let pushed : c.push.new.self.items ≡ c.args.out.now.items ++ here = search rules in
    let (cell, is, put, one) = puts (g.A.ReadAlong.reads c.args.found.now c.args.path.now) c.read_along-read.ensures in
    (cell, is, behind_both c.args.out.now.items here cell c.push.new.self.items c.put_read.new.out.items pushed put, one))
    c.put_read.ensures
