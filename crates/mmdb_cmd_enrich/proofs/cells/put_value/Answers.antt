use Rattle.std.proofs.Common.{OnOk, subst, sym}
use Rattle.std.proofs.lemmas.Result.{on_ok_weaker}
use Rattle.mmdb_value.specs.Values.{value_tree}
use Rattle.mmdb_cmd_enrich.specs.Working.{PutsShown}
use Rattle.mmdb_cmd_enrich.proofs.ShownLaws.{json_put, no_text}
use Rattle.mmdb_cmd_enrich.proofs.cells.put_value.Goals as goal

pub returns-in-Lines : goal.returns-in-Lines
returns-in-Lines c =
    subst (λ r. OnOk c.put_json.result (PutsShown r (value_tree c.args.value.now) c.args.out.now.items c.put_json.new.out.items)) (sym c.in-Lines.is)
    (on_ok_weaker c.put_json.result (json_put c.in-Lines.delimiter c.args.value.now c.args.out.now.items c.put_json.new.out.items (no_text c.args.value.now c.in_default.not-String)) c.put_json.ensures)
