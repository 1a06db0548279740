use Rattle.mmdb_cmd_enrich.specs.Stretches.{AreAsked}
use Rattle.mmdb_cmd_enrich.specs.Tasks.{IsMemberAsked}
use Rattle.mmdb_cmd_enrich.proofs.CopiedLaws.{all_copied, on_both}
use Rattle.mmdb_cmd_enrich.proofs.lines.copy_all_objects.Goals as goal

pub returns : goal.returns
returns g c =
    let input = g.I.Read.remaining c.args.input.now in
    let mid = g.I.Read.remaining c.copy_mark.new.input in
    let left = g.I.Read.remaining c.copy_objects.new.input.input.now in
    let old = g.O.Write.contents c.args.console.now.out.now.out.now in
    let now = g.O.Write.contents c.copy_mark.new.out.out.now in
    let new = g.O.Write.contents c.copy_objects.new.console.out.now.out.now in
    on_both c.copy_objects.result
    (all_copied c.args.passage.now.rows (AreAsked c.args.passage.now.reloads c.args.databases.now.items (IsMemberAsked c.args.arguments.now)) input mid left old now new c.args.passage.now.counts c.copy_objects.new.passage.counts c.in_ok-copy_mark.ensures)
    c.copy_objects.ensures.whole c.copy_objects.ensures.end
