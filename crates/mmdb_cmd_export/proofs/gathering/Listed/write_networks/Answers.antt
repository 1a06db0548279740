use Rattle.std.proofs.Common.{◌≡◌, OnOk, IfErr, sym, subst}
use Rattle.mmdb_blocks.specs.Lists.{Prints}
use Rattle.mmdb_layout.specs.Networks.{items_in}
use Rattle.mmdb_reader.specs.Enumeration.{database_walked, items_to_come}
use Rattle.mmdb_query.specs.Walks.{comes_alone, section_walked}
use Rattle.mmdb_cmd_export.specs.Listed.{may_be_empty_of, IsListOfFewest, ListOfFewestFails, ComesOfDatabase, asked_of_database}
use Rattle.mmdb_cmd_export.proofs.ListedLaws.{of-walk, written-of, fails-of}
use Rattle.mmdb_cmd_export.proofs.gathering.Listed.write_networks.Goals as goal

pub returns : goal.returns
returns g c =
    let db = c.args.database.now in
    let kinds = c.args.self.now.kinds in
    let task = c.args.self.now.task.now in
    let asked = asked_of_database task.conditions.items db in
    let may = may_be_empty_of task in
    let w = c.new.result.within in
    let range = c.range-range.result in
    let before = g.O.Write.contents c.args.out.now in
    let after = g.O.Write.contents c.write_along.new.out in
    let r = c.write_along.result in
    let of = of-walk db range w c.networks_ascend.ensures c.range_walk.ensures.listing
    (subst (λ v. database_walked v ≡ db) (sym c.new.ensures) c.in-Ok.ensures.database)
    (subst (λ v. items_to_come v ≡ items_in db range) (sym c.new.ensures) c.in-Ok.ensures.listed) in
    record {
      written = subst (λ n. OnOk r (Prints (IsListOfFewest (ComesOfDatabase db n kinds) asked c.args.syntax task.kinds may) before after)) c.range-range.ensures
          (written-of db range kinds (comes_alone w) (section_walked w) of task.conditions.items task.kinds c.args.syntax may r before after c.write_along.ensures.fewest);
      failed = subst (λ n. IfErr r (ListOfFewestFails (ComesOfDatabase db n kinds) asked task.kinds may before after)) c.range-range.ensures
          (fails-of db range kinds (comes_alone w) (section_walked w) of task.conditions.items task.kinds may r before after c.write_along.ensures.failed);
    }
