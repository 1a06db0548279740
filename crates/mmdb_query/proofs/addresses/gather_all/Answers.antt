use Rattle.std.proofs.Common.{◌≡◌, [], ◌∷◌, ◌∙◌, ap, map, sym, subst}
use Rattle.mmdb_reader.specs.File.{Database, data_section}
use Rattle.mmdb_reader.specs.Enumeration.{database_walked, ListsRange}
use Rattle.mmdb_query.specs.Walks.{item_listed, comes_alone}
use Rattle.mmdb_query.specs.Taking.{asks}
use Rattle.mmdb_query.specs.Ends.{leaves_none}
use Rattle.mmdb_query.specs.Rows.{nothing}
use Rattle.mmdb_query.specs.Sets.{puts_addresses, needs_nothing}
use Rattle.mmdb_query.proofs.AnsweredLaws.{has_only, has_all}
use Rattle.mmdb_query.proofs.addresses.gather_all.Goals as goal

pub returns-clause-only : goal.returns-clause-only
returns-clause-only g c =
    let w = c.new.result.within in
    let l = subst (λ v. ListsRange v c.default.result []) (sym c.new.ensures) c.in-Ok.ensures.listing in
    let database = subst (λ v. database_walked v ≡ c.args.reader.now) (sym c.new.ensures) c.in-Ok.ensures.database in
    let walked = database_walked w in
    has_only
    (λ (db : Database). asks g.C.Conditions.says g.C.Conditions.is_unread puts_addresses needs_nothing leaves_none c.args.conditions.now nothing (data_section db ∷ []))
    (comes_alone w) c.default.result l.list walked c.args.reader.now c.gather.result database c.default.ensures l.is_listing
    (λ items come. come ∙ ap (map (item_listed walked)) l.comes) c.gather.ensures

pub returns-clause-all : goal.returns-clause-all
returns-clause-all g c =
    let w = c.new.result.within in
    let l = subst (λ v. ListsRange v c.default.result []) (sym c.new.ensures) c.in-Ok.ensures.listing in
    let database = subst (λ v. database_walked v ≡ c.args.reader.now) (sym c.new.ensures) c.in-Ok.ensures.database in
    let walked = database_walked w in
    has_all
    (λ (db : Database). asks g.C.Conditions.says g.C.Conditions.is_unread puts_addresses needs_nothing leaves_none c.args.conditions.now nothing (data_section db ∷ []))
    (comes_alone w) c.default.result l.list walked c.args.reader.now c.gather.result database c.default.ensures l.is_listing
    (λ items come. come ∙ ap (map (item_listed walked)) l.comes) (λ offsets unput. unput) c.gather.ensures
