use Rattle.mmdb_query.specs.Listings.{leaves_listed}
use Rattle.mmdb_query.specs.Rows.{nothing}
use Rattle.mmdb_query.specs.Sets.{needs_nothing}
use Rattle.mmdb_query.proofs.OrderLaws.{listed_whole}
use Rattle.mmdb_query.proofs.laws.ascending_list_is_of_fewest.Goals as goal

pub returns : goal.returns
returns g c conditions s items put unread old new text run =
    listed_whole (g.C.Conditions.says conditions s) (g.C.Conditions.is_unread conditions s) (needs_nothing nothing s) s items put unread old new text (leaves_listed nothing s)
    c.list_is_of_fewest.ensures run
