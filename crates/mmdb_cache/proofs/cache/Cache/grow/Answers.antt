use Rattle.std.proofs.Common.{◌∙◌}
use Rattle.mmdb_cache.proofs.Keeping.{bounded_anew}
use Rattle.mmdb_cache.proofs.cache.Cache.grow.Goals as goal

pub invariant_of-self : goal.invariant_of-self
invariant_of-self g c = bounded_anew c.self-2.inside.places.items c.in-Ok.places.items c.self-2.inside.left c.self-2.inside.most c.self-2.invariant (c.self-2.view_is ∙ c.clear.ensures) c.in-Ok.ensures
