use Rattle.mmdb_decode.proofs.SkipLaws.{scalar_left, skip_begun, begun_there}
use Rattle.mmdb_decode.proofs.decoder.Decoder.try_skip_scalar.Goals as goal

pub returns-in-Some : goal.returns-in-Some
returns-in-Some c = let started = rw (← c.self.view_is) at c.requires in rw (← c.self.view_is) (scalar_left _ c.in-Some.next c.self.invariant started (c.in-Some.ensures c.self.inside.levels))

pub unreachable-requires : goal.unreachable-requires
unreachable-requires c =
    let before = rw (← c.again.ensures, ← c.here.view_is) at c.requires in
    let behind = skip_begun _ c.try_skip-passed.new.self _ c.try_skip-passed.ensures before in
    let there = rw (← c.here-in-None.view_is) at behind in
    begun_there c.here-in-None.inside.budget there c.in_default.not-Some
