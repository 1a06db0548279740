use Rattle.mmdb_decode.proofs.StepLaws.{read_free}
use Rattle.mmdb_decode.specs.Skipping.{skip_at, most_nested}
use Rattle.mmdb_decode.proofs.decoder.Decoder.pass_value.Goals as goal

pub returns-in-Some : goal.returns-in-Some
returns-in-Some c = rw (← c.self.view_is) (read_free skip_at _ tt c.in-Some.next c.self.invariant (c.in-Some.ensures most_nested c.self.inside.levels))
