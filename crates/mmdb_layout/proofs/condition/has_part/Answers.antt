use Rattle.std.proofs.Common.{arith}
use Rattle.std.proofs.lemmas.Bool.{false≢true}
use Rattle.mmdb_layout.proofs.condition.has_part.Goals as goal

pub returns-in-None : goal.returns-in-None
returns-in-None c = (
  (λ t. absurd (false≢true t)),
  (λ p. absurd (c.in-None.ensures p.0 (omega arith) (omega (arith, p.1.fits)) p.1)),
)
