use Rattle.std.proofs.Common.{refl, ◌∙◌}
use Rattle.mmdb_compare.proofs.TogetherLaws.{walks_begin}
use Rattle.mmdb_compare.proofs.together.Together.new.Goals as goal

pub returns-clause-begun : goal.returns-clause-begun
returns-clause-begun g c = record { at = refl; left = walks_begin c.in_ok-new.field-0.walks.items ∙ c.in_ok-new.ensures.left }
