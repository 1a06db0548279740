use Rattle.std.proofs.Common.{ℕ, sym, ap, ◌∙◌}
use Rattle.mmdb_format.specs.Views.{content_view}
use Rattle.mmdb_costs.specs.declared.cost.Cost.{Cost}
use Rattle.mmdb_costs.proofs.Adding.{scalar_costs}
use Rattle.mmdb_costs.proofs.kept_costs.scalar_part.Goals as goal

of_bytes : ℕ → Cost
of_bytes bytes = record { values = 1; bytes = bytes }

pub returns : goal.returns
unfolding of_bytes
returns c = scalar_costs c.args.section.now c.args.header (content_view c.in-Ok.content) _ (sym c.in-Ok.ensures.value) c.content_end.ensures (c.in_ok-of.ensures.cost ∙ ap of_bytes c.payload.ensures) c.in_ok-of.ensures.within
