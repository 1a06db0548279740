use Rattle.std.proofs.Common.{◌∙◌, ap}
use Rattle.mmdb_cmd_diff.proofs.Gathering.{goes-cleared}
use Rattle.mmdb_cmd_diff.proofs.comparison.compare_waiting.Goals as goal

pub returns-clause-goes_on : goal.returns-clause-goes_on
returns-clause-goes_on g c left compared so =
    let shows = c.show_compared.ensures.same in
    goes-cleared left c.args.so_far.now c.compare_each.new.so_far c.show_compared.new.so_far _ _ c.in_ok-compare_each.ensures.same
    (record { shown = shows.shown; layout = shows.layout; kinds = shows.kinds }) c.show_compared.ensures.changes (ap (λ p. p.kept) c.show_compared.ensures.pairs)
    (ap (λ w. w.stretches.items) c.show_compared.ensures.waiting ∙ c.clear.ensures.stretches) (ap (λ w. w.offsets.items) c.show_compared.ensures.waiting ∙ c.clear.ensures.offsets)
    (c.in_ok-compare_each.ensures.told left compared so) (c.in_ok-compare_each.ensures.ready left compared so)
