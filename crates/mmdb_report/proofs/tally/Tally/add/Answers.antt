use Rattle.std.proofs.Common.{rules, nat_eq, sym, refl, ap, ◌∙◌}
use Rattle.std.specs.Set.{is_member}
use Rattle.mmdb_reader.specs.Items.{item_view}
use Rattle.mmdb_report.proofs.AddLemmas.{adds_failure, adds_network, adds_some, adds_none, adds_ipv4, adds_ipv6}
use Rattle.mmdb_report.proofs.tally.Tally.add.Goals as goal
use Rattle.mmdb_report.proofs.tally.Tally.add.Goals.{in-Some+in-Ok-insert, in-None, in-V4, in-V6}

pub returns-in_default-clause-added : goal.returns-in_default-clause-added
returns-in_default-clause-added g c db of = adds_failure db _ _ _ _ (ap item_view c.in_default.is) refl refl refl refl refl refl

pub returns-clause-added : goal.returns-clause-added
returns-clause-added g c db of =
    adds_network db _ _ _ _ _ c.network_of-network.result _ _ (search rules) (ap item_view c.in-Ok.is) c.network_of-network.ensures (record { ipv4 = search rules; ipv6 = search rules })
    (elim c.match-network.branch [ in-V4 w ↦ ap (λ t. t.items) w.self-is | in-V6 w ↦ ap (λ t. t.items) w.self-is ])
    (elim c.match-network.branch [ in-V4 w ↦ ap (λ t. t.faults) w.self-is | in-V6 w ↦ ap (λ t. t.faults) w.self-is ])
    (elim c.match-offset.branch [
      | in-Some+in-Ok-insert v ↦ adds_some _ v.in-Some.offset _ _ (sym c.offset.ensures ∙ v.in-Some.is)
          (elim c.match-network.branch [ in-V4 w ↦ ap (λ t. t.without_data) w.self-is ∙ ap (λ t. t.1.1.1.1.0) v.self-is | in-V6 w ↦ ap (λ t. t.without_data) w.self-is ∙ ap (λ t. t.1.1.1.1.0) v.self-is ])
          (λ q. elim c.match-network.branch [
            | in-V4 w ↦ ap (λ t. is_member nat_eq t.offsets.keys q) w.self-is ∙ ap (λ t. is_member nat_eq t.1.1.1.1.1.1.0.keys q) v.self-is ∙ v.in-Ok-insert.ensures.updates.0 q
            | in-V6 w ↦ ap (λ t. is_member nat_eq t.offsets.keys q) w.self-is ∙ ap (λ t. is_member nat_eq t.1.1.1.1.1.1.0.keys q) v.self-is ∙ v.in-Ok-insert.ensures.updates.0 q
          ])
      | in-None v ↦ adds_none _ _ _ (sym c.offset.ensures ∙ v.in-None.is)
          (elim c.match-network.branch [ in-V4 w ↦ ap (λ t. t.without_data) w.self-is ∙ ap (λ t. t.1.1.1.1.0) v.self-is | in-V6 w ↦ ap (λ t. t.without_data) w.self-is ∙ ap (λ t. t.1.1.1.1.0) v.self-is ])
          (elim c.match-network.branch [ in-V4 w ↦ ap (λ t. t.offsets) w.self-is ∙ ap (λ t. t.1.1.1.1.1.1.0) v.self-is | in-V6 w ↦ ap (λ t. t.offsets) w.self-is ∙ ap (λ t. t.1.1.1.1.1.1.0) v.self-is ])
    ])
    (elim c.match-network.branch [
      | in-V4 w ↦ adds_ipv4 _ w.in-V4.field-0 _ _ _ w.in-V4.is (c.from-prefix.ensures ∙ c.prefix.ensures.value) (ap (λ t. t.by_prefix_v4) w.self-is) (ap (λ t. t.by_prefix_v6) w.self-is)
      | in-V6 w ↦ adds_ipv6 _ w.in-V6.field-0 _ _ _ w.in-V6.is (c.from-prefix.ensures ∙ c.prefix.ensures.value) (ap (λ t. t.by_prefix_v6) w.self-is) (ap (λ t. t.by_prefix_v4) w.self-is)
    ])
