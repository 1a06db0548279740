use Rattle.std.proofs.Common.{◌∙◌, ap, sym, not, ◌&&◌, ◌==◌}
use Rattle.mmdb_net.specs.Network.{prefix_of}
use Rattle.mmdb_report.proofs.CountLemmas.{counted_ipv4, counted_ipv6}
use Rattle.mmdb_report.proofs.laws.counts_are_of_networks.Goals as goal

pub returns : goal.returns
returns c db leaf offset as_ipv4 network prefix shown = (
  counted_ipv4 db leaf offset as_ipv4 network prefix shown ∙ ap (λ k. k && (prefix_of network == prefix)) (sym shown.kind),
  counted_ipv6 db leaf offset as_ipv4 network prefix shown ∙ ap (λ k. not k && (prefix_of network == prefix)) (sym shown.kind),
)
