use Rattle.std.proofs.Common.{◌≡◌, ◌∙◌, true, false, subst, ◌↔◌}
use Rattle.std.specs.Bool.{IsTrue}
use Rattle.std.specs.Net.Addr.{is_ipv4}
use Rattle.mmdb_net.specs.Network.{ip_of}
use Rattle.mmdb_query.specs.Abreast.{IsOfIpv4}
use Rattle.mmdb_query.specs.Parts.{has_range}
use Rattle.mmdb_query.proofs.PartLaws.{range_had, range_shown, network_shown}
use Rattle.mmdb_query.proofs.part.clip_to.Goals as goal

pub returns-then-has_block : goal.returns-then-has_block
returns-then-has_block c = λ had is.
    let range = c.args.range in
    let part = c.of_network-part in
    let whole = c.of_network in
    let made = c.network_of_block in
    let starts : has_range had range ≡ true =
    range_had had range c.args.network whole.result part.result c.has_block.result is whole.ensures.bits part.ensures.bits c.has_block.ensures ∙ c.if-has_block.true in
    range_shown had range c.args.network made.result part.result is part.ensures.block part.ensures.bits starts
    (subst (λ b. IsTrue (is_ipv4 (ip_of made.result)) ↔ IsOfIpv4 b part.result) c.is_one_ipv4.ensures made.ensures.kind) made.ensures.bits made.ensures.masked

pub returns-else-has_block : goal.returns-else-has_block
returns-else-has_block c = λ had is.
    let range = c.args.range in
    let part = c.of_network-part in
    let whole = c.of_network in
    let lacks : has_range had range ≡ false =
    range_had had range c.args.network whole.result part.result c.has_block.result is whole.ensures.bits part.ensures.bits c.has_block.ensures ∙ c.if-has_block.false in
    network_shown had range lacks
