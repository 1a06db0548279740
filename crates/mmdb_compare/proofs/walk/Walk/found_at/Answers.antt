use Rattle.std.proofs.Common.{ap, subst}
use Rattle.std.specs.declared.net.ip_addr.IpAddr.{IpAddr}
use Rattle.mmdb_reader.specs.File.{Database}
use Rattle.mmdb_compare.specs.Found.{IsFoundAt, numbered_ip}
use Rattle.mmdb_compare.specs.Walks.{Standing}
use Rattle.mmdb_compare.proofs.FoundLaws.{looked_up}
use Rattle.mmdb_compare.proofs.walk.Walk.found_at.Goals as goal

pub returns : goal.returns
returns g c =
    let i = c.self.inside in
    let e = c.lookup.ensures in
    let db = ap (λ (s : Standing). s.database) c.self.view_is in
    let there = looked_up i.reader.now c.address_of.result c.lookup.result c.ok.result c.ok.ensures.value e.answered e.shown e.database e.of_input e.of_database e.no_other in
    let asked = subst (λ (address : IpAddr). IsFoundAt i.reader.now address c.ok.result) c.address_of.ensures there in
    subst (λ (d : Database). IsFoundAt d (numbered_ip c.args.address) c.ok.result) db asked
