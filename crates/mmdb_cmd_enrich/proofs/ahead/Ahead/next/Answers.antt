use Rattle.std.proofs.Common.{rules, ◌≡◌, ◌<◌, ◌≤◌, [], length, slice_index_or, refl, arith}
use Rattle.std.specs.declared.net.ip_addr.IpAddr.TheVariants.{V4}
use Rattle.mmdb_addresses.specs.Spelling.{spelling}
use Rattle.mmdb_cmd_enrich.proofs.AheadLaws.{spelled_at, numbered}
use Rattle.mmdb_cmd_enrich.proofs.ahead.Ahead.next.Goals as goal

pub returns-clause-spelled : goal.returns-clause-spelled
returns-clause-spelled c =
    let ahead = c.args.self.now in
    let below : ahead.next < ahead.count = search rules in
    let copy = c.index-self-at.result in
    let there : slice_index_or ahead.texts ahead.next copy ≡ copy = search rules in
    let same : spelling copy ≡ c.args.text.now = search rules in
    (c.args.text.now, refl, spelled_at c.args.reading ahead.texts ahead.addresses ahead.count ahead.next copy c.args.text.now (V4 (record { octets = [] })) below there same c.requires.spelled)

pub returns-clause-number : goal.returns-clause-number
returns-clause-number c =
    let ahead = c.args.self.now in
    let below : ahead.next < ahead.count = search rules in
    let within : ahead.count ≤ length ahead.addresses = omega (arith, c.requires.few) in
    numbered ahead.addresses ahead.count ahead.next (V4 (record { octets = [] })) below within
