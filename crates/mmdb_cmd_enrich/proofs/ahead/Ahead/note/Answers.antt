use Rattle.std.proofs.Common.{rules, ◌<◌, length, subst, sym}
use Rattle.mmdb_addresses.specs.Addresses.{IsAddressIn}
use Rattle.mmdb_addresses.specs.Spelling.{spelling}
use Rattle.mmdb_cmd_enrich.proofs.AheadLaws.{spelled_more}
use Rattle.mmdb_cmd_enrich.proofs.ahead.Ahead.note.Goals as goal

pub returns-clause-spelled : goal.returns-clause-spelled
returns-clause-spelled c =
    let texts = c.args.self.now.texts in
    let addresses = c.args.self.now.addresses in
    let room : c.args.count < length texts = search rules in
    let place : c.args.count < length addresses = search rules in
    let spells : IsAddressIn c.args.reading (spelling c.in-Some.copy) c.in-Some-address_in.address = subst (λ t. IsAddressIn c.args.reading t c.in-Some-address_in.address) (sym c.in-Some.ensures) c.in-Some-address_in.ensures in
    spelled_more c.args.reading texts addresses c.args.count c.in-Some.copy c.in-Some-address_in.address room place spells c.requires.spelled
