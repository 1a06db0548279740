use Rattle.std.proofs.Common.{[], ◌∷◌, None, sym, subst}
use Rattle.std.specs.declared.net.ip_addr.IpAddr.TheVariants.{V6}
use Rattle.mmdb_cmd_enrich.specs.Layers.{AreKeysFor}
use Rattle.mmdb_cmd_enrich.proofs.FirstLaws.{one_keys}
use Rattle.mmdb_cmd_enrich.proofs.ask.OneDatabaseAsk.keys.Goals as goal

pub returns-in-V6-clause-keys : goal.returns-in-V6-clause-keys
returns-in-V6-clause-keys g c =
    let dbs = c.args.self.now.reader.now ∷ [] in
    let all = c.key_long-all.result in
    subst (λ a. AreKeysFor dbs a (record { all = all; first = None })) (sym c.in-V6.is) (one_keys dbs (V6 c.in-V6.long) all c.key_long-all.ensures)
